-- What a view shows, and where that begins, by the choice that was made. Assumes nothing.
use Prim.Native.Nat.{ℕ, zero, suc, ◌+◌, ◌≤◌}
use mathlib.Core.Path.{◌≡◌, refl, sym, ◌∙◌}
use mathlib.Core.Bool.{Bool, true, false, cond}
use mathlib.Core.List.{List}
use native.Mathlib.Omega.{arith}
use lib.ListN.{length}
use Rattle.std.specs.Prelude.{Result, Ok, Err, IfOk}
use Rattle.layout.specs.Layout.{capacity}
use Rattle.blocks.specs.Stripe.{offset}
use Rattle.state.specs.declared.types.Record.{Record}
use Rattle.state.specs.Good.{geometry, GoodRecord}
use Rattle.access.specs.declared.types.Choice.{Choice}
use Rattle.access.specs.Viewing.{begins, choice_of, chosen_bytes, chosen_start, ends}
use Rattle.calls.specs.Call.{read, view, Event, feed, on, fed, Answer, bytes, number, shown}
use Rattle.calls.specs.Health.{absent}
use Rattle.calls.specs.Table.{refusal_of}
use Rattle.calls.specs.Effect.{standing, place_of, View, part, scratch, view_of, scratch_left, viewed, effect, called}
use Rattle.refusals.specs.declared.types.Refusal.{Refusal}
use Rattle.refusals.specs.Answers.{number_of}
use Rattle.refusals.proofs.Laws.Called.{called-refused, called-done}
use Rattle.refusals.proofs.Laws.Ready.{above-0}
use Rattle.calls.proofs.Laws.Table.{view-rows}
use Rattle.calls.proofs.Laws.Passed.{in-limits}
use Rattle.access.proofs.Laws.Reaching.{Reached, reached, inside}

module _ (r : Record) (img room : List ℕ) (b : ℕ) where
  abbrev e : Event
  e = on (view b) img room

  abbrev start : ℕ
  start = offset r.block r.stripes (place_of r b).stripe (place_of r b).disk

  -- of view v, given the call's answer: a part lies inside the images, and its bytes and its start are the call's
  abbrev Shows : View → Result Choice Refusal → Answer → List ℕ → Type 0
  Shows v x a left = (ends x r.block ≤ length img) × (chosen_bytes x r.block img left ≡ shown a)
      × ((i s : ℕ × ℕ) → chosen_start x i s ≡ begins (number a) v i s)

  let_through : (c : Bool) (left : List ℕ) → start + r.block ≤ length img
      → let v = cond c scratch (part start r.block) in Shows v (Ok (choice_of v)) (bytes (viewed v img left)) left
  let_through true left l = (omega arith, refl, λ i s. refl)
  let_through false left l = (l, refl, λ i s. refl)

  by_number : (k : ℕ) → refusal_of r (fed e) ≡ k → (x : Result Choice Refusal) → number_of x ≡ number (called e r).answer
      → IfOk x (λ y. y ≡ choice_of (view_of r b)) → Shows (view_of r b) x (called e r).answer (called e r).room
  unfolding effect view_of
  by_number zero z (Ok y) n q =
      let c : ℕ = capacity (geometry r) in
      let z' : refusal_of r (feed (read b) (length img) (length room)) ≡ 0 = sym (view-rows r c (length img) (length room) b) ∙ z in
      let good : GoodRecord r = in-limits r c (feed (read b) (length img) (length room)) refl z' in
      let t : Reached r (length img) b (length room) (standing r b) = reached r good (length img) b (length room) z' (geometry r) refl (standing r b) refl in
      let l : start + length room ≤ length img = inside t refl in
      rw (called-done e r z, q) (let_through (absent r.health (place_of r b).stripe (place_of r b).disk) (scratch_left r img b room) (rw t.whole at l))
  by_number zero z (Err f) n q = absurd (above-0 f (rw (called-done e r z) at n))
  by_number (suc k) z (Ok y) n q = absurd (let w = rw (called-refused e r (suc k) z (omega arith)) at n in omega (arith, w))
  by_number (suc k) z (Err f) n q = rw (called-refused e r (suc k) z (omega arith)) (omega arith, refl, λ i s. refl)

  pub shows : (x : Result Choice Refusal) → number_of x ≡ number (called e r).answer → IfOk x (λ y. y ≡ choice_of (view_of r b))
      → Shows (view_of r b) x (called e r).answer (called e r).room
  shows = by_number (refusal_of r (fed e)) refl
