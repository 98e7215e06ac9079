-- The moves done are the sum of the counts reported since the growth began, on the flat list. Assumes nothing.
use Prim.Native.Nat.{ℕ, zero, suc}
use mathlib.Core.Path.{◌≡◌, refl, sym, ◌∙◌}
use mathlib.Core.Bool.{Bool, true, false, cond}
use mathlib.Core.Logic.{◌↔◌, ◌≢◌}
use mathlib.Core.List.{List}
use lib.ListN.{length}
use Rattle.layout.specs.declared.Geometry.{Geometry}
use Rattle.layout.specs.Layout.{total_of}
use Rattle.state.specs.declared.types.Record.{Record}
use Rattle.state.specs.Update.{with_health}
use Rattle.calls.specs.Call.{Call, Fed, Answer, accepted, count}
use Rattle.calls.specs.Table.{idle, refusal}
use Rattle.calls.proofs.Laws.Table.{none_left, over}
use Rattle.history.specs.Flat.{Flat, flat, flat_act, flat_settle, flat_step}
use Rattle.history.specs.Theorem.{tallied, tally}
use Rattle.history.proofs.Laws.Look.{Uncounted, Look, opens, puts, grows, moves, turns, tells, look}

-- once there are new disks, t is the sum
unfoldable pub Counted : Flat → ℕ → Type 0
Counted f sum = f.numbers.new ≢ 0 → f.numbers.moves ≡ sum

-- a call that is not counted leaves the sum
same_sum : (c : Call) (a : Answer) (sum : ℕ) → Uncounted c → tally c a sum ≡ sum
unfolding tally
same_sum c a sum u = go (accepted a)
  where
    go : (b : Bool) → cond b (tallied c (count a) sum) sum ≡ sum
    go true = u (count a) sum
    go false = refl

-- so where it leaves m and t, t is the sum still
uncounted : (c : Call) (a : Answer) (r r' : Record) (bs : List (List ℕ)) (sum : ℕ) → Uncounted c → r'.new ≡ r.new → r'.moves ≡ r.moves
    → (r.new ≢ 0 → r.moves ≡ sum) → Counted (flat r' bs) (tally c a sum)
unfolding Counted
uncounted c a r r' bs sum u same-m same-t h q = same-t ∙ h (λ z. q (same-m ∙ z)) ∙ sym (same_sum c a sum u)

counted-act : {c : Call} (r : Record) (bs : List (List ℕ)) (sum : ℕ) → Look r bs c → (r.new ≢ 0 → r.moves ≡ sum)
    → Counted (flat_act c r bs).1 (tally c (flat_act c r bs).0 sum)
unfolding Counted flat_act tallied tally
counted-act r bs sum (opens n B T) h = λ q. absurd (q refl)
counted-act r bs sum (puts b v s) h = h
counted-act r bs sum (grows m s) h = λ q. refl
counted-act r bs sum (moves k s) h = λ q. rw (h q)
counted-act r bs sum (turns c x e u s) h = rw e (uncounted c (flat_act c r bs).0 r (with_health r x) bs sum u refl refl h)
counted-act r bs sum (tells c e u) h = rw e (uncounted c (flat_act c r bs).0 r r bs sum u refl refl h)

pub counted_step : (e : Fed) (f : Flat) (sum : ℕ) → Counted f sum → Counted (flat_step e f).1 (tally e.call (flat_step e f).0 sum)
unfolding flat_step Counted tally
counted_step e f sum h = go (refusal f.numbers (length f.blocks) e)
  where
    acted : Answer × Flat
    acted = flat_act e.call f.numbers f.blocks

    go : (n : ℕ) → Counted (flat_settle n f acted).1 (tally e.call (flat_settle n f acted).0 sum)
    go zero = counted-act f.numbers f.blocks sum (look f.numbers f.blocks e.call) h
    go (suc n) = h

-- so the growth is over exactly when the sum is the total
pub over-is : (g : Geometry) (sum : ℕ) → (g.new ≢ 0 → g.moves ≡ sum) → g.new ≢ 0 → (idle g ≡ true) ↔ (sum ≡ total_of g)
over-is g sum h nz = ((λ q. sym (h nz) ∙ none_left g nz q), λ q. over g (h nz ∙ q))
