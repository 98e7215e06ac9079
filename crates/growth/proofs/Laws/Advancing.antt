-- Advance, move by move: what a move asks for, the moves made so far, and that after the last there are none. Assumes nothing.
use Prim.Native.Nat.{ℕ, ◌+◌, ◌-◌, ◌≤◌, ◌<◌, min}
use mathlib.Core.Path.{◌≡◌, refl, sym, ap, ap₂, ◌∙◌, subst}
use mathlib.Core.Bool.{Bool, true, false}
use mathlib.Core.Logic.{◌≢◌}
use mathlib.Core.List.{List, [], ◌++◌, append-nil}
use native.Mathlib.Decide.{dec_lt}
use native.Mathlib.Omega.{arith}
use lib.ListN.{length}
use Rattle.layout.specs.declared.Geometry.{Geometry}
use Rattle.layout.specs.declared.Cursor.{Cursor}
use Rattle.layout.specs.Moves.{cursor_at}
use Rattle.layout.specs.Layout.{total_of, capacity, home, layout, next_stripe, next_from, next_to}
use Rattle.layout.specs.Limits.{Disks, GoodArray}
use Rattle.layout.proofs.Laws.Counting.{own-index, counted-on}
use Rattle.layout.proofs.Laws.Bounds.{total-high}
use Rattle.layout.proofs.Laws.Owners.{carried_owner, Carries, carries}
use Rattle.blocks.specs.Block.{block_at, store, zeros}
use Rattle.blocks.specs.Stripe.{offset}
use Rattle.blocks.proofs.Laws.Stripe.{place-in}
use Rattle.state.specs.declared.types.Record.{Record}
use Rattle.state.specs.Good.{geometry, GoodRecord}
use Rattle.state.specs.Update.{with_moves}
use Rattle.calls.specs.Call.{advance, feed, on, made}
use Rattle.calls.specs.Images.{disks_of, size, Store, stored, recorded}
use Rattle.calls.specs.Table.{idle, refusal_of}
use Rattle.calls.specs.Effect.{move_stores, advance_stores, effect, act}
use Rattle.calls.proofs.Laws.Stores.{length-stored, stored-append}
use Rattle.calls.proofs.Laws.Table.{some-new, some_left, none_left, over}
use Rattle.calls.proofs.Laws.Passed.{passed, Moves, moves}
use Rattle.calls.proofs.Laws.Advance.{advanced, carried, idle-none, advance-split}

-- ---- one move

-- its places lie in the images
pub record Step (r : Record) (x : Cursor) : Type 0 where
  pub stripe_lt : x.stripe < r.stripes
  pub from_lt : x.from < disks_of r
  pub to-lt : x.to < disks_of r
  pub from_in : offset r.block r.stripes x.stripe x.from + r.block ≤ size r
  pub to_in : offset r.block r.stripes x.stripe x.to + r.block ≤ size r

module _ (r : Record) where
  abbrev next : Cursor
  next = cursor_at r.old r.new r.moves

  pub step : GoodRecord r → idle (geometry r) ≡ false → (x : Cursor) → x ≡ next → Step r x
  step l busy x e =
      let g : Geometry = geometry r in
      let c : Carries (disks_of r) r.stripes (layout g).owner (carried_owner (home g) g) (next_stripe g) (next_from g) (next_to g) = carries (home g) g l.array (some_left g l.array busy) in
      subst (λ (y : Cursor). Step r y) (sym e) record {
        stripe_lt = c.stripe_lt;
        from_lt = c.from_lt;
        to-lt = c.to-lt;
        from_in = place-in r.block r.stripes (next_stripe g) (next_from g) (disks_of r) c.stripe_lt c.from_lt;
        to_in = place-in r.block r.stripes (next_stripe g) (next_to g) (disks_of r) c.stripe_lt c.to-lt;
      }

  -- what its two stores leave
  pub stepped : (img : List ℕ) (x : Cursor) → x ≡ next → {from to : ℕ} → from ≡ offset r.block r.stripes x.stripe x.from → to ≡ offset r.block r.stripes x.stripe x.to
      → {J : List ℕ} → J ≡ store (store img to (block_at img from r.block)) from (zeros r.block) → J ≡ stored r.block r.stripes (move_stores r img) img
  unfolding move_stores stored
  stepped img x e ef et j =
      j
      ∙ ap₂ (λ (f t : ℕ). store (store img t (block_at img f r.block)) f (zeros r.block))
      (ef ∙ ap (λ (y : Cursor). offset r.block r.stripes y.stripe y.from) e) (et ∙ ap (λ (y : Cursor). offset r.block r.stripes y.stripe y.to) e)

-- ---- so many moves

busy-of : (g : Geometry) → g.new ≢ 0 → g.moves < total_of g → idle g ≡ false
busy-of g nz h = go (idle g) refl
  where
    go : (b : Bool) → idle g ≡ b → b ≡ false
    go true q = absurd (let z : g.moves ≡ total_of g = none_left g nz q in omega arith)
    go false q = refl

one_move : (B T : ℕ) (r : Record) (img : List ℕ) → idle (geometry r) ≡ false → stored B T (advance_stores 1 r img) img ≡ stored B T (move_stores r img) img
unfolding advance_stores stored
one_move B T r img q =
    subst (λ (b : Bool). stored B T (elim b as (λ y. List Store) [ true ↦ [] | false ↦ move_stores r img ++ [] ]) img ≡ stored B T (move_stores r img) img)
    (sym q) (stored-append B T (move_stores r img) [] img)

-- the record after k moves
state-of : (k : ℕ) (r : Record) (img : List ℕ) → GoodArray (geometry r) → r.new ≢ 0 → recorded (advance_stores k r img) r ≡ advanced k r
state-of k r img gd nz = (carried (λ x l. Unit) (λ x l g b u. tt) k r img gd nz tt).state

module _ (r : Record) (l : GoodRecord r) (nz : r.new ≢ 0) (img : List ℕ) where
  abbrev left : ℕ
  left = total_of (geometry r) - r.moves

  state-within : (k : ℕ) → k ≤ left → recorded (advance_stores k r img) r ≡ with_moves r (r.moves + k)
  state-within k h = state-of k r img l.array nz ∙ ap {B = Record} (λ (x : ℕ). with_moves r (r.moves + x)) (let e : min k left ≡ k = omega arith in e)

  -- after the last move there is none
  none-behind : (j : ℕ) → advance_stores (left + j) r img ≡ advance_stores left r img
  none-behind j =
      let ps : List Store = advance_stores left r img in
      let le : r.moves ≤ total_of (geometry r) = l.array.moves in
      let e : r.moves + left ≡ total_of (geometry r) = omega arith in
      let q : idle (geometry (recorded ps r)) ≡ true = subst (λ (x : Record). idle (geometry x) ≡ true) (sym (state-within left (omega arith))) (over (geometry (with_moves r (r.moves + left))) e) in
      advance-split left j r img
      ∙ ap (λ (x : List Store). ps ++ x) (idle-none j (recorded ps r) (stored r.block r.stripes ps img) q)
      ∙ append-nil ps

  pub as_many : (k : ℕ) → advance_stores k r img ≡ advance_stores (min k left) r img
  as_many k = go (dec_lt k left)
    where
      go : Dec (k < left) → advance_stores k r img ≡ advance_stores (min k left) r img
      go (yes h) = ap (λ (x : ℕ). advance_stores x r img) (let e : k ≡ min k left = omega arith in e)
      go (no h) =
          ap (λ (x : ℕ). advance_stores x r img) (let e : k ≡ left + (k - left) = omega arith in e) ∙ none-behind (k - left)
          ∙ ap (λ (x : ℕ). advance_stores x r img) (let e : left ≡ min k left = omega arith in e)

-- after `done` moves of count, with the cursor at the next
pub record Made (r : Record) (img : List ℕ) (count : ℕ) (J : List ℕ) (at : Cursor) (done : ℕ) : Type 0 where
  pub most : done ≤ count
  pub next : at ≡ cursor_at r.old r.new (r.moves + done)
  pub images : J ≡ stored r.block r.stripes (advance_stores done r img) img
  pub long : length J ≡ length img

pub made_none : (r : Record) (img : List ℕ) (count : ℕ) (at : Cursor) → at ≡ cursor_at r.old r.new r.moves → Made r img count img at 0
unfolding advance_stores stored
made_none r img count at e =
    record {
      most = omega arith;
      next = e ∙ ap (cursor_at r.old r.new) (let z : r.moves ≡ r.moves + 0 = omega arith in z);
      images = refl;
      long = refl;
    }

module _ (r : Record) (img : List ℕ) (count : ℕ) (l : GoodRecord r) (busy : idle (geometry r) ≡ false) (some : r.moves + count ≤ total_of (geometry r)) (lent : length img ≡ size r)
    {J : List ℕ} {at : Cursor} {done : ℕ} (h : done < count) (f : Made r img count J at done) where
  nz : r.new ≢ 0
  nz = some-new (geometry r) busy

  abbrev now : Record
  now = with_moves r (r.moves + done)

  still : idle (geometry now) ≡ false
  still = busy-of (geometry now) nz (let e : r.moves + done < total_of (geometry r) = omega arith in e)

  -- the record is good still
  pub made-good : (x : Record) → x ≡ now → GoodRecord x
  made-good x e =
      let a = l.array in
      let left : r.moves + done ≤ total_of (geometry r) = omega arith in
      rw e (record {
        array = record { disks = a.disks; stripes_low = a.stripes_low; stripes_high = a.stripes_high; moves = left };
        block_low = l.block_low;
        block_high = l.block_high;
        health = l.health;
      })

  -- what the next move asks for
  pub made-next : (x : Record) → x ≡ now → (idle (geometry x) ≡ false) × (at ≡ cursor_at x.old x.new x.moves) × (length J ≡ size x)
  made-next x e =
      subst (λ (y : Record). (idle (geometry y) ≡ false) × (at ≡ cursor_at y.old y.new y.moves) × (length J ≡ size y)) (sym e) (still, f.next, f.long ∙ lent)

  -- what counting on asks for
  pub made-index : Disks r.old r.new × (0 < r.new) × (at.index < 16777216) × (at ≡ cursor_at r.old r.new at.index)
  made-index =
      let i : at.index ≡ r.moves + done = ap (λ (x : Cursor). x.index) f.next in
      (l.array.disks, omega (arith, nz), omega (arith, i, total-high (geometry r) l.array), own-index r.old r.new (r.moves + done) at f.next)

  -- and what it leaves
  pub made_more : {x : Record} {K : List ℕ} {at' : Cursor} → x ≡ now → K ≡ stored x.block x.stripes (move_stores x J) J
      → at' ≡ cursor_at r.old r.new (at.index + 1) → Made r img count K at' (done + 1)
  made_more {x} {K} {at'} e q a =
      let ps : List Store = advance_stores done r img in
      let B : ℕ = r.block in
      let T : ℕ = r.stripes in
      let S : List ℕ = stored B T ps img in
      let q' : K ≡ stored B T (advance_stores (done + 1) r img) img =
      q ∙ ap (λ (y : Record). stored y.block y.stripes (move_stores y J) J) e
      ∙ ap (λ (y : List ℕ). stored B T (move_stores now y) y) f.images
      ∙ sym (one_move B T now S still)
      ∙ ap (λ (y : Record). stored B T (advance_stores 1 y S) S) (sym (state-within r l nz img done (omega arith)))
      ∙ sym (stored-append B T ps (advance_stores 1 (recorded ps r) S) img)
      ∙ ap (λ (y : List Store). stored B T y img) (sym (advance-split done 1 r img)) in
      record {
        most = omega arith;
        next = counted-on r.old r.new (r.moves + done) (r.moves + (done + 1)) at at' f.next (omega arith) a;
        images = q';
        long = ap length q' ∙ length-stored B T (advance_stores (done + 1) r img) img;
      }

-- ---- the call

module _ (img : List ℕ) (r : Record) (l : GoodRecord r) (k : ℕ) (z : refusal_of r (feed (advance k) (length img) 0) ≡ 0) where
  lets : Moves r (length img)
  lets = moves r (capacity (geometry r)) (length img) 0 k (passed r (capacity (geometry r)) (feed (advance k) (length img) 0) z)

  -- what making moves asks for, of which there are so many
  pub advance-passed : (count : ℕ) → r.moves + count ≤ total_of (geometry r)
      → (idle (geometry r) ≡ false) × (r.moves + count ≤ total_of (geometry r)) × (length img ≡ size r)
  advance-passed count some = (lets.busy, some, lets.long)

  pub advance-done : (count : ℕ) → count ≡ min k (total_of (geometry r) - r.moves)
      → let x = act (on (advance k) img []) r in
      (made count ≡ x.answer) × (with_moves r (r.moves + count) ≡ x.state) × (stored r.block r.stripes (advance_stores count r img) img ≡ x.images)
  unfolding effect
  advance-done count e =
      let nz : r.new ≢ 0 = some-new (geometry r) lets.busy in
      let x : Record = with_moves r (r.moves + count) in
      let same : advance_stores k r img ≡ advance_stores count r img = as_many r l nz img k ∙ ap (λ (n : ℕ). advance_stores n r img) (sym e) in
      let state : recorded (advance_stores k r img) r ≡ x = state-of k r img l.array nz ∙ ap {B = Record} (λ (n : ℕ). with_moves r (r.moves + n)) (sym e) in
      let rise : count ≡ r.moves + count - r.moves = omega arith in (
        ap made (rise ∙ ap (λ (y : Record). y.moves - r.moves) (sym state)),
        sym state,
        ap (λ (ps : List Store). stored r.block r.stripes ps img) (sym same),
      )
