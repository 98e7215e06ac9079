-- Advance: k moves, or as many as are left. What one move keeps they keep: the parity values, and the list, lengthened by what they open. Assumes nothing.
use Prim.Native.Nat.{ℕ, zero, suc, ◌+◌, ◌-◌, ◌≤◌, ◌<◌, min}
use mathlib.Core.Path.{◌≡◌, refl, sym, ap, ◌∙◌, subst}
use mathlib.Core.Bool.{Bool, true, false}
use mathlib.Core.Logic.{◌≢◌}
use mathlib.Core.List.{List, [], ◌++◌, append_assoc}
use native.Mathlib.Nat.{zero-add, suc-add}
use native.Mathlib.Omega.{arith}
use lib.ListN.{length}
use Rattle.layout.specs.declared.Geometry.{Geometry}
use Rattle.layout.specs.Layout.{capacity, total_of, layout}
use Rattle.layout.specs.Limits.{GoodArray}
use Rattle.layout.proofs.Laws.Opening.{capacity-rises}
use Rattle.state.specs.declared.types.Health.TheVariants.{Whole}
use Rattle.state.specs.declared.types.Record.{Record}
use Rattle.state.specs.Good.{geometry}
use Rattle.state.specs.Update.{with_moves}
use Rattle.calls.specs.Call.{advance, on, made}
use Rattle.calls.specs.Images.{size, place_in, Store, stored, recorded}
use Rattle.calls.specs.Table.{idle, later_rows, word}
use Rattle.calls.specs.Effect.{move_stores, advance_stores, parity_after, effect, act}
use Rattle.calls.proofs.Laws.Stores.{stored-append, recorded-append}
use Rattle.calls.proofs.Laws.Table.{some-new, some_left, none_left}
use Rattle.calls.proofs.Laws.Lists.{with-new, same-with-new, twice-with-new}
use Rattle.calls.proofs.Laws.Holding.{Holding, Leaves}
use Rattle.calls.proofs.Laws.Moved.{moved, good-moved, long-move, parity-move, holding-move}
use Rattle.calls.proofs.Laws.Passed as passed

-- the record after k moves, or as many as are left
abbrev pub advanced : ℕ → Record → Record
advanced k r = with_moves r (r.moves + min k (total_of (geometry r) - r.moves))

-- ---- what a move keeps, the moves of an advance keep; and they are as many as are asked for or left

module _ (P : Record → List ℕ → Type 0) where
  pub record Carried (k : ℕ) (r : Record) (ps : List Store) (img : List ℕ) : Type 0 where
    pub state : recorded ps r ≡ advanced k r
    pub good : GoodArray (geometry (recorded ps r))
    pub kept : P (recorded ps r) (stored r.block r.stripes ps img)

  pub carried : ((r : Record) (img : List ℕ) → GoodArray (geometry r) → idle (geometry r) ≡ false → P r img → P (moved r) (stored r.block r.stripes (move_stores r img) img))
      → (k : ℕ) (r : Record) (img : List ℕ) → GoodArray (geometry r) → r.new ≢ 0 → P r img → Carried k r (advance_stores k r img) img
  unfolding advance_stores stored recorded move_stores
  carried step zero r img gd nz p =
      record { state = ap {B = Record} (λ (x : ℕ). with_moves r x) (let e : r.moves ≡ r.moves + min 0 (total_of (geometry r) - r.moves) = omega arith in e); good = gd; kept = p }
  carried step (suc k) r img gd nz p =
      go (idle (geometry r)) refl (λ q. carried step k (moved r) (stored r.block r.stripes (move_stores r img) img) (good-moved r gd q) nz (step r img gd q p))
    where
      J : List ℕ
      J = stored r.block r.stripes (move_stores r img) img

      qs : List Store
      qs = advance_stores k (moved r) J

      go : (b : Bool) → idle (geometry r) ≡ b → (idle (geometry r) ≡ false → Carried k (moved r) qs J)
          → Carried (suc k) r (elim b as (λ y. List Store) [ true ↦ [] | false ↦ move_stores r img ++ qs ]) img
      go false q f =
          let ih : Carried k (moved r) qs J = f q in
          let left : r.moves < total_of (geometry r) = some_left (geometry r) gd q in
          let z : suc r.moves + min k (total_of (geometry r) - suc r.moves) ≡ r.moves + min (suc k) (total_of (geometry r) - r.moves) = omega arith in
          let hs : recorded (move_stores r img ++ qs) r ≡ recorded qs (moved r) = recorded-append (move_stores r img) qs r in
          record {
            state = hs ∙ ih.state ∙ ap {B = Record} (λ (x : ℕ). with_moves r x) z;
            good = subst (λ (x : Record). GoodArray (geometry x)) (sym hs) ih.good;
            kept = rw (hs, stored-append r.block r.stripes (move_stores r img) qs img) ih.kept;
          }
      go true q f =
          let all : r.moves ≡ total_of (geometry r) = none_left (geometry r) nz q in
          record {
            state = ap {B = Record} (λ (x : ℕ). with_moves r x) (let e : r.moves ≡ r.moves + min (suc k) (total_of (geometry r) - r.moves) = omega arith in e);
            good = gd;
            kept = p;
          }

-- the stores of i + k moves are those of i moves, and those of k more on what they leave
module _ (r : Record) (img : List ℕ) where
  abbrev rest_of : ℕ → List Store → List Store
  rest_of k ps = advance_stores k (recorded ps r) (stored r.block r.stripes ps img)

pub idle-none : (k : ℕ) (r : Record) (img : List ℕ) → idle (geometry r) ≡ true → advance_stores k r img ≡ []
unfolding advance_stores
idle-none zero r img q = refl
idle-none (suc k) r img q =
    subst (λ (b : Bool). ◌≡◌ {A = List Store} (elim b as (λ y. List Store) [ true ↦ [] | false ↦ move_stores r img ++ rest_of r img k (move_stores r img) ]) []) (sym q) refl

pub advance-split : (i k : ℕ) (r : Record) (img : List ℕ) → advance_stores (i + k) r img ≡ advance_stores i r img ++ rest_of r img k (advance_stores i r img)
unfolding advance_stores recorded stored move_stores
advance-split zero k r img = ap (λ (x : ℕ). advance_stores x r img) (zero-add k)
advance-split (suc i) k r img = ap (λ (x : ℕ). advance_stores x r img) (suc-add i k) ∙ go (idle (geometry r)) refl (advance-split i k (moved r) (stored r.block r.stripes (move_stores r img) img))
  where
    ps : List Store
    ps = move_stores r img

    J : List ℕ
    J = stored r.block r.stripes ps img

    go : (b : Bool) → idle (geometry r) ≡ b → advance_stores (i + k) (recorded ps r) J ≡ advance_stores i (recorded ps r) J ++ rest_of (recorded ps r) J k (advance_stores i (recorded ps r) J)
        → elim b as (λ y. List Store) [ true ↦ [] | false ↦ ps ++ advance_stores (i + k) (recorded ps r) J ]
        ≡ elim b as (λ y. List Store) [ true ↦ [] | false ↦ ps ++ advance_stores i (recorded ps r) J ]
        ++ rest_of r img k (elim b as (λ y. List Store) [ true ↦ [] | false ↦ ps ++ advance_stores i (recorded ps r) J ])
    go true q ih = sym (idle-none k r img q)
    go false q ih =
        let qs : List Store = advance_stores i (recorded ps r) J in
        rw (recorded-append ps qs r, stored-append r.block r.stripes ps qs img)
        (ap (λ (x : List Store). ps ++ x) ih ∙ sym (append_assoc ps qs (rest_of (recorded ps r) J k qs)))

-- ---- what the moves of an advance keep: images that hold the list they began with, as long as it is by then ..

record Moving (bs : List (List ℕ)) (r : Record) (img : List ℕ) : Type 0 where
  whole : r.health ≡ Whole
  enough : length bs ≤ capacity (geometry r)
  holding : Holding r img (with-new (geometry r) r.block bs)

moving : (bs : List (List ℕ)) (r : Record) (img : List ℕ) → GoodArray (geometry r) → idle (geometry r) ≡ false → Moving bs r img
    → Moving bs (moved r) (stored r.block r.stripes (move_stores r img) img)
moving bs r img good busy p =
    let rise : capacity (geometry r) ≤ capacity (geometry (moved r)) = capacity-rises (geometry r) good (suc r.moves) (omega arith) (some_left (geometry r) good busy) in
    record {
      whole = p.whole;
      enough = omega (arith, p.enough, rise);
      holding =
          rw (twice-with-new (geometry r) (geometry (moved r)) r.block bs p.enough rise) at
          (holding-move r img (with-new (geometry r) r.block bs) p.holding p.whole busy);
    }

-- .. and the parity values

unfoldable Parities : (ℕ → List ℕ) → Record → List ℕ → Type 0
Parities f r img = (length img ≡ size r) × ((S : ℕ) → S < r.stripes → place_in r img S ((layout (geometry r)).parity S) ≡ f S)

pub parity-kept : (k : ℕ) (r : Record) (img : List ℕ) → GoodArray (geometry r) → r.new ≢ 0 → length img ≡ size r → (S : ℕ) → S < r.stripes
    → parity_after k r img S ≡ place_in r img S ((layout (geometry r)).parity S)
unfolding Parities parity_after
parity-kept k r img good nz long S lS =
    let f : ℕ → List ℕ = λ s. place_in r img s ((layout (geometry r)).parity s) in
    let x : Carried (Parities f) k r (advance_stores k r img) img =
    carried (Parities f) (λ y J gd q p. (long-move y J gd q p.0, λ s ls. parity-move y J gd q p.0 s ls ∙ p.1 s ls)) k r img good nz (long, λ s ls. refl) in
    let p : Parities f (advanced k r) (stored r.block r.stripes (advance_stores k r img) img) =
    subst (λ (y : Record). Parities f y (stored r.block r.stripes (advance_stores k r img) img)) x.state x.kept in
    rw x.state (p.1 S lS)

-- ---- the call

module _ (r : Record) (img room : List ℕ) (bs : List (List ℕ)) (lends : length img ≡ size r → Holding r img bs) (k : ℕ) (cap len : ℕ) where
  pub advances : word (later_rows (advance k) r cap (length img) len) ≡ 0
      → Leaves (act (on (advance k) img room) r) (made (min k (total_of (geometry r) - r.moves))) (advanced k r)
      (with-new (geometry (advanced k r)) r.block bs)
  unfolding effect
  advances z =
      let q = passed.moves r cap (length img) len k z in
      let h : Holding r img bs = lends q.long in
      let g : Geometry = geometry r in
      let begun : Moving bs r img =
      record { whole = q.all_in; enough = omega (arith, h.count); holding = rw (same-with-new g r.block bs h.count) h } in
      let c : Carried (Moving bs) k r (advance_stores k r img) img = carried (Moving bs) (moving bs) k r img h.limits.array (some-new g q.busy) begun in
      let p : Moving bs (advanced k r) (stored r.block r.stripes (advance_stores k r img) img) =
      subst (λ (x : Record). Moving bs x (stored r.block r.stripes (advance_stores k r img) img)) c.state c.kept in
      record {
        answer = ap made (ap (λ (x : Record). x.moves - r.moves) c.state ∙ omega arith);
        state = c.state;
        holding = p.holding;
      }
