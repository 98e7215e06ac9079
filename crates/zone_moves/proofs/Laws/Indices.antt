-- The indices that are listed are those of one zone's moves. Assumes nothing.
use Prim.Native.Nat.{ℕ, zero, suc, ◌+◌, ◌-◌, ◌*◌, ◌/◌, ◌%◌, ◌<◌}
use mathlib.Core.Path.{◌≡◌, refl, sym, ap, ◌∙◌}
use mathlib.Core.List.{[], ◌∷◌}
use mathlib.Core.Logic.{inl, inr}
use native.Mathlib.Nat.{mod-lt, div-add-mod', div-lt_iff_lt-mul}
use native.Mathlib.Omega.{arith}
use lib.Arith.{digits_lt}
use lib.ListN.{length, get_or, length-append, get_or-append}
use lib.Seq.{get_or_at}
use Rattle.layout.specs.Moves.{move_zone, move_to, move_lag}
use Rattle.zone_moves.specs.Listing.{indices, zone_moves}
use Rattle.zone_moves.specs.Exact.{ZoneMoves}
use Rattle.layout.proofs.Laws.Basics.{le-or-lt}
use Rattle.layout.proofs.Laws.Lag.{index, to-above, to_below, lag-below}
use Rattle.layout.proofs.Laws.Order.{zone-of}

pub length-indices : (first count : ℕ) → length (indices first count) ≡ count
unfolding indices
length-indices first zero = refl
length-indices first (suc count) = omega (arith, length-append (indices first count) ((first + count) ∷ []), length-indices first count)

pub nth-index : (first count j : ℕ) → j < count → get_or (indices first count) j 0 ≡ first + j
unfolding indices
nth-index first zero j h = absurd (omega arith)
nth-index first (suc count) j h =
    elim (le-or-lt count j) [
      | inl k ↦
          (let e : j ≡ count = omega arith in
          rw e (get_or_at (indices first count) (first + count) [] 0 count (length-indices first count)))
      | inr k ↦
          get_or-append (indices first count) ((first + count) ∷ []) 0 j (omega (arith, length-indices first count))
          ∙ nth-index first count j k
    ]

module _ (n m z : ℕ) (pn : 0 < n) (pm : 0 < m) where
  -- the m * n indices from z * m * n on have zone z ..
  zone-from : (j : ℕ) → j < m * n → move_zone n m (z * m * n + j) ≡ z
  zone-from j h =
      let q : j / n < m = (div-lt_iff_lt-mul pn).1 h in
      let e : n + j / n - n ≡ j / n = omega arith in
      let f : (z * m + (n + j / n - n)) * n + j % n ≡ z * m * n + j = rw e (omega (arith, div-add-mod' j n)) in
      ap (move_zone n m) (sym f) ∙ zone-of n m pn pm z (n + j / n) (j % n) (omega arith) (omega arith) (mod-lt j pn)

  -- .. and no others have it
  from-zone : (k : ℕ) → move_zone n m k ≡ z → (j : ℕ) × (j < m * n) × (z * m * n + j ≡ k)
  from-zone k e =
      let l : (move_to n m k - n) * n + move_lag n k < m * n =
      digits_lt (omega (arith, to-above n m pn pm k, to_below n m pn pm k)) (lag-below n m pn pm k) in
      let f : k ≡ (z * m + (move_to n m k - n)) * n + move_lag n k = rw e at (index n m pn pm k) in
      ((move_to n m k - n) * n + move_lag n k, l, omega arith)

  listed : (first count : ℕ) → first ≡ z * m * n → count ≡ m * n → ZoneMoves n m z (indices first count)
  listed first count e c =
      let l = length-indices first count in
      record {
        of_zone =
            λ j h.
            (let i : j < count = omega arith in
            rw (nth-index first count j i, e) (zone-from j (omega arith)));
        all =
            λ k q.
            (let f = from-zone k q in
            let i : f.0 < count = omega (arith, f.1) in
            (f.0, omega arith, nth-index first count f.0 i ∙ (rw e f.2)));
        rising =
            λ i j h k.
            (let a : j < count = omega arith in
            omega (arith, nth-index first count i (omega arith), nth-index first count j a));
      }

  pub zone-moves : ZoneMoves n m z (zone_moves n m z)
  unfolding zone_moves
  zone-moves = listed _ _ (omega arith) (omega arith)
