-- The two ways undo each other, what packed bytes are, and when a call is refused, as specs/Theorem.antt says it. Assumes nothing.
use Prim.Native.Nat.{ℕ, suc, ◌+◌, ◌%◌, ◌<◌}
use mathlib.Core.Path.{◌≡◌, refl, sym, ap, ap₂, ◌∙◌}
use mathlib.Core.Bool.{true, false}
use mathlib.Core.List.{List}
use native.Mathlib.Omega.{arith}
use lib.ListN.{length, get_or}
use Rattle.blocks.specs.Block.{AreBytes}
use Rattle.blocks.specs.Number.{two}
use Rattle.blocks.proofs.Laws.Number.{two_back}
use Rattle.points.specs.Points.{points_of, differences, low, high, side_by_side, plus, from_sides, sums, bytes_of, packed, unpacked}
use Rattle.points.specs.Answer.{refused, answer, filled}
use Rattle.points.specs.Part.{differences_of}
use Rattle.points.specs.Theorem.{BothWays, point_at, difference_at, Differences, Fills}
use Rattle.points.proofs.Laws.Ways.{plus-minus, points-bytes, bytes-points, length-points, length-bytes, points-below, bytes_below, sums-differences, differences-sums, length-sums, differences-below, sums-below, length-sides, from-sides, to-sides, length-from-sides, from-sides-below, sides-below}
use Rattle.points.proofs.Laws.Elements.{get_or-points, get_or-differences, get_or-first, get_or-second}
use Rattle.points.proofs.Laws.Answer.{refused-odd, refused-unlike, not-refused}
use Rattle.points.proofs.Laws.Pack.{first-is, length-differences_of}

back : (l : List ℕ) → AreBytes l → length l % 2 ≡ 0 → unpacked (packed l) ≡ l
back l h e =
    ap (λ (ds : List ℕ). bytes_of (sums ds)) (from-sides (differences (points_of l)))
    ∙ ap bytes_of (sums-differences 0 (points_of l) (omega arith) (points-below l h))
    ∙ bytes-points l h e

there : (l : List ℕ) → AreBytes l → length l % 2 ≡ 0 → packed (unpacked l) ≡ l
there l h e =
    ap (λ (ps : List ℕ). side_by_side (differences ps)) (points-bytes (sums (from_sides l)))
    ∙ ap side_by_side (differences-sums 0 (from_sides l) (omega arith) (from-sides-below l h))
    ∙ to-sides l h e

packed_length : (l : List ℕ) → length l % 2 ≡ 0 → length (packed l) ≡ length l
packed_length l e = length-sides (differences_of l) ∙ omega (arith, length-differences_of l)

unpacked_length : (l : List ℕ) → length l % 2 ≡ 0 → length (unpacked l) ≡ length l
unpacked_length l e = length-bytes (sums (from_sides l)) ∙ omega (arith, length-sums 0 (from_sides l), length-from-sides l e)

pub both_ways : BothWays
both_ways =
    record {
      back = back;
      there = there;
      packed_length = packed_length;
      unpacked_length = unpacked_length;
      packed_bytes = λ l. sides-below (differences (points_of l)) (differences-below 0 (points_of l));
      unpacked_bytes = λ l. bytes_below (sums (from_sides l)) (sums-below 0 (from_sides l));
    }

-- ---- in bare numbers

module _ (l : List ℕ) (n : ℕ) (e : length l ≡ n + n) where
  count : length (differences_of l) ≡ n
  count = length-differences_of l ∙ omega arith

  point-is : (i : ℕ) → i < n → get_or (points_of l) i 0 ≡ point_at l i
  point-is i h = get_or-points l i (omega arith)

  difference-is : (i : ℕ) → i < n → difference_at l n i ≡ get_or (differences_of l) i 0
  difference-is i h =
      let a : get_or (packed l) i 0 ≡ low (get_or (differences_of l) i 0) = get_or-first (differences_of l) i (omega (arith, count)) in
      let b : get_or (packed l) (n + i) 0 ≡ high (get_or (differences_of l) i 0) = ap (λ (k : ℕ). get_or (packed l) (k + i) 0) (sym count) ∙ get_or-second (differences_of l) i in
      ap₂ two a b ∙ two_back (get_or (differences_of l) i 0)

  module _ (are : AreBytes l) where
    first : 0 < n → difference_at l n 0 ≡ point_at l 0
    first h = difference-is 0 h ∙ sym (first-is l (omega arith) (points-below l are 0)) ∙ point-is 0 h

    next : (i : ℕ) → suc i < n → (point_at l i + difference_at l n (suc i)) % 65536 ≡ point_at l (suc i)
    next i h =
        ap₂ plus (sym (point-is i (omega arith))) (difference-is (suc i) h ∙ get_or-differences 0 (points_of l) i (omega (arith, length-points l)))
        ∙ plus-minus (get_or (points_of l) (suc i) 0) (get_or (points_of l) i 0) (points-below l are (suc i)) (points-below l are i)
        ∙ point-is (suc i) h

pub differences-are : Differences
differences-are = record { first = λ l n are e. first l n e are; next = λ l n i are e. next l n e are i }

-- ---- answers

module _ (way : List ℕ → List ℕ) (source target : List ℕ) where
  refusal : refused source target ≡ true → (answer source target ≡ 11) × (filled way source target ≡ target)
  refusal e = rw e (refl, refl)

  acceptance : refused source target ≡ false → (answer source target ≡ 0) × (filled way source target ≡ way source)
  acceptance e = rw e (refl, refl)

pub fills : Fills
fills =
    record {
      odd = λ way s t e. refusal way s t (refused-odd s t e);
      unlike = λ way s t ne. refusal way s t (refused-unlike s t ne);
      done = λ way s t e q. acceptance way s t (not-refused s t e q);
    }
