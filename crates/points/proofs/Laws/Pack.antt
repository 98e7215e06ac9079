-- Points packed piece by piece: a piece of one point, two pieces one after the other, and all of them. Assumes nothing.
use Prim.Native.Nat.{ℕ, zero, suc, ◌+◌, ◌*◌, ◌-◌, ◌/◌, ◌%◌, ◌<◌, ◌≤◌}
use mathlib.Core.Path.{◌≡◌, refl, sym, ap, ap₂, ◌∙◌, subst}
use mathlib.Core.List.{List, [], ◌∷◌, ◌++◌}
use native.Mathlib.Omega.{arith}
use native.Mathlib.Nat.{add-zero, sub-zero}
use lib.ListN.{length, get_or, set, length-map, get_or-map}
use lib.Seq.{take_all}
use Rattle.std.specs.Int.{w16, to_le_bytes}
use Rattle.blocks.specs.Block.{block_at, store}
use Rattle.blocks.proofs.Laws.Block.{length-store, store-nil, store-append, store-one, store_swap, store-whole, length-block_at, block_at-short, block_at-split}
use Rattle.lanes.proofs.Laws.Lanes.{block_one}
use Rattle.points.specs.declared.Side.TheVariants.{Low, High}
use Rattle.points.specs.declared.Side.{Side}
use Rattle.points.specs.Points.{points_of, minus, low, high, half, packed}
use Rattle.points.specs.Part.{side, differences_of, sides, part_packed}
use Rattle.points.proofs.Laws.Ways.{length-points, length-differences, length-sides}
use Rattle.points.proofs.Laws.Elements.{get_or-differences}

-- ---- a difference

pub is-difference : (l : List ℕ) (i : ℕ) → 1 ≤ i → 2 * i + 1 < length l → get_or (differences_of l) i 0 ≡ minus (get_or (points_of l) i 0) (get_or (points_of l) (i - 1) 0)
is-difference l zero h k = absurd (omega arith)
is-difference l (suc j) h k =
    let e : suc j - 1 ≡ j = omega arith in
    rw e (get_or-differences 0 (points_of l) j (omega (arith, length-points l)))

-- the first is from 0
pub first-is : (l : List ℕ) → 2 ≤ length l → get_or (points_of l) 0 0 < 65536 → get_or (points_of l) 0 0 ≡ get_or (differences_of l) 0 0
first-is [] h k = absurd (omega arith)
first-is (a ∷ []) h k = absurd (omega arith)
first-is (a ∷ b ∷ l) h k = omega arith

-- the two bytes of one that is d
module _ (l : List ℕ) (i : ℕ) {d : ℕ} {bytes : List ℕ} (e : d ≡ get_or (differences_of l) i 0) (f : bytes ≡ to_le_bytes w16 d) where
  pub low_is : get_or bytes 0 0 ≡ get_or (sides Low l) i 0
  low_is = ap (λ (x : List ℕ). get_or x 0 0) f ∙ ap low e ∙ sym (get_or-map low (differences_of l) i 0)

  pub high_is : d < 65536 → get_or bytes 1 0 ≡ get_or (sides High l) i 0
  high_is h =
      let whole : d / 256 % 256 ≡ high d = omega arith in
      ap (λ (x : List ℕ). get_or x 1 0) f ∙ whole ∙ ap high e ∙ sym (get_or-map high (differences_of l) i 0)

-- ---- pieces

pub length-differences_of : (l : List ℕ) → length (differences_of l) ≡ half l
length-differences_of l = length-differences 0 (points_of l) ∙ length-points l

pub length-side : (s : Side) (l : List ℕ) → length (sides s l) ≡ half l
length-side s l = length-map (differences_of l) (side s) ∙ length-differences_of l

-- a piece of one point, whose difference is d
pub part-one : (l t : List ℕ) (i : ℕ) {d : ℕ} {bytes : List ℕ} → i < half l → d < 65536 → d ≡ get_or (differences_of l) i 0 → bytes ≡ to_le_bytes w16 d
    → set (set t i (get_or bytes 0 0)) (half l + i) (get_or bytes 1 0) ≡ part_packed l t i 1
part-one l t i {d} {bytes} h k e f =
    let x : get_or bytes 0 0 ∷ [] ≡ block_at (sides Low l) i 1 = ap (λ (y : ℕ). y ∷ []) (low_is l i e f) ∙ block_one (sides Low l) i (omega (arith, length-side Low l)) in
    let z : get_or bytes 1 0 ∷ [] ≡ block_at (sides High l) i 1 = ap (λ (y : ℕ). y ∷ []) (high_is l i e f k) ∙ block_one (sides High l) i (omega (arith, length-side High l)) in
    ap (λ (r : List ℕ). set r (half l + i) (get_or bytes 1 0)) (sym (store-one t i (get_or bytes 0 0)) ∙ ap (store t i) x)
    ∙ sym (store-one (store t i (block_at (sides Low l) i 1)) (half l + i) (get_or bytes 1 0))
    ∙ ap (store (store t i (block_at (sides Low l) i 1)) (half l + i)) z

-- runs of the list m, one after the other
runs : (t m : List ℕ) (at i k n j : ℕ) → i + k ≤ length m → j ≡ at + k → store (store t at (block_at m i k)) j (block_at m (i + k) n) ≡ store t at (block_at m i (k + n))
runs t m at i k n j h e =
    let q : j ≡ at + length (block_at m i k) = omega (arith, length-block_at m i k h) in
    ap (λ (x : ℕ). store (store t at (block_at m i k)) x (block_at m (i + k) n)) q ∙ sym (store-append t at (block_at m i k) (block_at m (i + k) n)) ∙ ap (store t at) (sym (block_at-split m i k n))

-- two pieces, one after the other
part-part : (l t : List ℕ) (i k n : ℕ) → i + k + n ≤ half l → part_packed l (part_packed l t i k) (i + k) n ≡ part_packed l t i (k + n)
part-part l t i k n h =
    let a : List ℕ = block_at (sides Low l) i k in
    let b : List ℕ = block_at (sides High l) i k in
    let c : List ℕ = block_at (sides Low l) (i + k) n in
    let d : List ℕ = block_at (sides High l) (i + k) n in
    let apart : i + k + length c ≤ half l + i = omega (arith, block_at-short (sides Low l) (i + k) n) in
    ap (λ (r : List ℕ). store r (half l + (i + k)) d)
    (sym (store_swap (store t i a) (i + k) c (half l + i) b apart) ∙ ap (λ (r : List ℕ). store r (half l + i) b) (runs t (sides Low l) i i k n (i + k) (omega (arith, length-side Low l)) refl))
    ∙ runs (store t i (block_at (sides Low l) i (k + n))) (sides High l) (half l + i) i k n (half l + (i + k)) (omega (arith, length-side High l)) (omega arith)

pub length_part : (l t : List ℕ) (i n : ℕ) → length (part_packed l t i n) ≡ length t
length_part l t i n = length-store (store t i (block_at (sides Low l) i n)) (half l + i) (block_at (sides High l) i n) ∙ length-store t i (block_at (sides Low l) i n)

-- all of them
part-all : (l t : List ℕ) → length l % 2 ≡ 0 → length l ≡ length t → part_packed l t 0 (half l) ≡ packed l
part-all l t e k =
    let a : List ℕ = sides Low l in
    let b : List ℕ = sides High l in
    let n : half l + 0 ≡ 0 + length a = omega (arith, length-side Low l) in
    ap₂ (λ (x y : List ℕ). store (store t 0 x) (half l + 0) y) (take_all (half l) a (omega (arith, length-side Low l))) (take_all (half l) b (omega (arith, length-side High l)))
    ∙ ap (λ (j : ℕ). store (store t 0 a) j b) n
    ∙ sym (store-append t 0 a b)
    ∙ store-whole t (a ++ b) (length-sides (differences_of l) ∙ omega (arith, length-differences_of l))

-- ---- a loop over pieces

-- t is t₀ with the points from `first` to before i packed
pub record Packing (l t₀ : List ℕ) (first : ℕ) (t : List ℕ) (i : ℕ) : Type 0 where
  pub is : t ≡ part_packed l t₀ first (i - first)
  pub size : length t ≡ length t₀
  pub behind : first ≤ i
  pub within : i ≤ half l

pub packing-none : (l t : List ℕ) (first : ℕ) → first ≤ half l → Packing l t first t first
packing-none l t first h =
    let e : first - first ≡ 0 = omega arith in
    record { is = sym (ap (part_packed l t first) e ∙ ap (λ (r : List ℕ). store r (half l + first) []) (store-nil t first) ∙ store-nil t (half l + first)); size = refl; behind = omega arith; within = h }

pub packing-more : {l t₀ : List ℕ} {first : ℕ} {t t' : List ℕ} {i j : ℕ} → Packing l t₀ first t i → (n : ℕ) → i + n ≡ j → j ≤ half l → t' ≡ part_packed l t i n → Packing l t₀ first t' j
packing-more {l} {t₀} {first} {t} {t'} {i} {j} f n to h e =
    let k : ℕ = i - first in
    let at : i ≡ first + k = omega (arith, f.behind) in
    let sum : k + n ≡ j - first = omega (arith, f.behind) in
    record {
      is =
          e ∙ ap₂ (λ (r : List ℕ) (x : ℕ). part_packed l r x n) f.is at
          ∙ part-part l t₀ first k n (omega (arith, f.behind))
          ∙ ap (part_packed l t₀ first) sum;
      size = ap length e ∙ length_part l t i n ∙ f.size;
      behind = omega (arith, f.behind);
      within = h;
    }

-- ---- the whole way

-- the first point p, which is its own difference
pub packed-first : (l t : List ℕ) {p : ℕ} {bytes : List ℕ} → 2 ≤ length l → p < 65536 → p ≡ get_or (points_of l) 0 0 → bytes ≡ to_le_bytes w16 p
    → set (set t 0 (get_or bytes 0 0)) (half l) (get_or bytes 1 0) ≡ part_packed l t 0 1
packed-first l t {p} {bytes} h k e f =
    let d : p ≡ get_or (differences_of l) 0 0 = e ∙ first-is l h (subst (λ (x : ℕ). x < 65536) e k) in
    ap (λ (i : ℕ). set (set t 0 (get_or bytes 0 0)) i (get_or bytes 1 0)) (sym (add-zero (half l))) ∙ part-one l t 0 (omega arith) k d f

-- the first, lanes as far as they go, and the rest point by point
pub packed-by : (l t : List ℕ) {t₁ t₂ t₃ : List ℕ} {end : ℕ} → length l % 2 ≡ 0 → length l ≡ length t → 1 ≤ half l → t₁ ≡ part_packed l t 0 1 → 1 ≤ end → end ≤ half l → t₂ ≡ part_packed l t₁ 1 (end - 1)
    → t₃ ≡ part_packed l t₂ end (half l - end) → t₃ ≡ packed l
packed-by l t {t₁} {t₂} {t₃} {end} even alike h e o w f g =
    let first : Packing l t 0 t₁ 1 = packing-more (packing-none l t 0 (omega arith)) 1 (omega arith) h e in
    let lanes : Packing l t 0 t₂ end = packing-more first (end - 1) (omega arith) w f in
    let all : Packing l t 0 t₃ (half l) = packing-more lanes (half l - end) (omega arith) (omega arith) g in
    all.is ∙ ap (part_packed l t 0) (sub-zero (half l)) ∙ part-all l t even alike
