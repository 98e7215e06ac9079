-- What stands where in each list on the two ways. Assumes nothing.
use Prim.Native.Nat.{ℕ, zero, suc, ◌+◌, ◌*◌, ◌%◌, ◌<◌}
use mathlib.Core.Path.{◌≡◌, refl, sym, ap, ap₂, ◌∙◌}
use mathlib.Core.List.{List, [], ◌∷◌, map}
use native.Mathlib.Nat.{add-zero}
use native.Mathlib.Numerals.{add-one}
use native.Mathlib.Omega.{arith}
use lib.ListN.{length, get_or, take, drop, length-map, get_or-append, get_or-map}
use lib.Seq.{get_or-take, get_or-drop, get_or-append-add, drop-cons, drop-drop}
use Rattle.blocks.specs.Number.{two}
use Rattle.points.specs.Points.{points_of, minus, differences_from, low, high, side_by_side, joined, half, from_sides, plus, sums_from, bytes_of}
use Rattle.points.proofs.Laws.Ways.{length-first, length-second}

pub get_or-points : (l : List ℕ) (i : ℕ) → 2 * i + 1 < length l → get_or (points_of l) i 0 ≡ two (get_or l (2 * i) 0) (get_or l (2 * i + 1) 0)
get_or-points [] i h = absurd (omega arith)
get_or-points (a ∷ []) i h = absurd (omega arith)
get_or-points (a ∷ b ∷ l) zero h = refl
get_or-points (a ∷ b ∷ l) (suc i) h =
    let e : 2 * suc i ≡ suc (suc (2 * i)) = omega arith in
    let f : suc (suc (2 * i)) + 1 ≡ suc (suc (2 * i + 1)) = omega arith in
    rw (e, f) (get_or-points l i (omega arith))

pub get_or-differences : (q : ℕ) (ps : List ℕ) (i : ℕ) → suc i < length ps → get_or (differences_from q ps) (suc i) 0 ≡ minus (get_or ps (suc i) 0) (get_or ps i 0)
get_or-differences q [] i h = absurd (omega arith)
get_or-differences q (p ∷ []) i h = absurd (omega arith)
get_or-differences q (p ∷ r ∷ ps) zero h = refl
get_or-differences q (p ∷ r ∷ ps) (suc i) h = get_or-differences p (r ∷ ps) i (omega arith)

-- a low byte stands in the first half, its high byte in the second
pub get_or-first : (ds : List ℕ) (i : ℕ) → i < length ds → get_or (side_by_side ds) i 0 ≡ low (get_or ds i 0)
get_or-first ds i h = get_or-append (map low ds) (map high ds) 0 i (rw (length-map ds low) h) ∙ get_or-map low ds i 0

pub get_or-second : (ds : List ℕ) (i : ℕ) → get_or (side_by_side ds) (length ds + i) 0 ≡ high (get_or ds i 0)
get_or-second ds i =
    ap (λ (n : ℕ). get_or (side_by_side ds) (n + i) 0) (sym (length-map ds low)) ∙ get_or-append-add (map low ds) (map high ds) i 0 ∙ get_or-map high ds i 0

get_or-joined : (ls hs : List ℕ) (i : ℕ) → i < length ls → i < length hs → get_or (joined ls hs) i 0 ≡ two (get_or ls i 0) (get_or hs i 0)
get_or-joined [] hs i h k = absurd (omega arith)
get_or-joined (a ∷ ls) [] i h k = absurd (omega arith)
get_or-joined (a ∷ ls) (b ∷ hs) zero h k = refl
get_or-joined (a ∷ ls) (b ∷ hs) (suc i) h k = get_or-joined ls hs i (omega arith) (omega arith)

pub get_or-from-sides : (l : List ℕ) (i : ℕ) → length l % 2 ≡ 0 → i < half l → get_or (from_sides l) i 0 ≡ two (get_or l i 0) (get_or l (half l + i) 0)
get_or-from-sides l i e h =
    get_or-joined (take (half l) l) (drop (half l) l) i (omega (arith, length-first l)) (omega (arith, length-second l e))
    ∙ ap₂ two (get_or-take (half l) l i 0 h) (get_or-drop (half l) l i 0)

pub get_or-low : (ps : List ℕ) (i : ℕ) → get_or (bytes_of ps) (2 * i) 0 ≡ low (get_or ps i 0)
get_or-low [] i = refl
get_or-low (p ∷ ps) zero = refl
get_or-low (p ∷ ps) (suc i) =
    let e : 2 * suc i ≡ suc (suc (2 * i)) = omega arith in
    rw e (get_or-low ps i)

pub get_or-high : (ps : List ℕ) (i : ℕ) → get_or (bytes_of ps) (2 * i + 1) 0 ≡ high (get_or ps i 0)
get_or-high [] i = refl
get_or-high (p ∷ ps) zero = refl
get_or-high (p ∷ ps) (suc i) =
    let e : 2 * suc i + 1 ≡ suc (suc (2 * i + 1)) = omega arith in
    rw e (get_or-high ps i)

-- ---- sums, one by one

-- where the sums from the i-th on go on from q, the i-th is the next, and those after it go on from there
module _ (o q i : ℕ) (ds : List ℕ) (h : i < length ds) (e : drop i (sums_from o ds) ≡ sums_from q (drop i ds)) where
  next : drop i (sums_from o ds) ≡ plus q (get_or ds i 0) ∷ sums_from (plus q (get_or ds i 0)) (drop (suc i) ds)
  next = e ∙ ap (sums_from q) (drop-cons ds i 0 h)

  pub sum-at : get_or (sums_from o ds) i 0 ≡ plus q (get_or ds i 0)
  sum-at = sym (get_or-drop i (sums_from o ds) 0 0 ∙ rw (add-zero i)) ∙ ap (λ (l : List ℕ). get_or l 0 0) next

  pub sums-rest : drop (i + 1) (sums_from o ds) ≡ sums_from (plus q (get_or ds i 0)) (drop (i + 1) ds)
  sums-rest = sym (drop-drop 1 i (sums_from o ds)) ∙ ap (drop 1) next ∙ rw (add-one i)
