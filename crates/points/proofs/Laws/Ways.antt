-- Each step of the way there and its step back undo each other; how long each list is, and how large its numbers. Assumes nothing.
use Prim.Native.Nat.{ℕ, zero, suc, ◌+◌, ◌*◌, ◌/◌, ◌%◌, ◌<◌}
use mathlib.Core.Path.{◌≡◌, refl, sym, ap, ap₂, ◌∙◌}
use mathlib.Core.List.{List, [], ◌∷◌, ◌++◌, map}
use native.Mathlib.Omega.{arith}
use lib.ListN.{length, get_or, take, drop, length-append, length-map, length-drop, take-append-drop}
use lib.Seq.{get_or-drop, take_at, drop_at, length-take-le}
use Rattle.blocks.specs.Block.{AreBytes}
use Rattle.blocks.proofs.Laws.Number.{two_back, two-low, two-high}
use Rattle.points.specs.Points.{points_of, minus, differences_from, low, high, side_by_side, joined, half, from_sides, plus, sums_from, bytes_of}

-- each number of l is below m
abbrev pub Below : ℕ → List ℕ → Type 0
Below m l = (i : ℕ) → get_or l i 0 < m

-- ---- numbers

pub plus-minus : (p q : ℕ) → p < 65536 → q < 65536 → plus q (minus p q) ≡ p
plus-minus p q h k = omega arith

minus_plus : (d q : ℕ) → d < 65536 → q < 65536 → minus (plus q d) q ≡ d
minus_plus d q h k = omega arith

-- ---- bytes and points

pub points-bytes : (ps : List ℕ) → points_of (bytes_of ps) ≡ ps
points-bytes [] = refl
points-bytes (p ∷ ps) = ap₂ ◌∷◌ (two_back p) (points-bytes ps)

pub bytes-points : (l : List ℕ) → AreBytes l → length l % 2 ≡ 0 → bytes_of (points_of l) ≡ l
bytes-points [] h e = refl
bytes-points (a ∷ []) h e = absurd (omega arith)
bytes-points (a ∷ b ∷ l) h e =
    ap₂ ◌∷◌ (two-low a b (h 0)) (ap₂ ◌∷◌ (two-high a b (h 0)) (bytes-points l (λ i. h (suc (suc i))) (omega arith)))

pub length-points : (l : List ℕ) → length (points_of l) ≡ length l / 2
length-points [] = refl
length-points (a ∷ []) = refl
length-points (a ∷ b ∷ l) = omega (arith, length-points l)

pub length-bytes : (ps : List ℕ) → length (bytes_of ps) ≡ 2 * length ps
length-bytes [] = refl
length-bytes (p ∷ ps) = omega (arith, length-bytes ps)

pub points-below : (l : List ℕ) → AreBytes l → Below 65536 (points_of l)
points-below [] h i = omega arith
points-below (a ∷ []) h i = omega arith
points-below (a ∷ b ∷ l) h zero =
    let ha : a < 256 = h 0 in
    let hb : b < 256 = h 1 in
    omega arith
points-below (a ∷ b ∷ l) h (suc i) = points-below l (λ j. h (suc (suc j))) i

pub bytes_below : (ps : List ℕ) → Below 65536 ps → AreBytes (bytes_of ps)
bytes_below [] h i = omega arith
bytes_below (p ∷ ps) h zero = omega arith
bytes_below (p ∷ ps) h (suc zero) = let hp : p < 65536 = h 0 in omega arith
bytes_below (p ∷ ps) h (suc (suc i)) = bytes_below ps (λ j. h (suc j)) i

-- ---- points and differences

pub sums-differences : (q : ℕ) (ps : List ℕ) → q < 65536 → Below 65536 ps → sums_from q (differences_from q ps) ≡ ps
sums-differences q [] k h = refl
sums-differences q (p ∷ ps) k h =
    let e : plus q (minus p q) ≡ p = plus-minus p q (h 0) k in
    ap₂ ◌∷◌ e (ap (λ (x : ℕ). sums_from x (differences_from p ps)) e ∙ sums-differences p ps (h 0) (λ i. h (suc i)))

pub differences-sums : (q : ℕ) (ds : List ℕ) → q < 65536 → Below 65536 ds → differences_from q (sums_from q ds) ≡ ds
differences-sums q [] k h = refl
differences-sums q (d ∷ ds) k h = ap₂ ◌∷◌ (minus_plus d q (h 0) k) (differences-sums (plus q d) ds (omega arith) (λ i. h (suc i)))

pub length-differences : (q : ℕ) (ps : List ℕ) → length (differences_from q ps) ≡ length ps
length-differences q [] = refl
length-differences q (p ∷ ps) = ap suc (length-differences p ps)

pub length-sums : (q : ℕ) (ds : List ℕ) → length (sums_from q ds) ≡ length ds
length-sums q [] = refl
length-sums q (d ∷ ds) = ap suc (length-sums (plus q d) ds)

pub differences-below : (q : ℕ) (ps : List ℕ) → Below 65536 (differences_from q ps)
differences-below q [] i = omega arith
differences-below q (p ∷ ps) zero = omega arith
differences-below q (p ∷ ps) (suc i) = differences-below p ps i

pub sums-below : (q : ℕ) (ds : List ℕ) → Below 65536 (sums_from q ds)
sums-below q [] i = omega arith
sums-below q (d ∷ ds) zero = omega arith
sums-below q (d ∷ ds) (suc i) = sums-below (plus q d) ds i

-- ---- differences and the two sides

joined-sides : (ds : List ℕ) → joined (map low ds) (map high ds) ≡ ds
joined-sides [] = refl
joined-sides (d ∷ ds) = ap₂ ◌∷◌ (two_back d) (joined-sides ds)

lows-joined : (ls hs : List ℕ) → AreBytes ls → length ls ≡ length hs → map low (joined ls hs) ≡ ls
lows-joined [] hs h e = refl
lows-joined (a ∷ ls) [] h e = absurd (omega arith)
lows-joined (a ∷ ls) (b ∷ hs) h e = ap₂ ◌∷◌ (two-low a b (h 0)) (lows-joined ls hs (λ i. h (suc i)) (omega arith))

highs-joined : (ls hs : List ℕ) → AreBytes ls → length ls ≡ length hs → map high (joined ls hs) ≡ hs
highs-joined [] [] h e = refl
highs-joined [] (b ∷ hs) h e = absurd (omega arith)
highs-joined (a ∷ ls) [] h e = absurd (omega arith)
highs-joined (a ∷ ls) (b ∷ hs) h e = ap₂ ◌∷◌ (two-high a b (h 0)) (highs-joined ls hs (λ i. h (suc i)) (omega arith))

length-joined : (ls hs : List ℕ) → length ls ≡ length hs → length (joined ls hs) ≡ length ls
length-joined [] hs e = refl
length-joined (a ∷ ls) [] e = absurd (omega arith)
length-joined (a ∷ ls) (b ∷ hs) e = ap suc (length-joined ls hs (omega arith))

joined-below : (ls hs : List ℕ) → AreBytes ls → AreBytes hs → Below 65536 (joined ls hs)
joined-below [] hs h k i = omega arith
joined-below (a ∷ ls) [] h k i = omega arith
joined-below (a ∷ ls) (b ∷ hs) h k zero =
    let ha : a < 256 = h 0 in
    let hb : b < 256 = k 0 in
    omega arith
joined-below (a ∷ ls) (b ∷ hs) h k (suc i) = joined-below ls hs (λ j. h (suc j)) (λ j. k (suc j)) i

-- a half of a list of bytes
take_below : {m : ℕ} (n : ℕ) (l : List ℕ) → 0 < m → Below m l → Below m (take n l)
take_below zero l p h i = p
take_below (suc n) [] p h i = p
take_below (suc n) (x ∷ l) p h zero = h 0
take_below (suc n) (x ∷ l) p h (suc i) = take_below n l p (λ j. h (suc j)) i

drop-below : {m : ℕ} (n : ℕ) (l : List ℕ) → Below m l → Below m (drop n l)
drop-below n l h i = rw (get_or-drop n l i 0) (h (n + i))

append-below : {m : ℕ} (a b : List ℕ) → Below m a → Below m b → Below m (a ++ b)
append-below [] b h k i = k i
append-below (x ∷ a) b h k zero = h 0
append-below (x ∷ a) b h k (suc i) = append-below a b (λ j. h (suc j)) k i

pub length-first : (l : List ℕ) → length (take (half l) l) ≡ half l
length-first l = length-take-le (half l) l (omega arith)

pub length-second : (l : List ℕ) → length l % 2 ≡ 0 → length (drop (half l) l) ≡ half l
length-second l e = length-drop (half l) l ∙ omega arith

pub length-sides : (ds : List ℕ) → length (side_by_side ds) ≡ length ds + length ds
length-sides ds = length-append (map low ds) (map high ds) ∙ ap₂ ◌+◌ (length-map ds low) (length-map ds high)

pub from-sides : (ds : List ℕ) → from_sides (side_by_side ds) ≡ ds
from-sides ds =
    let e : length (map low ds) ≡ half (side_by_side ds) = length-map ds low ∙ omega (arith, length-sides ds) in
    ap₂ joined (take_at (map low ds) (map high ds) (half (side_by_side ds)) e) (drop_at (map low ds) (map high ds) (half (side_by_side ds)) e) ∙ joined-sides ds

pub to-sides : (l : List ℕ) → AreBytes l → length l % 2 ≡ 0 → side_by_side (from_sides l) ≡ l
to-sides l h e =
    let n : ℕ = half l in
    let a : List ℕ = take n l in
    let b : List ℕ = drop n l in
    let k : length a ≡ length b = length-first l ∙ sym (length-second l e) in
    let ha : AreBytes a = take_below n l (omega arith) h in
    ap₂ ◌++◌ (lows-joined a b ha k) (highs-joined a b ha k) ∙ take-append-drop n l

pub length-from-sides : (l : List ℕ) → length l % 2 ≡ 0 → length (from_sides l) ≡ half l
length-from-sides l e = length-joined (take (half l) l) (drop (half l) l) (length-first l ∙ sym (length-second l e)) ∙ length-first l

pub from-sides-below : (l : List ℕ) → AreBytes l → Below 65536 (from_sides l)
from-sides-below l h = joined-below (take (half l) l) (drop (half l) l) (take_below (half l) l (omega arith) h) (drop-below (half l) l h)

lows-below : (ds : List ℕ) → AreBytes (map low ds)
lows-below [] i = omega arith
lows-below (d ∷ ds) zero = omega arith
lows-below (d ∷ ds) (suc i) = lows-below ds i

highs-below : (ds : List ℕ) → Below 65536 ds → AreBytes (map high ds)
highs-below [] h i = omega arith
highs-below (d ∷ ds) h zero = let hd : d < 65536 = h 0 in omega arith
highs-below (d ∷ ds) h (suc i) = highs-below ds (λ j. h (suc j)) i

pub sides-below : (ds : List ℕ) → Below 65536 ds → AreBytes (side_by_side ds)
sides-below ds h = append-below (map low ds) (map high ds) (lows-below ds) (highs-below ds h)
