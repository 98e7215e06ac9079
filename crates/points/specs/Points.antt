-- Scan points packed and unpacked, as lists of bytes. Document 02, (e).
use Rattle.std.specs.Prelude.{ℕ, ◌+◌, ◌-◌, ◌/◌, ◌%◌, ◌≡◌, List, [], ◌∷◌, ◌++◌, map, length, take, drop}
use Rattle.blocks.specs.Number.{two}

-- ---- there

-- "Scanner blocks are 16-bit points, least byte first"
abbrev pub points_of : List ℕ → List ℕ
points_of [] = []
points_of (a ∷ []) = []
points_of (a ∷ b ∷ l) = two a b ∷ points_of l

-- p less q, "modulo 65,536"
abbrev pub minus : ℕ → ℕ → ℕ
minus p q = (p + (65536 - q)) % 65536

-- "each point is replaced by its difference from the one before", the first of these from q
abbrev pub differences_from : ℕ → List ℕ → List ℕ
differences_from q [] = []
differences_from q (p ∷ ps) = minus p q ∷ differences_from p ps

-- "the first from 0"
abbrev pub differences : List ℕ → List ℕ
differences ps = differences_from 0 ps

abbrev pub low : ℕ → ℕ
low d = d % 256

abbrev pub high : ℕ → ℕ
high d = d / 256

-- "all low bytes go first, then all high bytes"
abbrev pub side_by_side : List ℕ → List ℕ
side_by_side ds = map low ds ++ map high ds

abbrev pub packed : List ℕ → List ℕ
packed l = side_by_side (differences (points_of l))

-- ---- and back

-- each low byte with its high byte
abbrev pub joined : List ℕ → List ℕ → List ℕ
joined [] hs = []
joined (a ∷ ls) [] = []
joined (a ∷ ls) (b ∷ hs) = two a b ∷ joined ls hs

abbrev pub half : List ℕ → ℕ
half l = length l / 2

-- "every slice of even length"
abbrev pub Even : List ℕ → Type 0
Even l = length l % 2 ≡ 0

abbrev pub from_sides : List ℕ → List ℕ
from_sides l = joined (take (half l) l) (drop (half l) l)

-- p and d together, modulo 65,536
abbrev pub plus : ℕ → ℕ → ℕ
plus p d = (p + d) % 65536

-- each difference added to the point before, which for the first of these is q
abbrev pub sums_from : ℕ → List ℕ → List ℕ
sums_from q [] = []
sums_from q (d ∷ ds) = plus q d ∷ sums_from (plus q d) ds

abbrev pub sums : List ℕ → List ℕ
sums ds = sums_from 0 ds

abbrev pub bytes_of : List ℕ → List ℕ
bytes_of [] = []
bytes_of (p ∷ ps) = low p ∷ high p ∷ bytes_of ps

abbrev pub unpacked : List ℕ → List ℕ
unpacked l = bytes_of (sums (from_sides l))
