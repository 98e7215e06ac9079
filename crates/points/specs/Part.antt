-- Points packed piece by piece, some of them, from one on, straight into the target; and one point unpacked.
use Rattle.std.specs.Prelude.{ℕ, ◌+◌, ◌*◌, ◌≡◌, List, map, length, set}
use Rattle.blocks.specs.Block.{block_at, store}
use Rattle.points.specs.declared.Side.TheVariants.{Low, High}
use Rattle.points.specs.declared.Side.{Side}
use Rattle.points.specs.Points.{points_of, differences, low, high, half, Even}

-- one byte of a difference
abbrev pub side : Side → ℕ → ℕ
side Low d = low d
side High d = high d

-- the differences of the points of l, and one byte of each
abbrev pub differences_of : List ℕ → List ℕ
differences_of l = differences (points_of l)

abbrev pub sides : Side → List ℕ → List ℕ
sides s l = map (side s) (differences_of l)

-- the target t with n points of l, from the i-th on, packed
abbrev pub part_packed : List ℕ → List ℕ → ℕ → ℕ → List ℕ
part_packed l t i n = store (store t i (block_at (sides Low l) i n)) (half l + i) (block_at (sides High l) i n)

-- bytes with point i replaced by p
abbrev pub with_point : List ℕ → ℕ → ℕ → List ℕ
with_point t i p = set (set t (2 * i) (low p)) (2 * i + 1) (high p)

-- a source and a target that are not refused
abbrev pub EvenAndAlike : List ℕ → List ℕ → Type 0
EvenAndAlike source target = Even source × (length source ≡ length target)
