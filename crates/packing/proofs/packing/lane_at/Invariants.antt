-- `lane_at` meets its contract. The loop has filled in the bytes before k. Assumes nothing.
use Rattle.std.proofs.Common.{◌≡◌, ℕ, ◌+◌, ◌<◌, length, get_or}
use Rattle.points.specs.Part.{sides}
use Rattle.packing.proofs.packing.lane_at.Given as goal

abbrev pub invariant-loop-k : goal.invariant-loop-k
invariant-loop-k l = (length l.lane ≡ 16) × ((k : ℕ) → k < l.k → get_or l.lane k 0 ≡ get_or (sides l.s l.source) (l.i + k) 0)
