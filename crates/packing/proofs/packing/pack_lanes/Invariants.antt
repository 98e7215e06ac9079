-- `pack_lanes` meets its contract. The loop has packed the points of the lanes before this one. Assumes nothing.
use Rattle.std.proofs.Common.{◌+◌, ◌*◌}
use Rattle.points.proofs.Laws.Pack.{Packing}
use Rattle.packing.proofs.packing.pack_lanes.Given as goal

abbrev pub invariant-loop-lane : goal.invariant-loop-lane
invariant-loop-lane l = Packing l.source l.initial.target 1 l.target (1 + 16 * l.lane)
