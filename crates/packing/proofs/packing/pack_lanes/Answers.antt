-- `pack_lanes` meets its contract. Assumes nothing.
use Rattle.std.proofs.Common.{rules, arith}
use Rattle.points.proofs.Laws.Pack.{packing-none, packing-more}
use Rattle.packing.proofs.packing.pack_lanes.Goals as goal

pub loop-lane-init : goal.loop-lane-init
loop-lane-init c = search (rules, packing-none)

pub loop-lane-preserved : goal.loop-lane-preserved
loop-lane-preserved c =
    packing-more c.loop-lane.invariant 16 (omega arith) (omega arith) c.pack_lane.ensures.target
