-- `pack_points` meets its contract. Assumes nothing.
use Rattle.std.proofs.Common.{rules, arith}
use Rattle.points.proofs.Laws.Pack.{part-one, packing-none, packing-more}
use Rattle.packing.proofs.packing.pack_points.Goals as goal

pub loop-i-init : goal.loop-i-init
loop-i-init c = search (rules, packing-none)

pub loop-i-preserved : goal.loop-i-preserved
loop-i-preserved c =
    packing-more c.loop-i.invariant 1 (omega arith) (omega arith) (search (rules, part-one))
