-- `join_sides` meets its contract. Assumes nothing.
use Rattle.std.proofs.Common.{rules}
use Rattle.points.proofs.Laws.Unpack.{stored-all, joining-none, joining-more}
use Rattle.packing.proofs.unpacking.join_sides.Goals as goal

pub loop-i-init : goal.loop-i-init
loop-i-init c = search (rules, joining-none)

pub loop-i-preserved : goal.loop-i-preserved
loop-i-preserved c = search (rules, joining-more)

pub returns : goal.returns
returns c = search (rules, stored-all)
