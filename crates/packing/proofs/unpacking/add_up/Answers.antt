-- `add_up` meets its contract. Assumes nothing.
use Rattle.std.proofs.Common.{rules}
use Rattle.points.proofs.Laws.Unpack.{stored-all, adding-none, adding-more}
use Rattle.packing.proofs.unpacking.add_up.Goals as goal

pub loop-i-init : goal.loop-i-init
loop-i-init c = search (rules, adding-none)

pub loop-i-preserved : goal.loop-i-preserved
loop-i-preserved c = search (rules, adding-more)

pub returns : goal.returns
returns c = search (rules, stored-all)
