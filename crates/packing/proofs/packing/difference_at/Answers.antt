-- `difference_at` meets its contract. Assumes nothing.
use Rattle.std.proofs.Common.{rules}
use Rattle.points.proofs.Laws.Pack.{is-difference}
use Rattle.packing.proofs.packing.difference_at.Goals as goal

pub returns : goal.returns
returns c = search (rules, is-difference)
