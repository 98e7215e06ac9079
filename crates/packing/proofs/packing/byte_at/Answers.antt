-- `byte_at` meets its contract. Assumes nothing.
use Rattle.std.proofs.Common.{rules}
use Rattle.points.proofs.Laws.Pack.{low_is, high_is}
use Rattle.packing.proofs.packing.byte_at.Goals as goal

pub returns-in-Low : goal.returns-in-Low
returns-in-Low c = search (rules, low_is)

pub returns-in-High : goal.returns-in-High
returns-in-High c = search (rules, high_is)
