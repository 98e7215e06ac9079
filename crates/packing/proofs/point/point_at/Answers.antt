-- `point_at` meets its contract. Assumes nothing.
use Rattle.std.proofs.Common.{rules}
use Rattle.points.proofs.Laws.Elements.{get_or-points}
use Rattle.packing.proofs.point.point_at.Goals as goal

pub returns : goal.returns
returns c = search (rules, get_or-points)
