-- `put_line` meets its contract: five columns one after the other. Assumes nothing.
use native.Mathlib.Omega.{arith}
use Rattle.zone_moves.proofs.Laws.Storing.{stored-as}
use Rattle.zone_moves.proofs.Laws.Lines.{Columns, Short, columns, shorts, line-of, line-stored}
use Rattle.zone_moves.proofs.listing.put_line.Goals as goal
use Rattle.zone_moves.proofs.listing.put_line.Goals.{After-move_of-moved}

-- the columns, and how long they are
widths : (c : After-move_of-moved) → Columns c.args.k c.move_of-moved.result × Short c.args.k c.move_of-moved.result
widths c = let w = columns c.requires.0 c.move_of-moved.ensures in (w, shorts w)

pub put_column-a-requires : goal.put_column-a-requires
put_column-a-requires c = let w = widths (goal.at.put_column-a-requires c).After-move_of-moved in omega (arith, w.0, w.1)

pub put_column-b-requires : goal.put_column-b-requires
put_column-b-requires c = let w = widths (goal.at.put_column-b-requires c).After-move_of-moved in omega (arith, w.0, w.1)

pub put_column-c-requires : goal.put_column-c-requires
put_column-c-requires c = let w = widths (goal.at.put_column-c-requires c).After-move_of-moved in omega (arith, w.0, w.1)

pub put_column-d-requires : goal.put_column-d-requires
put_column-d-requires c = let w = widths (goal.at.put_column-d-requires c).After-move_of-moved in omega (arith, w.0, w.1)

pub put_column-requires : goal.put_column-requires
put_column-requires c = let w = widths (goal.at.put_column-requires c).After-move_of-moved in omega (arith, w.0, w.1)

pub returns : goal.returns
returns c = stored-as (line-of _ _ _ c.move_of-moved.ensures)
    (line-stored c.requires.1 (widths (goal.at.returns c).After-move_of-moved).1 c.put_column-a.ensures c.put_column-b.ensures c.put_column-c.ensures c.put_column-d.ensures c.put_column.ensures)
