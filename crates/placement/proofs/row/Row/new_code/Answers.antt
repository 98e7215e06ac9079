-- `new_code` meets its contract. Assumes nothing.
use Rattle.layout.proofs.Laws.Layout.{code-new}
use Rattle.placement.proofs.row.Row.new_code.Goals as goal

pub returns : goal.returns
returns c =
    code-new _ c.requires.0 _ _ _ _ _ _ c.old_blocks.ensures c.is_open.ensures c.count_below-j.ensures.1 c.pick.ensures
