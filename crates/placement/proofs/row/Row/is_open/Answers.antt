-- `is_open` meets its contract. Assumes nothing.
use mathlib.Core.Path.{◌∙◌}
use Rattle.layout.proofs.Laws.Opening.{test-left, test-over, says_all, says-open}
use Rattle.placement.proofs.row.Row.is_open.Goals as goal

pub returns-then-all_moved : goal.returns-then-all_moved
returns-then-all_moved c =
    c.if-all_moved.true ∙ says_all _ c.requires.0 (test-over _ c.all_moved.ensures c.if-all_moved.true) _ c.requires.1

pub returns-else-all_moved : goal.returns-else-all_moved
returns-else-all_moved c =
    c.is_settled.ensures ∙ says-open _ c.requires.0 (test-left _ c.requires.0 c.all_moved.ensures c.if-all_moved.false) _
