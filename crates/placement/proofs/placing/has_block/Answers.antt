-- `has_block` meets its contract. Assumes nothing.
use native.Mathlib.Omega.{arith}
use Rattle.layout.proofs.Laws.Layout.{open-room, has-old, has_new}
use Rattle.placement.proofs.placing.has_block.Goals as goal

pub returns-then-b-old : goal.returns-then-b-old
returns-then-b-old c =
    has-old _ c.requires _ _ c.old_blocks-old.ensures c.if-b-old.true

pub overflow_mul-result : goal.overflow_mul-result
overflow_mul-result c = rw c.open_stripes.ensures (omega (arith, open-room _ c.requires))

pub returns-else-b-old : goal.returns-else-b-old
returns-else-b-old c =
    has_new _ c.requires _ _ c.old_blocks-old.ensures _ c.open_stripes.ensures c.if-b-old.false
