-- `capacity_of` meets its contract. Assumes nothing.
use mathlib.Core.Path.{refl}
use native.Mathlib.Omega.{arith}
use Rattle.layout.specs.Layout.{capacity}
use Rattle.layout.proofs.Laws.Bounds.{old-high}
use Rattle.layout.proofs.Laws.Layout.{open-room}
use Rattle.placement.proofs.placing.capacity_of.Goals as goal

pub overflow_mul-result : goal.overflow_mul-result
overflow_mul-result c = rw c.open_stripes.ensures (omega (arith, open-room _ c.requires))

pub overflow_add-result : goal.overflow_add-result
overflow_add-result c = rw c.open_stripes.ensures (omega (arith, old-high _ c.requires, open-room _ c.requires))

pub returns : goal.returns
unfolding capacity
returns c = rw (c.old_blocks.ensures, c.open_stripes.ensures) refl
