-- `total_of` meets its contract. Assumes nothing.
use mathlib.Core.Path.{refl}
use Rattle.layout.specs.Moves.{total}
use Rattle.placement.proofs.placing.total_of.Goals as goal

pub returns : goal.returns
unfolding total
returns c = refl
