-- `move_of` meets its contract. Assumes nothing.
use mathlib.Core.Path.{refl}
use Rattle.layout.specs.Moves.{move_zone, move_to, move_lag, move_within, move_stripe, move_from}
use Rattle.placement.proofs.moves.move_of.Goals as goal

pub returns : goal.returns
unfolding move_zone move_to move_lag move_within move_stripe move_from
returns c = refl
