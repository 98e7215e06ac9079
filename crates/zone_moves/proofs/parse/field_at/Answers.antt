-- `field_at` meets its contract, by what its calls ensure. Assumes nothing.
use Rattle.zone_moves.specs.Request.{field_at}
use Rattle.zone_moves.proofs.parse.field_at.Goals as goal

pub returns : goal.returns
unfolding field_at
returns c = cc
