-- `put_byte` meets its contract. Assumes nothing.
use Rattle.zone_moves.proofs.Laws.Storing.{stored_one}
use Rattle.zone_moves.proofs.print.put_byte.Goals as goal

pub returns : goal.returns
returns c = stored_one c.requires
