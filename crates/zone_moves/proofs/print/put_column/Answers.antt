-- `put_column` meets its contract: two texts one after the other. Assumes nothing.
use native.Mathlib.Omega.{arith}
use Rattle.zone_moves.specs.Listing.{column}
use Rattle.zone_moves.proofs.Laws.Storing.{stored-append}
use Rattle.zone_moves.proofs.Laws.Digits.{length-column}
use Rattle.zone_moves.proofs.print.put_column.Goals as goal

pub put_decimal-next-requires : goal.put_decimal-next-requires
put_decimal-next-requires c = omega (arith, length-column c.args.x c.args.stop)

pub put_byte-requires : goal.put_byte-requires
put_byte-requires c = omega (arith, length-column c.args.x c.args.stop)

pub returns : goal.returns
unfolding column
returns c = stored-append (omega (arith, length-column c.args.x c.args.stop)) c.put_decimal-next.ensures c.put_byte.ensures
