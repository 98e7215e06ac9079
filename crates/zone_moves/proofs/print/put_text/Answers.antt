-- `put_text` meets its contract. The loop has stored the first i bytes. Assumes nothing.
use Rattle.zone_moves.proofs.Laws.Storing.{copied_none, copied_more}
use Rattle.zone_moves.proofs.print.put_text.Goals as goal

pub loop-i-init : goal.loop-i-init
loop-i-init c = copied_none c.requires

pub loop-i-preserved : goal.loop-i-preserved
loop-i-preserved c = copied_more c.loop-i.invariant c.loop-i-test.true
