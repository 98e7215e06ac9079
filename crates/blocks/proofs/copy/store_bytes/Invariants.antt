-- `store_bytes` meets its contract. The loop has stored the first i bytes. Assumes nothing.
use lib.ListN.{length}
use Rattle.blocks.proofs.Laws.Fill.{Filled}
use Rattle.blocks.proofs.copy.store_bytes.Given as goal

abbrev pub invariant-loop-i : goal.invariant-loop-i
invariant-loop-i l = Filled l.initial.target l.at l.bytes (length l.bytes) l.target l.i
