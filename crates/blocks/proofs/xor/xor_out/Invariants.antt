-- `xor_out` meets its contract. The loop has xored the first i bytes. Assumes nothing.
use lib.ListN.{length}
use Rattle.blocks.specs.Block.{block_at}
use Rattle.blocks.specs.Xor.{xor_b}
use Rattle.blocks.proofs.Laws.Fill.{Filled}
use Rattle.blocks.proofs.xor.xor_out.Given as goal

abbrev pub invariant-loop-i : goal.invariant-loop-i
invariant-loop-i l = Filled l.initial.block 0 (xor_b l.initial.block (block_at l.images l.at (length l.initial.block))) (length l.initial.block) l.block l.i
