-- `cancels` meets its contract. The loop has found the first i pieces of the sum to be zeroes. Assumes nothing.
use Prim.Native.Nat.{◌*◌}
use lib.ListN.{length}
use Rattle.blocks.specs.Sum.{sum_to}
use Rattle.blocks.proofs.Laws.Zero.{ZerosTo}
use Rattle.blocks.proofs.zero.cancels.Given as goal

abbrev pub invariant-loop-i : goal.invariant-loop-i
invariant-loop-i l = ZerosTo (sum_to (length l.block) l.images l.x l.x.last) (length l.block) (l.i * 128)
