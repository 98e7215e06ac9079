-- `add_pieces` meets its contract. The loop has taken on the bytes before `at`. Assumes nothing.
use Prim.Native.Nat.{◌-◌}
use Rattle.blocks.specs.Sum.{sum_to}
use Rattle.blocks.proofs.Laws.Fill.{Filled}
use Rattle.blocks.proofs.sum.add_pieces.Given as goal

abbrev pub invariant-loop-at : goal.invariant-loop-at
invariant-loop-at l = Filled l.initial.block 0 (sum_to l.len l.images l.x l.x.last) l.len l.block l.at

abbrev pub decreases-loop-at : goal.decreases-loop-at
decreases-loop-at l = l.len - l.at
