-- `xor_others` meets its contract. The loop has xored in the places of the first disks but `out`. Assumes nothing.
use Prim.Native.Nat.{◌-◌}
use lib.ListN.{length}
use Rattle.blocks.proofs.Laws.Summed.{Summed}
use Rattle.blocks.proofs.sum.xor_others.Given as goal

abbrev pub invariant-loop-first : goal.invariant-loop-first
invariant-loop-first l = Summed l.images l.disks l.stripes l.s l.out (length l.initial.block) l.block l.first

abbrev pub decreases-loop-first : goal.decreases-loop-first
decreases-loop-first l = l.disks - l.first
