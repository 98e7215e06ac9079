-- `add_disks` meets its contract. The loop has xored in the part of the places of the first d disks but `out`. Assumes nothing.
use lib.ListN.{length}
use Rattle.blocks.proofs.Laws.Summed.{SummedPart}
use Rattle.blocks.proofs.sum.add_disks.Given as goal

abbrev pub invariant-loop-d : goal.invariant-loop-d
invariant-loop-d l = SummedPart l.images l.x.stripes l.x.stripe l.x.out l.len l.x.last l.at (length l.initial.part) l.part l.d
