-- `fill_disk` meets its contract. After so many turns so many stripes are written. Assumes nothing.
use lib.ListN.{length}
use Rattle.repair.proofs.Laws.Rebuilding.{Filled}
use Rattle.repair.proofs.rebuilding.fill_disk.Given as goal

abbrev pub invariant-loop-made : goal.invariant-loop-made
invariant-loop-made l = Filled (length l.initial.block) l.stripes l.disks l.d l.first l.initial.images l.count l.images l.block l.made
