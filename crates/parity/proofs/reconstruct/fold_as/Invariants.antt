-- `fold_as` meets its contract. The loop has stored the new parity from `first` to before `at`. Assumes nothing.
use Prim.Native.Nat.{◌-◌}
use Rattle.parity.proofs.Laws.Fold.{Reconstructed}
use Rattle.parity.proofs.reconstruct.fold_as.Given as goal

abbrev pub invariant-loop-at : goal.invariant-loop-at
invariant-loop-at g l = Reconstructed l.g l.bytes l.initial.images l.first l.images l.at

abbrev pub decreases-loop-at : goal.decreases-loop-at
decreases-loop-at g l = l.g.len - l.at
