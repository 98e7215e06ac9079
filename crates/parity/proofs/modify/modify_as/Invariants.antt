-- `modify_as` meets its contract. The loop has stored the new parity from `first` to before `i`. Assumes nothing.
use Prim.Native.Nat.{◌-◌}
use lib.ListN.{length}
use Rattle.parity.proofs.Laws.Modify.{Modified}
use Rattle.parity.proofs.modify.modify_as.Given as goal

abbrev pub invariant-loop-i : goal.invariant-loop-i
invariant-loop-i g l = Modified l.parity l.at l.bytes l.initial.images l.first l.images l.i

abbrev pub decreases-loop-i : goal.decreases-loop-i
decreases-loop-i g l = length l.bytes - l.i
