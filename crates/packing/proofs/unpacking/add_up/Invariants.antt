-- `add_up` meets its contract. The loop has stored i points, the last of them `point`. Assumes nothing.
use Rattle.points.proofs.Laws.Unpack.{Adding}
use Rattle.packing.proofs.unpacking.add_up.Given as goal

abbrev pub invariant-loop-i : goal.invariant-loop-i
invariant-loop-i l = Adding l.initial.target l.target l.point l.i
