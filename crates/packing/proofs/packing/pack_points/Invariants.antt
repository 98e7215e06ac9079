-- `pack_points` meets its contract. The loop has packed the points from `first` to before i. Assumes nothing.
use Rattle.points.proofs.Laws.Pack.{Packing}
use Rattle.packing.proofs.packing.pack_points.Given as goal

abbrev pub invariant-loop-i : goal.invariant-loop-i
invariant-loop-i l = Packing l.source l.initial.target l.first l.target l.i
