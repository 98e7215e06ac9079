-- `join_sides` meets its contract. The loop has stored i differences. Assumes nothing.
use Rattle.points.specs.Points.{from_sides}
use Rattle.points.proofs.Laws.Unpack.{Stored}
use Rattle.packing.proofs.unpacking.join_sides.Given as goal

abbrev pub invariant-loop-i : goal.invariant-loop-i
invariant-loop-i l = Stored (from_sides l.source) l.initial.target l.target l.i
