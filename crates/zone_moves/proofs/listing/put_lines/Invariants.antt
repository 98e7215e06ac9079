-- `put_lines` meets its contract. The loop has stored the first i lines. Assumes nothing.
use Prim.Native.Nat.{◌-◌}
use Rattle.zone_moves.proofs.Laws.Lines.{Printed}
use Rattle.zone_moves.proofs.listing.put_lines.Given as goal

abbrev pub invariant-loop-i : goal.invariant-loop-i
invariant-loop-i l = Printed l.initial.out l.n l.m l.first l.count l.out l.at l.i

abbrev pub decreases-loop-i : goal.decreases-loop-i
decreases-loop-i l = l.count - l.i
