-- `sum_wide` meets its contract. The loop has xored in as many bytes of each place counted of the first d disks. Assumes nothing.
use Rattle.parity.proofs.Laws.Fold.{Gathered}
use Rattle.parity.proofs.reconstruct.sum_wide.Given as goal

abbrev pub invariant-loop-d : goal.invariant-loop-d
invariant-loop-d g l = let w = g.W.Wide in Gathered l.g l.images l.at w.LEN (w.bytes l.initial.sum) (w.bytes l.sum) l.d
