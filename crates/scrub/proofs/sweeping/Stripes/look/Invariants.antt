-- `look` meets its contract. The loop has found none of the first s stripes unsound. Assumes nothing.
use Rattle.scrub.proofs.Laws.Sweeping.{None}
use Rattle.scrub.proofs.sweeping.Stripes.look.Given as goal

abbrev pub invariant-loop-s : goal.invariant-loop-s
invariant-loop-s l = None l.self.array.rec l.self.images.now l.s l.sum
