-- `write_marks` meets its contract. The loop has written the first b blocks. Assumes nothing.
use Prim.Native.Nat.{◌≤◌}
use mathlib.Core.Path.{◌≡◌}
use lib.ListN.{length}
use Rattle.viewer.specs.Marks.{marked}
use Rattle.viewer.proofs.marks.write_marks.Given as goal

abbrev pub invariant-loop-b : goal.invariant-loop-b
invariant-loop-b l = (l.images ≡ marked l.r l.initial.images l.b) × (length l.images ≡ length l.initial.images) × (l.b ≤ l.count)
