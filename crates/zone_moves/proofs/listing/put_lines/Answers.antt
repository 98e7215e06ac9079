-- `put_lines` meets its contract. The loop has stored the first i lines. Assumes nothing.
use Prim.Native.Nat.{◌+◌}
use native.Mathlib.Omega.{arith}
use Rattle.zone_moves.specs.Listing.{Listed}
use Rattle.zone_moves.proofs.Laws.Lines.{printed-none, printed-more}
use Rattle.zone_moves.proofs.listing.put_lines.Goals as goal
use Rattle.zone_moves.proofs.listing.put_lines.Goals.{In-loop-i}

-- the move of a turn is one of the growth's
listed : (c : In-loop-i) → Listed c.args.n c.args.m (c.args.first + c.loop-i.i)
listed c = record { disks = c.requires.0; new = c.requires.1; index = omega arith }

pub loop-i-init : goal.loop-i-init
loop-i-init c = printed-none

pub loop-i-preserved : goal.loop-i-preserved
loop-i-preserved c = printed-more c.loop-i-test.true c.requires.3 (listed (goal.at.loop-i-preserved c).In-loop-i) c.loop-i.invariant c.put_line-at.ensures c.put_line-at.auto.out
