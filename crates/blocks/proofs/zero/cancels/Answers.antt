-- `cancels` meets its contract. The loop has found the first i pieces of the sum to be zeroes. Assumes nothing.
use mathlib.Core.Path.{sym, ◌∙◌}
use native.Mathlib.Omega.{arith}
use lib.ListN.{length}
use Rattle.blocks.proofs.Laws.Summed.{length-sum}
use Rattle.blocks.proofs.Laws.Zero.{zeros-none, zeros-more, zeros-rest, zeros-stop}
use Rattle.blocks.proofs.zero.cancels.Goals as goal

pub loop-i-init : goal.loop-i-init
loop-i-init c =
    let a = c.args in
    zeros-none (length-sum (length a.block.now) a.images.now a.x a.x.last)

pub returns-then-not-part_cancels : goal.returns-then-not-part_cancels
returns-then-not-part_cancels c =
    let p = c.part_cancels in
    record { zero = sym (zeros-stop c.loop-i.invariant 128 (omega arith) (sym p.ensures ∙ c.if-not-part_cancels.true)) }

pub loop-i-preserved : goal.loop-i-preserved
loop-i-preserved c =
    let p = c.part_cancels in
    zeros-more c.loop-i.invariant 128 _ (omega arith) (omega arith) (sym p.ensures ∙ c.if-not-part_cancels.false)

pub returns : goal.returns
returns c = record { zero = c.rest_cancels.ensures ∙ sym (zeros-rest c.loop-i.invariant _ (omega arith)) }
