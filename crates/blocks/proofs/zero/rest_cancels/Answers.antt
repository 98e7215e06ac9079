-- `rest_cancels` meets its contract: in one part or, if it is as long as half a piece, in two. Assumes nothing.
use Prim.Native.Nat.{ℕ, ◌-◌}
use mathlib.Core.Path.{sym, ◌∙◌}
use native.Mathlib.Omega.{arith}
use lib.ListN.{length}
use Rattle.blocks.specs.Sum.{sum_to}
use Rattle.blocks.proofs.Laws.Summed.{length-sum}
use Rattle.blocks.proofs.Laws.Zero.{zeros-then, zeros-not}
use Rattle.blocks.proofs.zero.rest_cancels.Goals as goal

pub returns-then-part_cancels : goal.returns-then-part_cancels
returns-then-part_cancels c =
    let a = c.args in
    let n : ℕ = length a.block.now in
    let left : ℕ = n - a.at in
    let long = length-sum n a.images.now a.x a.x.last in
    c.part_cancels-then-part_cancels.ensures
    ∙ sym (zeros-then (sum_to n a.images.now a.x a.x.last) a.at 64 (left - 64) left (omega arith) (omega arith) (sym c.part_cancels-2.ensures ∙ c.if-part_cancels.true))

pub returns-else-part_cancels : goal.returns-else-part_cancels
returns-else-part_cancels c =
    let a = c.args in
    let n : ℕ = length a.block.now in
    let left : ℕ = n - a.at in
    let long = length-sum n a.images.now a.x a.x.last in
    c.if-part_cancels.false
    ∙ sym (zeros-not (sum_to n a.images.now a.x a.x.last) a.at 64 (left - 64) left (omega arith) (omega arith) (sym c.part_cancels-2.ensures ∙ c.if-part_cancels.false))
