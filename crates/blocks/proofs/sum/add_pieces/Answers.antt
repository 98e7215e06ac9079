-- `add_pieces` meets its contract. The loop has taken on the bytes before `at`. Assumes nothing.
use Prim.Native.Nat.{ℕ}
use mathlib.Core.Path.{◌≡◌, ap, ◌∙◌}
use native.Mathlib.Omega.{arith}
use lib.ListN.{length}
use Rattle.blocks.specs.Block.{copied_to}
use Rattle.blocks.specs.Sum.{sum_to}
use Rattle.blocks.proofs.Laws.Summed.{length-sum}
use Rattle.blocks.proofs.Laws.Fill.{filled_none, run_more, begun_kept}
use Rattle.blocks.proofs.sum.add_pieces.Goals as goal

pub loop-at-init : goal.loop-at-init
loop-at-init c =
    let a = c.args in
    filled_none (length-sum (length a.block.now) a.images.now a.x a.x.last)

pub add_part-requires : goal.add_part-requires
add_part-requires c =
    let l = c.loop-at in
    let size : length l.block ≡ length c.args.block.now = l.invariant.size in
    (omega arith, omega arith, rw size (c.requires.0, omega arith, begun_kept c.args.x c.requires.1 l.invariant 128))

pub loop-at-preserved : goal.loop-at-preserved
loop-at-preserved c =
    let a = c.args in
    let l = c.loop-at in
    run_more l.invariant 128 (omega arith) (c.add_part.ensures ∙ ap (λ (n : ℕ). copied_to l.block l.at (sum_to n a.images.now a.x a.x.last) l.at 128) l.invariant.size)
