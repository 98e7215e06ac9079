-- `lane_at` meets its contract: as many bytes as a block's, each the same. Assumes nothing.
use Rattle.std.proofs.Common.{sym, ◌∙◌, arith}
use Rattle.std.proofs.lemmas.Grind.{same_number_lists}
use Rattle.blocks.specs.Block.{block_at}
use Rattle.blocks.proofs.Laws.Block.{length-block_at, get_or-block_at}
use Rattle.points.specs.Part.{sides}
use Rattle.points.proofs.Laws.Pack.{length-side}
use Rattle.packing.proofs.packing.lane_at.Goals as goal

pub returns : goal.returns
returns c =
    let a = c.args in
    let all = sides a.s a.source.now in
    let t = c.loop-k.invariant in
    record {
      lane =
          same_number_lists c.loop-k.lane (block_at all a.i 16) (t.0 ∙ sym (length-block_at all a.i 16 (omega (arith, c.requires.1, length-side a.s a.source.now))))
          (λ k h. t.1 k (omega arith) ∙ sym (get_or-block_at all a.i 16 k (omega (arith, t.0))));
    }
