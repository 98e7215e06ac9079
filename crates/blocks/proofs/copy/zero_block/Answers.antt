-- `zero_block` meets its contract. The loop has zeroed the first bytes. Assumes nothing.
use Prim.Native.Nat.{ℕ}
use mathlib.Core.Path.{ap, ◌∙◌}
use mathlib.Core.List.{List}
use native.Mathlib.Omega.{arith}
use lib.ListN.{set}
use Rattle.std.proofs.lemmas.List.Edits.{fill_more}
use Rattle.blocks.proofs.Laws.Block.{put_mid-zeros}
use Rattle.blocks.proofs.copy.zero_block.Goals as goal

pub loop-b-preserved : goal.loop-b-preserved
loop-b-preserved c =
    let l = c.loop-b in
    ap (λ (r : List ℕ). set r l.b-index 0) l.invariant ∙ fill_more l.b-index 0 _ c.loop-b-test.true

pub returns : goal.returns
returns c =
    let a = c.args in
    record { images = put_mid-zeros a.images.now a.at a.len _ c.loop-b.b-index _ c.requires (omega arith) (omega arith) c.loop-b.invariant }
