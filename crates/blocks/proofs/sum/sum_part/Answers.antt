-- `sum_part` meets its contract. Assumes nothing.
use Prim.Native.Nat.{ℕ}
use mathlib.Core.Path.{◌≡◌, ap, ◌∙◌}
use mathlib.Core.List.{List}
use lib.ListN.{length}
use Rattle.blocks.specs.Block.{block_at}
use Rattle.blocks.specs.Sum.{sum_to}
use Rattle.blocks.specs.Xor.{xor_b}
use Rattle.blocks.proofs.Laws.Summed.{begins_fresh, begins_left}
use Rattle.blocks.proofs.sum.sum_part.Goals as goal
use Rattle.blocks.proofs.sum.sum_part.Goals.{then-x-ne0, else-x-ne0}

pub add_disks-requires : goal.add_disks-requires
add_disks-requires c =
    let a = c.args in
    let b = a.block.now in
    let n : ℕ = length a.part.now in
    let begun : c.if-x-ne0.part ≡ block_at (sum_to (length b) a.images.now a.x a.x.first) a.at n = elim c.if-x-ne0.branch [
      | then-x-ne0 w ↦ w.part-is ∙ w.xor_out.ensures ∙ ap (λ (r : List ℕ). xor_b r (block_at b a.at n)) c.requires.0 ∙ begins_left _ _ _ _ _ c.requires.1 w.if-x-ne0.true
      | else-x-ne0 w ↦ w.part-is ∙ c.requires.0 ∙ begins_fresh _ _ _ _ _ c.requires.1 w.if-x-ne0.false
    ] in
    let size : length c.if-x-ne0.part ≡ n = c.if-x-ne0.auto.part in
    rw size (c.requires.1.0, c.requires.1.1, begun)
