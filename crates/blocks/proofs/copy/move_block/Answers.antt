-- `move_block` meets its contract. Assumes nothing.
use Prim.Native.Nat.{ℕ}
use mathlib.Core.Path.{ap, ◌∙◌}
use mathlib.Core.List.{List}
use native.Mathlib.Omega.{arith}
use Rattle.blocks.specs.Block.{store, zeros}
use Rattle.blocks.proofs.Laws.Block.{put_mid-copied}
use Rattle.blocks.proofs.copy.move_block.Goals as goal

pub returns : goal.returns
returns c =
    let a = c.args in
    let l = a.images.now in
    let copied = c.copy_from_slice-2.ensures.after ∙ c.copy_from_slice.ensures.after in
    record {
      images =
          c.zero_block.ensures.images
          ∙ ap (λ (r : List ℕ). store r a.from (zeros a.len))
          (put_mid-copied l a.to l a.from a.len _ _ _ c.requires.1 c.requires.2 (omega arith) (omega arith) copied);
    }
