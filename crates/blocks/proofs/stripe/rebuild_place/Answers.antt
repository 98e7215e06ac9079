-- `rebuild_place` meets its contract. Assumes nothing.
use Prim.Native.Nat.{ℕ}
use mathlib.Core.Path.{◌≡◌, ap, ap₂, ◌∙◌}
use native.Mathlib.Omega.{arith}
use lib.ListN.{length}
use Rattle.blocks.specs.Block.{store}
use Rattle.blocks.proofs.Laws.Block.{put_mid-store}
use Rattle.blocks.proofs.Laws.Stripe.{place-in}
use Rattle.blocks.proofs.stripe.rebuild_place.Goals as goal

pub returns-clause-images : goal.returns-clause-images
returns-clause-images c =
    let a = c.args in
    let n : ℕ = length a.block.now in
    let within = place-in n a.stripes a.s a.out a.disks c.requires.2 c.requires.3 in
    let copied = c.copy_from_slice.ensures.after in
    let long : length c.copy_from_slice.new.self ≡ n = ap length copied ∙ c.xor_others.auto.block in
    put_mid-store a.images.now c.offset_of-at.result _ c.copy_from_slice.new.self (omega arith) (omega arith)
    ∙ ap₂ (store a.images.now) c.offset_of-at.ensures.start (copied ∙ c.xor_others.ensures.block)
