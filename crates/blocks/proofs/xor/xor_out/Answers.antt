-- `xor_out` meets its contract. The loop writes the whole of `block`. Assumes nothing.
use native.Mathlib.Omega.{arith}
use mathlib.Core.Path.{refl}
use lib.ListN.{length}
use Rattle.blocks.specs.Block.{block_at}
use Rattle.blocks.proofs.Laws.Block.{length-block_at}
use Rattle.blocks.proofs.Laws.Xor.{length-xor_b}
use Rattle.blocks.proofs.Laws.Fill.{filled_none, xored-out-more, filled-all₀}
use Rattle.blocks.proofs.xor.xor_out.Goals as goal

pub loop-i-init : goal.loop-i-init
loop-i-init c = filled_none (length-xor_b c.args.block.now (block_at c.args.images.now c.args.at (length c.args.block.now)) (length c.args.block.now) refl (length-block_at c.args.images.now c.args.at _ c.requires))

pub loop-i-preserved : goal.loop-i-preserved
loop-i-preserved c = xored-out-more c.args.images.now c.args.at (omega arith) c.loop-i.invariant

pub returns : goal.returns
returns c = filled-all₀ c.loop-i.invariant (omega arith) refl
