-- `look` meets its contract: any block of B bytes will do. The loop has found none of the first s stripes unsound. Assumes nothing.
use Rattle.blocks.proofs.Laws.Block.{length-prefix}
use Rattle.scrub.proofs.Laws.Sweeping.{none_first, none_more, found}
use Rattle.scrub.proofs.sweeping.Stripes.look.Goals as goal

pub loop-s-init : goal.loop-s-init
loop-s-init c =
    let x = c.args.self.now in
    none_first x.array.rec x.images.now (length-prefix _ 4096 x.array.good.block_high)

pub returns-then-not-is_sound : goal.returns-then-not-is_sound
returns-then-not-is_sound c =
    record { answer = found c.loop-s.invariant c.loop-s-test.true c.is_sound.ensures.answer c.if-not-is_sound.true }

pub loop-s-preserved : goal.loop-s-preserved
loop-s-preserved c =
    none_more c.loop-s.invariant _ c.loop-s-test.true c.is_sound.ensures.answer c.if-not-is_sound.false c.is_sound.auto.block
