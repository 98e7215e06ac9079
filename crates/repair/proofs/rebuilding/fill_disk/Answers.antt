-- `fill_disk` meets its contract. After so many turns so many stripes are written. Assumes nothing.
use mathlib.Core.Path.{refl}
use Rattle.repair.proofs.Laws.Rebuilding.{filled_none, filled_more}
use Rattle.repair.proofs.rebuilding.fill_disk.Goals as goal

pub loop-made-init : goal.loop-made-init
loop-made-init c = filled_none _ _ _ _ _ _ _ _ refl

pub loop-made-preserved : goal.loop-made-preserved
loop-made-preserved c =
    let p = c.requires in
    filled_more _ _ _ _ _ _ p.1 c.loop-made-test.true c.loop-made.invariant c.rebuild_place.ensures.images c.rebuild_place.ensures.block
