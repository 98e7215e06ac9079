-- `clear` meets its contract: all of the images is one run of zeroes. Assumes nothing.
use mathlib.Core.Path.{◌∙◌}
use native.Mathlib.Omega.{arith}
use Rattle.state.specs.Good.{GoodRecord}
use Rattle.state.specs.Update.{formatted}
use Rattle.calls.proofs.Laws.Format.{limits}
use Rattle.growth.proofs.Laws.Formatting.{format-passed, format-done}
use Rattle.growth.proofs.formatting.clear.Goals as goal
use Rattle.growth.proofs.formatting.clear.Goals.{Start}

-- the limits that the numbers given are in
fits : (c : Start) → GoodRecord (formatted c.args.n c.args.block c.args.stripes)
fits c =
    let a = c.args in
    let r = formatted a.n a.block a.stripes in
    limits _ _ _ (format-passed a.images.now r _ _ _ (c.requires r)).fits

pub overflow_cast-n : goal.overflow_cast-n
overflow_cast-n c = omega (arith, (fits (goal.at.overflow_cast-n c).Start).array.disks.n_high)

pub overflow_cast-block : goal.overflow_cast-block
overflow_cast-block c = omega (arith, (fits (goal.at.overflow_cast-block c).Start).block_high)

pub overflow_cast-stripes : goal.overflow_cast-stripes
overflow_cast-stripes c = omega (arith, (fits (goal.at.overflow_cast-stripes c).Start).array.stripes_high)

pub returns : goal.returns
returns c =
    let a = c.args in
    record { state = λ r. c.formatted.ensures ∙ (format-done a.images.now r a.n a.block a.stripes (c.requires r)).1; images = λ r. c.zero_block.ensures.images ∙ (format-done a.images.now r a.n a.block a.stripes (c.requires r)).2 }
