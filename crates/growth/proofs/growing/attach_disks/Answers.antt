-- `attach_disks` meets its contract: all after the first n disks is one run of zeroes. Assumes nothing.
use mathlib.Core.Path.{◌∙◌}
use native.Mathlib.Omega.{arith}
use lib.ListN.{length}
use Rattle.growth.proofs.Laws.Growing.{Sizes, grow-sizes, grow-done}
use Rattle.growth.proofs.growing.attach_disks.Goals as goal
use Rattle.growth.proofs.growing.attach_disks.Goals.{Start}

-- what the call has passed
passed : (c : Start) → Sizes c.args.r (length c.args.images.now) c.args.m
passed c = grow-sizes c.args.images.now c.args.r c.args.m c.requires

pub overflow_sub-len : goal.overflow_sub-len
overflow_sub-len c = (passed (goal.at.overflow_sub-len c).Start).within

pub zero_block-requires : goal.zero_block-requires
zero_block-requires c = omega (arith, (passed (goal.at.zero_block-requires c).Start).within)

pub overflow_cast-m : goal.overflow_cast-m
overflow_cast-m c = omega (arith, (passed (goal.at.overflow_cast-m c).Start).small)

pub returns : goal.returns
returns c =
    let q = grow-done c.args.images.now c.args.r c.args.m c.requires in
    record { state = c.grown_by.ensures ∙ q.1; images = c.zero_block.ensures.images ∙ q.2 }
