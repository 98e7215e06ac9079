-- `sums_to_zero` meets its contract: with many disks the first are summed ahead. Assumes nothing.
use mathlib.Core.Path.{ap, ◌∙◌}
use mathlib.Core.Logic.{inl}
use native.Mathlib.Omega.{arith}
use lib.ListN.{length}
use Rattle.scrub.proofs.Laws.Sweeping.{Ahead, made-ahead, last-asked, last-shows}
use Rattle.scrub.proofs.sweeping.Stripes.sums_to_zero.Goals as goal
use Rattle.scrub.proofs.sweeping.Stripes.sums_to_zero.Goals.{Joined-k-gt-GROUP, then-k-gt-GROUP, else-k-gt-GROUP}

-- what the test leaves
ahead : (c : Joined-k-gt-GROUP) → let a = c.args in let x = a.self.now in Ahead x.array.rec x.images.now a.s a.k c.if-k-gt-GROUP.first c.if-k-gt-GROUP.block
ahead c =
    let a = c.args in
    let x = a.self.now in
    let (few, ls, lb) = c.requires in
    elim c.if-k-gt-GROUP.branch [
      | then-k-gt-GROUP w ↦ made-ahead x.array.rec x.images.now a.s a.k a.block.now lb w.first-is (omega (arith, w.if-k-gt-GROUP.true)) (w.block-is ∙ w.xor_others.ensures.block)
      | else-k-gt-GROUP w ↦ record { begun = inl w.first-is; order = omega (arith, w.first-is); long = ap length w.block-is ∙ lb }
    ]

pub cancels-requires : goal.cancels-requires
cancels-requires c =
    let x = c.args.self.now in
    let (few, ls, lb) = c.requires in
    last-asked x.array.good x.whole few ls x.long (ahead (goal.at.cancels-requires c).Joined-k-gt-GROUP)

pub returns : goal.returns
returns c =
    let x = c.args.self.now in
    let (few, ls, lb) = c.requires in
    record { answer = last-shows x.array.good x.whole few ls x.long (ahead (goal.at.returns c).Joined-k-gt-GROUP) c.cancels.ensures.zero }
