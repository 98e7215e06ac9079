-- `add_disks` meets its contract. The loop has xored in the part of the places of the first d disks but `out`. Assumes nothing.
use Prim.Native.Nat.{ℕ, ◌+◌}
use mathlib.Core.Path.{ap, ◌∙◌}
use lib.ListN.{length}
use Rattle.blocks.proofs.Laws.Summed.{part_in, part_out}
use Rattle.blocks.proofs.sum.add_disks.Goals as goal
use Rattle.blocks.proofs.sum.add_disks.Goals.{then-d-x, else-d-x}

pub loop-d-preserved : goal.loop-d-preserved
loop-d-preserved c =
    let lt = c.loop-d-test.true in
    let inv = c.loop-d.invariant in
    elim c.if-d-x.branch [
      | then-d-x w ↦ part_in lt c.requires.1 w.if-d-x.true (ap (λ (n : ℕ). n + c.args.at) w.offset_of.ensures.start) inv (w.part-is ∙ w.xor_out.ensures) (ap length w.part-is ∙ w.xor_out.auto.block)
      | else-d-x w ↦ part_out lt w.if-d-x.false inv w.part-is
    ]
