-- `sum_wide` meets its contract. The loop has xored in as many bytes of each place counted of the first d disks. Assumes nothing.
use native.Mathlib.Omega.{arith}
use Prim.Native.Nat.{ℕ, ◌+◌}
use mathlib.Core.Path.{sym, ap, ◌∙◌}
use Rattle.blocks.specs.Xor.{xor_b}
use Rattle.parity.proofs.Laws.Fold.{gathered_none, gathered-in, gathered-over}
use Rattle.parity.proofs.reconstruct.sum_wide.Goals as goal
use Rattle.parity.proofs.reconstruct.sum_wide.Goals.{then-is_counted, else-is_counted}

pub loop-d-init : goal.loop-d-init
loop-d-init g c =
    let a = c.args in
    let w = g.W.Wide in
    gathered_none a.g a.images.now a.at w.LEN (w.bytes a.x) c.requires.1 (omega (arith, g.met.W.Wide.long a.x))

pub loop-d-preserved : goal.loop-d-preserved
loop-d-preserved g c =
    let w = g.W.Wide in
    let lt = c.loop-d-test.true in
    let l = c.loop-d in
    let told = sym c.is_counted.ensures in
    elim c.if-is_counted.branch [
      | then-is_counted t ↦
          gathered-in lt c.requires.1 (told ∙ t.if-is_counted.true) (ap (λ (n : ℕ). n + c.args.at) t.offset_of.ensures.start) l.invariant
          (ap w.bytes t.sum-is ∙ t.xor-sum.ensures.bytes ∙ ap (xor_b (w.bytes l.sum)) t.load.ensures.bytes)
      | else-is_counted t ↦ gathered-over lt (told ∙ t.if-is_counted.false) l.invariant (ap w.bytes t.sum-is)
    ]
