-- `modify_as` meets its contract. The loop has stored the new parity from `first` to before `i`. Assumes nothing.
use Prim.Native.Nat.{ℕ}
use mathlib.Core.Path.{ap, ◌∙◌}
use mathlib.Core.List.{List}
use native.Mathlib.Omega.{arith}
use Rattle.blocks.specs.Xor.{xor_b}
use Rattle.parity.proofs.Laws.Replace.{replaced-none}
use Rattle.parity.proofs.Laws.Modify.{modified-more}
use Rattle.parity.proofs.modify.modify_as.Goals as goal

pub loop-i-init : goal.loop-i-init
loop-i-init g c = replaced-none c.requires.1

pub loop-i-preserved : goal.loop-i-preserved
loop-i-preserved g c =
    let a = c.args in
    let w = g.W.Wide in
    let sum = c.xor.ensures.bytes ∙ ap (λ (r : List ℕ). xor_b r (w.bytes c.load-in-loop-i-2.result)) c.xor-without.ensures.bytes in
    rw c.LEN-i.ensures
    (modified-more a.parity a.at a.bytes.now a.images.now c.requires.0 c.loop-i.invariant w.LEN
    (omega (arith, c.LEN.ensures, c.loop-i.invariant.within))
    c.load.ensures.bytes
    c.load-in-loop-i.ensures.bytes
    c.load-in-loop-i-2.ensures.bytes
    sum
    c.store.ensures.target)
