-- `is_zero` meets its contract. The loop has ored the first bytes. Assumes nothing.
use Prim.Native.Nat.{◌+◌, ◌-◌}
use mathlib.Core.Path.{ap, ◌∙◌}
use native.Mathlib.Omega.{arith}
use lib.Bits.{bit_or}
use lib.Seq.{take_all}
use Rattle.std.specs.List.{fold}
use Rattle.blocks.proofs.Laws.Zero.{ored-zeros}
use Rattle.blocks.proofs.zero.is_zero.Goals as goal

pub returns : goal.returns
returns c =
    let a = c.args in
    let l = c.loop-b in
    record { zero = ored-zeros a.source.now a.at a.len (a.at + a.len - a.at) l.any c.requires (omega arith) (l.invariant ∙ ap (fold bit_or 0) (take_all l.b-index _ c.loop-b-test.false)) }
