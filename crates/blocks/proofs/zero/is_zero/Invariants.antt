-- `is_zero` meets its contract. The loop has ored the first bytes. Assumes nothing.
use mathlib.Core.Path.{◌≡◌}
use lib.Bits.{bit_or}
use lib.ListN.{take}
use Rattle.std.specs.List.{fold}
use Rattle.blocks.proofs.zero.is_zero.Given as goal

abbrev pub invariant-loop-b : goal.invariant-loop-b
invariant-loop-b l = l.any ≡ fold bit_or 0 (take l.b-index l.b-items)
