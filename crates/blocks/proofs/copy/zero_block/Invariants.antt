-- `zero_block` meets its contract. The loop has zeroed the first bytes. Assumes nothing.
use mathlib.Core.Path.{◌≡◌}
use mathlib.Core.List.{◌++◌}
use lib.ListN.{drop}
use Rattle.blocks.specs.Block.{zeros}
use Rattle.blocks.proofs.copy.zero_block.Given as goal

abbrev pub invariant-loop-b : goal.invariant-loop-b
invariant-loop-b l = l.b-items ≡ zeros l.b-index ++ drop l.b-index l.initial.b-items
