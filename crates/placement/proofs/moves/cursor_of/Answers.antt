-- `cursor_of` meets its contract. Assumes nothing.
use native.Mathlib.Omega.{arith}
use Rattle.layout.proofs.Laws.Counting.{move-held, cursor-made}
use Rattle.placement.proofs.moves.cursor_of.Goals as goal

pub overflow_sub-result : goal.overflow_sub-result
overflow_sub-result c = (move-held _ _ c.requires.0 c.requires.1 _ _ c.move_of-x.ensures).0

pub overflow_mul-result : goal.overflow_mul-result
overflow_mul-result c = omega (arith, (move-held _ _ c.requires.0 c.requires.1 _ _ c.move_of-x.ensures).1)

pub overflow_add-result : goal.overflow_add-result
overflow_add-result c = omega (arith, move-held _ _ c.requires.0 c.requires.1 _ _ c.move_of-x.ensures)

pub returns : goal.returns
returns c = cursor-made _ _ c.requires.0 c.requires.1 _ _ c.move_of-x.ensures
