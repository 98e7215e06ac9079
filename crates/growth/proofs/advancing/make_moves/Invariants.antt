-- `make_moves` meets its contract. After `made` turns so many moves are made, and the cursor is at the next. Assumes nothing.
use Rattle.growth.proofs.Laws.Advancing.{Made}
use Rattle.growth.proofs.advancing.make_moves.Given as goal

abbrev pub invariant-loop-made : goal.invariant-loop-made
invariant-loop-made l = Made l.r l.initial.images l.count l.images l.at l.made
