-- `lag_of` meets its contract. Assumes nothing.
use native.Mathlib.Omega.{arith}
use Rattle.layout.proofs.Laws.Apart.{lag-below, lag-above}
use Rattle.placement.proofs.row.Row.lag_of.Goals as goal

pub returns-then-d-home : goal.returns-then-d-home
returns-then-d-home c = lag-below _ _ _ c.args.self.apart _ (omega arith) (omega arith)

pub returns-else-d-home : goal.returns-else-d-home
returns-else-d-home c = lag-above _ _ _ c.args.self.apart _ (omega arith) (omega arith)
