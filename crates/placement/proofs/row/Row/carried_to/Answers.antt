-- `carried_to` meets its contract. Assumes nothing.
use mathlib.Core.Path.{refl}
use native.Mathlib.Omega.{arith}
use Rattle.layout.proofs.Laws.Apart.{says-carried}
use Rattle.layout.proofs.Laws.Bounds.{turns}
use Rattle.placement.proofs.row.Row.carried_to.Goals as goal

pub overflow_add-p : goal.overflow_add-p
overflow_add-p c = omega (arith, turns _ _ _ c.args.self.apart _ _ c.lag_of-i.ensures)

pub overflow_add-turn : goal.overflow_add-turn
overflow_add-turn c = omega (arith, turns _ _ _ c.args.self.apart _ _ c.lag_of-i.ensures)

pub overflow_mul-turn-2 : goal.overflow_mul-turn-2
overflow_mul-turn-2 c = omega (arith, (turns _ _ _ c.args.self.apart _ _ c.lag_of-i.ensures).index _ c.saturating_sub.ensures)

pub overflow_add-turn-2 : goal.overflow_add-turn-2
overflow_add-turn-2 c =
    let r = turns _ _ _ c.args.self.apart _ _ c.lag_of-i.ensures in
    omega (arith, r.lag, r.index _ c.saturating_sub.ensures)

pub returns : goal.returns
returns c =
    says-carried _ _ _ c.args.self.apart _ _ _ c.lag_of-i.ensures _ _ _ _ c.saturating_sub.ensures refl refl c.pick.ensures
