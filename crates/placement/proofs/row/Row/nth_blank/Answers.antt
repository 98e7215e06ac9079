-- `nth_blank` meets its contract. Assumes nothing.
use native.Mathlib.Omega.{arith}
use Rattle.layout.proofs.Laws.Settled.{resting-nth, resting-lt}
use Rattle.placement.proofs.row.Row.nth_blank.Goals as goal

pub overflow_add-result : goal.overflow_add-result
overflow_add-result c =
    let w = c.args.self.apart in
    omega (arith, w.sizes.disks, resting-lt _ _ (omega (arith, w.sizes.disks.n_low)) _ _ _ c.is_settled.ensures c.requires.0 _ _ _ c.nth_lift.ensures c.pick.ensures c.requires.1)

pub returns : goal.returns
returns c =
    let w = c.args.self.apart in
    resting-nth _ _ (omega (arith, w.sizes.disks.n_low)) _ _ _ c.is_settled.ensures c.requires.0 _ _ _ c.nth_lift.ensures c.pick.ensures c.requires.1
