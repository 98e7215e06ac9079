-- `count_below` meets its contract. Assumes nothing.
use native.Mathlib.Omega.{arith}
use Rattle.layout.proofs.Laws.Settled.{resting-below}
use Rattle.placement.proofs.row.Row.count_below.Goals as goal

pub returns : goal.returns
returns c =
    let w = c.args.self.apart in
    resting-below _ _ (omega (arith, w.sizes.disks.n_low)) _ _ _ c.is_settled.ensures _ _ _ _ c.disk_lift.ensures c.pick.ensures c.saturating_sub.ensures
