-- `source_of` meets its contract. Assumes nothing.
use native.Mathlib.Omega.{arith}
use Rattle.layout.proofs.Laws.Apart.{source-picked}
use Rattle.layout.proofs.Laws.Source.{source-lt}
use Rattle.placement.proofs.row.Row.source_of.Goals as goal

pub returns : goal.returns
returns c =
    let x = c.args.self in
    let q = source-picked _ _ _ x.apart _ _ _ _ _ c.saturating_sub-i.ensures c.pick.ensures c.lag_of-d.ensures c.pick-2.ensures in
    (q, omega (arith, q, source-lt x.array.old x.array.new (omega (arith, x.apart.sizes.disks.n_low)) x.stripe.number c.args.e))
