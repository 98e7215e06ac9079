-- `store` meets its contract, by what its four calls ensure. Assumes nothing.
use native.Mathlib.Omega.{arith}
use Rattle.lanes.proofs.Laws.Lanes.{stores-four}
use Rattle.lanes.proofs.four.FourWide.store.Goals as goal

pub returns : goal.returns
returns g c =
    let a = c.args in
    let x = a.self in
    let b = g.T.Wide.bytes in
    let long = g.met.T.Wide.long in
    let e = c.LEN-len.ensures in
    record {
      target =
          stores-four a.target.now a.at (b x.a) (b x.b) (b x.c) (b x.d) c.store.ensures.target c.store-2.ensures.target c.store-3.ensures.target c.store-4.ensures.target
          (omega (arith, e, long x.a))
          (omega (arith, e, long x.b))
          (omega (arith, e, long x.c));
    }
