-- `role_at` meets its contract. Assumes nothing.
use Prim.Native.Nat.{◌<◌}
use mathlib.Core.Path.{refl}
use native.Mathlib.Omega.{arith}
use Rattle.layout.specs.Layout.{disks}
use Rattle.layout.specs.Limits.{GoodArray}
use Rattle.calls.specs.Effect.{effect}
use Rattle.queries.proofs.Laws.Asking.{owner-asks}
use Rattle.queries.proofs.asking.role_at.Goals as goal
use Rattle.queries.proofs.asking.role_at.Goals.{After-geometry_of}

asks : (c : After-geometry_of) → let a = c.args in
    let g = c.geometry_of.result in GoodArray g × (a.s < g.stripes) × (a.d < disks g)
asks c = owner-asks c.args.r c.geometry_of.ensures c.args.s c.args.d c.requires

pub overflow_cast-s : goal.overflow_cast-s
overflow_cast-s c = omega (arith, asks (goal.at.overflow_cast-s c).After-geometry_of)

pub overflow_cast-d : goal.overflow_cast-d
overflow_cast-d c = omega (arith, asks (goal.at.overflow_cast-d c).After-geometry_of)

pub owner_of-requires : goal.owner_of-requires
owner_of-requires c = asks (goal.at.owner_of-requires c).After-geometry_of

pub returns : goal.returns
unfolding effect
returns c =
    record {
      answer =
          rw (c.owner_of.ensures, c.geometry_of.ensures) refl;
    }
