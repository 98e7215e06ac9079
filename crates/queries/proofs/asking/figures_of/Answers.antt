-- `figures_of` meets its contract. Assumes nothing.
use mathlib.Core.Path.{refl}
use Rattle.layout.proofs.Laws.Bounds.{sized}
use Rattle.calls.specs.Effect.{effect}
use Rattle.queries.proofs.Laws.Asking.{status-asks}
use Rattle.queries.proofs.asking.figures_of.Goals as goal

pub capacity_of-requires : goal.capacity_of-requires
capacity_of-requires c = status-asks c.args.r c.geometry_of-g.ensures c.requires

pub total_of-requires : goal.total_of-requires
total_of-requires c =
    sized _ (status-asks c.args.r c.geometry_of-g.ensures c.requires)

pub returns : goal.returns
unfolding effect
returns c =
    record {
      answer =
          rw (c.total_of.ensures, c.capacity_of.ensures, c.geometry_of-g.ensures) refl;
    }
