-- `standing_of` meets its contract. Assumes nothing.
use mathlib.Core.Path.{refl}
use Rattle.calls.specs.Effect.{effect}
use Rattle.queries.proofs.Laws.Asking.{locate-asks}
use Rattle.queries.proofs.asking.standing_of.Goals as goal

pub slot_of-requires : goal.slot_of-requires
slot_of-requires c = locate-asks c.args.r c.geometry_of-g.ensures c.args.b c.requires

pub place_of-requires : goal.place_of-requires
place_of-requires c =
    let x = locate-asks c.args.r c.geometry_of-g.ensures c.args.b c.requires in
    (x.0, x.1, c.slot_of.ensures)

pub returns : goal.returns
unfolding effect
returns c =
    record {
      answer =
          rw (c.place_of.ensures, c.geometry_of-g.ensures) refl;
    }
