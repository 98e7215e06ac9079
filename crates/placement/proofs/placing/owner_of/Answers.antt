-- `owner_of` meets its contract. Assumes nothing.
use mathlib.Core.Path.{ap, sym}
use Rattle.layout.proofs.Laws.Layout.{owner-picked}
use Rattle.placement.proofs.placing.owner_of.Goals as goal

pub returns : goal.returns
returns c =
    let e = sym c.of-x.ensures.0 in
    rw e (owner-picked c.of-x.result.array (rw e at c.requires.0) _ _ _ (rw e at c.of-x.ensures.1) _ c.source_of-d.ensures.0 _ (ap (λ y. y.disk) c.carried_to-there.ensures) _ _ _ _ (rw e at c.requires.1) (rw e at c.requires.2) c.home_code.ensures c.new_code.ensures c.pick.ensures c.role_of.ensures)
