-- `new_slot` meets its contract. Assumes nothing.
use Rattle.layout.proofs.Laws.Bounds.{sizes-of}
use Rattle.layout.proofs.Laws.Layout.{new-room, new-made}
use Rattle.placement.proofs.placing.new_slot.Goals as goal

pub of-requires : goal.of-requires
of-requires c = sizes-of _ c.requires.0 _ (new-room _ c.requires.0 _ c.requires.1).1

pub returns : goal.returns
returns c =
    new-made _ c.requires.0 _ c.requires.1 _ c.of.ensures.1
