-- `place_of` meets its contract. Assumes nothing.
use Rattle.layout.proofs.Laws.Layout.{slot-in, placed}
use Rattle.placement.proofs.placing.place_of.Goals as goal

pub invariant_of-x : goal.invariant_of-x
invariant_of-x c = record { apart = (slot-in _ c.requires.0 _ c.requires.1 _ c.requires.2).apart }

pub seat_disk-block-requires : goal.seat_disk-block-requires
seat_disk-block-requires c = (slot-in _ c.requires.0 _ c.requires.1 _ c.requires.2).seated

pub returns : goal.returns
returns c =
    placed _ c.requires.0 _ c.requires.1 _ c.requires.2 _ _ c.carried_to-parity.ensures c.seat_disk-block.ensures
