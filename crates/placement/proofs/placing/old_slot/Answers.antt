-- `old_slot` meets its contract. Assumes nothing.
use Rattle.layout.proofs.Laws.Layout.{old-made}
use Rattle.placement.proofs.placing.old_slot.Goals as goal

pub returns : goal.returns
returns c =
    old-made _ c.requires.0 _ c.requires.1 _ c.of-x.ensures.1 _ (rw c.of-x.ensures.0 at c.data_disk.ensures)
