-- `data_disk` meets its contract. Assumes nothing.
use Rattle.layout.proofs.Laws.Home.{disk-picked}
use Rattle.placement.proofs.row.Row.data_disk.Goals as goal

pub returns : goal.returns
returns c = disk-picked _ _ _ c.args.self.apart.home _ _ c.pick.ensures
