-- `home_block` meets its contract. Assumes nothing.
use Rattle.layout.proofs.Laws.Home.{block-picked}
use Rattle.placement.proofs.row.Row.home_block.Goals as goal

pub returns : goal.returns
returns c = block-picked _ _ _ c.args.self.apart.home _ _ _ c.pick.ensures c.saturating_sub.ensures
