-- `home_code` meets its contract. Assumes nothing.
use Rattle.layout.proofs.Laws.Home.{code-picked}
use Rattle.placement.proofs.row.Row.home_code.Goals as goal

pub returns : goal.returns
returns c = code-picked _ _ _ c.args.self.apart.home _ _ _ c.home_block.ensures c.pick.ensures
