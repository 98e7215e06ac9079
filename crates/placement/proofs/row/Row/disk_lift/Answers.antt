-- `disk_lift` meets its contract. Assumes nothing.
use Rattle.layout.proofs.Laws.Runs.{below-lifted}
use Rattle.placement.proofs.row.Row.disk_lift.Goals as goal

pub returns : goal.returns
returns c =
    below-lifted _ _ _ c.args.self.apart _ c.runs-r.ensures _ _ c.lift.ensures c.requires
