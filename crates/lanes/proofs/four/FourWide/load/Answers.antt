-- `load` meets its contract, by what its four calls ensure. Assumes nothing.
use mathlib.Core.Path.{ap₂, ◌∙◌}
use mathlib.Core.List.{◌++◌}
use Rattle.lanes.proofs.Laws.Lanes.{blocks-four}
use Rattle.lanes.proofs.four.FourWide.load.Goals as goal

pub returns : goal.returns
returns g c =
    let four = ap₂ ◌++◌ c.load.ensures.bytes (ap₂ ◌++◌ c.load-2.ensures.bytes (ap₂ ◌++◌ c.load-3.ensures.bytes c.load-4.ensures.bytes)) in
    record { bytes = rw c.LEN-len.ensures at four ∙ blocks-four c.args.source.now c.args.at g.T.Wide.LEN }
