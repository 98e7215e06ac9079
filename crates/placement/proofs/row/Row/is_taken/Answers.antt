-- `is_taken` meets its contract. Assumes nothing.
use mathlib.Core.Path.{ap}
use native.Mathlib.Omega.{arith}
use Rattle.layout.proofs.Laws.Source.{says-taken}
use Rattle.placement.proofs.row.Row.is_taken.Goals as goal

pub returns : goal.returns
returns c =
    says-taken _ _ (omega (arith, c.args.self.apart.sizes.disks.n_low)) _ _ _ _ _ c.source_of.ensures.0 (ap (λ x. x.disk) c.carried_to.ensures)
