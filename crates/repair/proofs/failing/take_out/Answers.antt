-- `take_out` meets its contract. Assumes nothing.
use mathlib.Core.Path.{ap, ◌∙◌}
use native.Mathlib.Omega.{arith}
use Rattle.state.specs.Update.{with_health}
use Rattle.calls.specs.Images.{recorded}
use Rattle.calls.specs.Effect.{effect}
use Rattle.repair.proofs.Laws.Failing.{out-asks}
use Rattle.repair.proofs.failing.take_out.Goals as goal

pub overflow_cast-d : goal.overflow_cast-d
overflow_cast-d c = omega (arith, out-asks c.args.r c.args.d c.requires)

pub returns : goal.returns
unfolding effect recorded
returns c =
    record { state = c.with_health.ensures ∙ ap (with_health c.args.r) c.after_out.ensures.health }
