-- `status` meets its contract. Assumes nothing.
use mathlib.Core.Path.{sym}
use mathlib.Core.List.{[]}
use Rattle.std.proofs.Common.{rules}
use Rattle.calls.specs.Call.{status, on}
use Rattle.calls.specs.Effect.{effect}
use Rattle.refusals.proofs.Laws.Called.{called-stopped, called-done, err-report}
use Rattle.queries.proofs.asking.status.Goals as goal

pub returns-in_err-of_status : goal.returns-in_err-of_status
returns-in_err-of_status c =
    let a = c.args in
    let x = c.from_residual.result in
    let l = c.from_residual.ensures.0 in
    rw (called-stopped (on status [] []) a.r x l (search rules)) (record { answer = err-report x l })

pub returns : goal.returns
unfolding effect
returns c =
    let a = c.args in
    rw (called-done (on status [] []) a.r (sym c.in_ok-of_status.ensures.number)) (record { answer = c.figures_of.ensures.answer })
