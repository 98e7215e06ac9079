-- `owner` meets its contract. Assumes nothing.
use mathlib.Core.Path.{sym}
use mathlib.Core.List.{[]}
use Rattle.std.proofs.Common.{rules}
use Rattle.calls.specs.Call.{owner, on}
use Rattle.calls.specs.Effect.{effect}
use Rattle.refusals.proofs.Laws.Called.{called-stopped, called-done, err-owned}
use Rattle.queries.proofs.asking.owner.Goals as goal

pub returns-in_err-of_owner : goal.returns-in_err-of_owner
returns-in_err-of_owner c =
    let a = c.args in
    let x = c.from_residual.result in
    let l = c.from_residual.ensures.0 in
    rw (called-stopped (on (owner a.s a.d) [] []) a.r x l (search rules)) (record { answer = err-owned x l })

pub returns : goal.returns
unfolding effect
returns c =
    let a = c.args in
    rw (called-done (on (owner a.s a.d) [] []) a.r (sym c.in_ok-of_owner.ensures.number)) (record { answer = c.role_at.ensures.answer })
