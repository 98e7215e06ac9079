-- `locate` meets its contract. Assumes nothing.
use mathlib.Core.Path.{sym}
use mathlib.Core.List.{[]}
use Rattle.std.proofs.Common.{rules}
use Rattle.calls.specs.Call.{locate, on}
use Rattle.calls.specs.Effect.{effect}
use Rattle.refusals.proofs.Laws.Called.{called-stopped, called-done, err-located}
use Rattle.queries.proofs.asking.locate.Goals as goal

pub returns-in_err-of_locate : goal.returns-in_err-of_locate
returns-in_err-of_locate c =
    let a = c.args in
    let x = c.from_residual.result in
    let l = c.from_residual.ensures.0 in
    rw (called-stopped (on (locate a.b) [] []) a.r x l (search rules)) (record { answer = err-located x l })

pub returns : goal.returns
unfolding effect
returns c =
    let a = c.args in
    rw (called-done (on (locate a.b) [] []) a.r (sym c.in_ok-of_locate.ensures.number)) (record { answer = c.standing_of.ensures.answer })
