-- `continue_rebuild` meets its contract. Assumes nothing.
use mathlib.Core.Path.{refl, sym}
use mathlib.Core.List.{[]}
use Rattle.std.proofs.Common.{rules}
use Rattle.calls.specs.Call.{continue, on}
use Rattle.calls.specs.Effect.{effect}
use Rattle.refusals.proofs.Laws.Called.{called-stopped, called-done, err-counted, err-uncounted}
use Rattle.repair.proofs.rebuilding.continue_rebuild.Goals as goal

pub returns-in_err-a : goal.returns-in_err-a
returns-in_err-a c =
    let a = c.args in
    let x = c.from_residual.result in
    let l = c.from_residual.ensures.0 in
    rw (called-stopped (on (continue a.k) a.images.now []) a.r x l (search rules)) (record { answer = err-counted x l; state = err-uncounted a.r x l; images = refl })

pub returns : goal.returns
unfolding effect
returns c =
    let a = c.args in
    let made = rw c.in_ok-a.ensures.same at c.rebuild_due.ensures in
    rw (called-done (on (continue a.k) a.images.now []) a.r (sym c.in_ok-a.ensures.number)) (record { answer = made.answer; state = made.state; images = made.images })
