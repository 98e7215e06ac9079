-- `begin_rebuild` meets its contract. Assumes nothing.
use mathlib.Core.Path.{refl, sym}
use mathlib.Core.List.{[]}
use Rattle.std.proofs.Common.{rules}
use Rattle.calls.specs.Call.{begin, on}
use Rattle.calls.specs.Effect.{effect}
use Rattle.refusals.proofs.Laws.Called.{called-stopped, called-done, err-changed, err-unchanged}
use Rattle.repair.proofs.rebuilding.begin_rebuild.Goals as goal

pub returns-in_err-of_begin : goal.returns-in_err-of_begin
returns-in_err-of_begin c =
    let a = c.args in
    let x = c.from_residual.result in
    let l = c.from_residual.ensures.0 in
    rw (called-stopped (on (begin a.d) a.images.now []) a.r x l (search rules)) (record { answer = err-changed x l; state = err-unchanged a.r x l })

pub returns : goal.returns
unfolding effect
returns c =
    let a = c.args in
    rw (called-done (on (begin a.d) a.images.now []) a.r (sym c.in_ok-of_begin.ensures.number)) (record { answer = refl; state = c.start_rebuild.ensures.state })
