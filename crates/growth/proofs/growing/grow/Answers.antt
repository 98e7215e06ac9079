-- `grow` meets its contract. Assumes nothing.
use mathlib.Core.Path.{refl, sym}
use mathlib.Core.List.{[]}
use Rattle.std.proofs.Common.{rules}
use Rattle.calls.specs.Call.{grow, on}
use Rattle.calls.specs.Effect.{effect}
use Rattle.refusals.proofs.Laws.Called.{called-stopped, called-done, err-changed, err-unchanged}
use Rattle.growth.proofs.growing.grow.Goals as goal

pub returns-in_err-of_grow : goal.returns-in_err-of_grow
returns-in_err-of_grow c =
    let a = c.args in
    let x = c.from_residual.result in
    let l = c.from_residual.ensures.0 in
    rw (called-stopped (on (grow a.m) a.images.now []) a.r x l (search rules)) (record { answer = err-changed x l; state = err-unchanged a.r x l; images = refl })

pub returns : goal.returns
unfolding effect
returns c =
    let a = c.args in
    rw (called-done (on (grow a.m) a.images.now []) a.r (sym c.in_ok-of_grow.ensures.number)) (record { answer = refl; state = c.attach_disks.ensures.state; images = c.attach_disks.ensures.images })
