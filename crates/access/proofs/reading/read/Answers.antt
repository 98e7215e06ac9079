-- `read` meets its contract. Assumes nothing.
use mathlib.Core.Path.{refl, sym}
use Rattle.std.proofs.Common.{rules}
use Rattle.calls.specs.Call.{read, on}
use Rattle.calls.specs.Effect.{effect}
use Rattle.refusals.proofs.Laws.Called.{called-stopped, called-done}
use Rattle.access.proofs.reading.read.Goals as goal

pub returns-in_err-a : goal.returns-in_err-a
returns-in_err-a c =
    let a = c.args in
    let x = c.from_residual.result in
    let l = c.from_residual.ensures.0 in
    rw (called-stopped (on (read a.b) a.images.now a.block.now) a.r x l (search rules)) (record { answer = refl; block = refl })

pub returns : goal.returns
unfolding effect
returns c =
    let a = c.args in
    rw (called-done (on (read a.b) a.images.now a.block.now) a.r (sym c.in_ok-a.ensures.number)) (record { answer = refl; block = rw c.in_ok-a.ensures.same at c.fill.ensures.block })
