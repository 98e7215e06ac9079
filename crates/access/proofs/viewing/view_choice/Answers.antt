-- `view_choice` meets its contract. Assumes nothing.
use mathlib.Core.Path.{refl, sym, ◌∙◌}
use Rattle.std.proofs.Common.{rules}
use Rattle.calls.specs.Call.{view, on}
use Rattle.calls.specs.Effect.{effect}
use Rattle.refusals.proofs.Laws.Called.{called-stopped, called-done}
use Rattle.calls.proofs.Laws.Table.{view-rows}
use Rattle.access.proofs.viewing.view_choice.Goals as goal

pub returns-in_err-a-clause-answer : goal.returns-in_err-a-clause-answer
returns-in_err-a-clause-answer c =
    let a = c.args in
    rw (called-stopped (on (view a.b) a.images.now a.scratch.now) a.r c.from_residual.result c.from_residual.ensures.0 ((search rules) ∙ sym (view-rows _ _ _ _ _))) refl

pub returns-in_err-a-clause-scratch : goal.returns-in_err-a-clause-scratch
returns-in_err-a-clause-scratch c =
    let a = c.args in
    rw (called-stopped (on (view a.b) a.images.now a.scratch.now) a.r c.from_residual.result c.from_residual.ensures.0 ((search rules) ∙ sym (view-rows _ _ _ _ _))) refl

pub choose-requires : goal.choose-requires
choose-requires c = rw c.in_ok-a.ensures.same (view-rows _ _ _ _ _ ∙ sym c.in_ok-a.ensures.number)

pub returns : goal.returns
unfolding effect
returns c =
    let a = c.args in
    let x = rw c.in_ok-a.ensures.same at c.choose.ensures in
    rw (called-done (on (view a.b) a.images.now a.scratch.now) a.r (view-rows _ _ _ _ _ ∙ sym c.in_ok-a.ensures.number)) (record { answer = refl; choice = x.choice; scratch = x.scratch })
