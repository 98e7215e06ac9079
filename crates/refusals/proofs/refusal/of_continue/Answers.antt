-- `of_continue` meets its contract. Assumes nothing.
use mathlib.Core.Path.{refl, sym, ap, ◌∙◌}
use mathlib.Core.Bool.{not}
use Rattle.std.proofs.Common.{rules}
use Rattle.conditions.proofs.Tests.{went_on, returned}
use Rattle.layout.specs.Layout.{capacity}
use Rattle.state.specs.Good.{geometry}
use Rattle.calls.specs.Health.{is_rebuilding}
use Rattle.calls.proofs.Laws.Table.{continue-rows}
use Rattle.refusals.proofs.Laws.Ready.{err-number, lent-stopped, lent-wrong, lent-right}
use Rattle.refusals.proofs.refusal.of_continue.Goals as goal

pub returns-in_err-a-clause-number : goal.returns-in_err-a-clause-number
returns-in_err-a-clause-number c =
    let a = c.args in
    lent-stopped a.r a.images (not (is_rebuilding a.r.health)) (search rules) (err-number c.from_residual.result c.from_residual.ensures.0) ∙ sym (continue-rows a.r (capacity (geometry a.r)) a.images 0 a.k)

pub returns-then-not-is_rebuilding-clause-number : goal.returns-then-not-is_rebuilding-clause-number
returns-then-not-is_rebuilding-clause-number c =
    let a = c.args in
    lent-wrong a.r a.images (not (is_rebuilding a.r.health)) c.in_ok-a.ensures.number refl (ap not (returned c.is_rebuilding.ensures.answer c.if-not-is_rebuilding.true))
    ∙ sym (continue-rows a.r (capacity (geometry a.r)) a.images 0 a.k)

pub returns-clause-number : goal.returns-clause-number
returns-clause-number c =
    let a = c.args in
    lent-right a.r a.images (not (is_rebuilding a.r.health)) c.in_ok-a.ensures.number refl (ap not (went_on c.is_rebuilding.ensures.answer c.if-not-is_rebuilding.false))
    ∙ sym (continue-rows a.r (capacity (geometry a.r)) a.images 0 a.k)
