-- `of_begin` meets its contract. Assumes nothing.
use mathlib.Core.Path.{refl, sym, ap, ◌∙◌}
use mathlib.Core.Bool.{not}
use Rattle.std.proofs.Common.{rules}
use Rattle.conditions.proofs.Tests.{went_on, returned}
use Rattle.layout.specs.Layout.{capacity}
use Rattle.state.specs.Good.{geometry}
use Rattle.calls.specs.Health.{is_out}
use Rattle.calls.proofs.Laws.Table.{begin-rows}
use Rattle.refusals.proofs.Laws.Ready.{err-number, lent-stopped, lent-wrong, lent-right}
use Rattle.refusals.proofs.refusal.of_begin.Goals as goal

pub returns-in_err-of_lent : goal.returns-in_err-of_lent
returns-in_err-of_lent c =
    record {
      number =
          let a = c.args in
          lent-stopped a.r a.images (not (is_out a.r.health a.d)) (search rules) (err-number c.from_residual.result c.from_residual.ensures.0) ∙ sym (begin-rows a.r (capacity (geometry a.r)) a.images 0 a.d);
    }

pub returns-then-not-is_out : goal.returns-then-not-is_out
returns-then-not-is_out c =
    record {
      number =
          let a = c.args in
          lent-wrong a.r a.images (not (is_out a.r.health a.d)) c.in_ok-of_lent.ensures.number refl (ap not (returned c.is_out.ensures.answer c.if-not-is_out.true))
          ∙ sym (begin-rows a.r (capacity (geometry a.r)) a.images 0 a.d);
    }

pub returns : goal.returns
returns c =
    record {
      number =
          let a = c.args in
          lent-right a.r a.images (not (is_out a.r.health a.d)) c.in_ok-of_lent.ensures.number refl (ap not (went_on c.is_out.ensures.answer c.if-not-is_out.false))
          ∙ sym (begin-rows a.r (capacity (geometry a.r)) a.images 0 a.d);
    }
