-- `of_status` meets its contract. Assumes nothing.
use mathlib.Core.Path.{sym, ap, ◌∙◌}
use mathlib.Core.Bool.{not}
use mathlib.Core.List.{[]}
use Rattle.layout.specs.Layout.{capacity}
use Rattle.state.specs.Good.{geometry}
use Rattle.calls.proofs.Laws.Table.{given, skipped, status-rows}
use Rattle.refusals.proofs.refusal.of_status.Goals as goal

pub returns-in_default-clause-number : goal.returns-in_default-clause-number
returns-in_default-clause-number c =
    let r = c.args.r in
    sym (status-rows r (capacity (geometry r)) 0 0 ∙ given 1 [] (ap not (sym c.in_default.ensures.answer)))

pub returns-clause-number : goal.returns-clause-number
returns-clause-number c =
    let r = c.args.r in
    sym (status-rows r (capacity (geometry r)) 0 0 ∙ skipped 1 [] (ap not (sym c.in-Some.ensures.answer)))
