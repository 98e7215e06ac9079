-- `of_locate` meets its contract. Assumes nothing.
use mathlib.Core.Path.{◌≡◌, sym, ap, ◌∙◌}
use mathlib.Core.Bool.{true, not}
use mathlib.Core.List.{[], ◌∷◌}
use lib.Dec.{ltb}
use Rattle.layout.specs.Layout.{capacity}
use Rattle.state.specs.Good.{geometry, good}
use Rattle.conditions.proofs.Tests.{went_on, returned}
use Rattle.calls.specs.Table.{past_end}
use Rattle.calls.proofs.Laws.Table.{given, skipped, locate-rows}
use Rattle.refusals.proofs.refusal.of_locate.Goals as goal
use Rattle.refusals.proofs.refusal.of_locate.Goals.{In-Some}

-- what the first test has shown
was-good : (c : In-Some) → good c.args.r ≡ true
was-good c = sym c.in-Some.ensures.answer

pub returns-in_default-clause-number : goal.returns-in_default-clause-number
returns-in_default-clause-number c =
    let a = c.args in
    let cap = capacity (geometry a.r) in
    sym (locate-rows a.r cap 0 0 a.b ∙ given 1 (past_end a.b cap ∷ []) (ap not (sym c.in_default.ensures.answer)))

pub returns-then-not-is_block-clause-number : goal.returns-then-not-is_block-clause-number
returns-then-not-is_block-clause-number c =
    let a = c.args in
    let cap = capacity (geometry a.r) in
    sym (locate-rows a.r cap 0 0 a.b ∙ skipped 1 (past_end a.b cap ∷ []) (ap not (was-good (goal.at.returns-then-not-is_block-clause-number c).In-Some))
    ∙ given 8 [] (ap not (returned (c.is_block.ensures.answer ∙ ap (λ x. ltb c.args.b (capacity (geometry x))) c.in-Some.ensures.same) c.if-not-is_block.true)))

pub returns-clause-number : goal.returns-clause-number
returns-clause-number c =
    let a = c.args in
    let cap = capacity (geometry a.r) in
    sym (locate-rows a.r cap 0 0 a.b ∙ skipped 1 (past_end a.b cap ∷ []) (ap not (was-good (goal.at.returns-clause-number c).In-Some))
    ∙ skipped 8 [] (ap not (went_on (c.is_block.ensures.answer ∙ ap (λ x. ltb c.args.b (capacity (geometry x))) c.in-Some.ensures.same) c.if-not-is_block.false)))
