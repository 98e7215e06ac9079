-- `of_reach` meets its contract: `past-k` is what is left of the rows after the k-th test. Assumes nothing.
use Prim.Native.Nat.{ℕ}
use mathlib.Core.Path.{◌≡◌, refl, sym, ap, ◌∙◌}
use mathlib.Core.Bool.{not}
use mathlib.Core.List.{List, [], ◌∷◌}
use Rattle.std.proofs.Common.{rules}
use Rattle.conditions.proofs.Asked.{same, other}
use Rattle.conditions.proofs.Tests.{went_on, returned}
use Rattle.layout.specs.Layout.{capacity}
use Rattle.state.specs.declared.types.Record.{Record}
use Rattle.state.specs.Good.{geometry}
use Rattle.calls.specs.Call.{read, feed}
use Rattle.calls.specs.Table.{Row, past_end, block_length, word, kept_lent, refusal_of}
use Rattle.calls.proofs.Laws.Table.{stops, given, skipped, lent-on, read-rows}
use Rattle.refusals.proofs.Laws.Ready.{ok-number, err-number, ready-lent}
use Rattle.refusals.proofs.refusal.of_reach.Goals as goal
use Rattle.refusals.proofs.refusal.of_reach.Goals.{In_ok-begun, Else-not-is_block}

-- the rows from 9 and from 8 on
abbrev from-9 : Record → ℕ → List Row
from-9 r room = block_length r room ∷ []

abbrev from-8 : Record → ℕ → ℕ → List Row
from-8 r b room = past_end b (capacity (geometry r)) ∷ from-9 r room

past-1 : (c : In_ok-begun) → let a = c.args in refusal_of a.r (feed (read a.b) a.images a.room) ≡ word (from-8 a.r a.b a.room)
past-1 c =
    let a = c.args in
    read-rows a.r (capacity (geometry a.r)) a.images a.room a.b
    ∙ lent-on a.r (from-8 a.r a.b a.room) a.images c.requires (ok-number c.in_ok-begun.was)

past-2 : (c : Else-not-is_block) → let a = c.args in refusal_of a.r (feed (read a.b) a.images a.room) ≡ word (from-9 a.r a.room)
past-2 c =
    let a = c.args in
    past-1 c.before.before.before ∙ skipped 8 (from-9 a.r a.room) (ap not (went_on c.is_block.ensures.answer c.if-not-is_block.false))

pub invariant_of-a : goal.invariant_of-a
invariant_of-a c = let a = c.args in record { good = ready-lent a.r a.images c.requires (ok-number c.in_ok-begun.was) }

pub returns-in_err-begun-clause-number : goal.returns-in_err-begun-clause-number
returns-in_err-begun-clause-number c =
    let a = c.args in
    stops (kept_lent a.r a.images) (from-8 a.r a.b a.room) (search rules) (err-number c.from_residual.result c.from_residual.ensures.0)
    ∙ sym (read-rows a.r (capacity (geometry a.r)) a.images a.room a.b)

pub returns-then-not-is_block-clause-number : goal.returns-then-not-is_block-clause-number
returns-then-not-is_block-clause-number c =
    let a = c.args in
    sym (past-1 (goal.at.returns-then-not-is_block-clause-number c).In_ok-begun ∙ given 8 (from-9 a.r a.room) (ap not (returned c.is_block.ensures.answer c.if-not-is_block.true)))

pub returns-then-room-r-clause-number : goal.returns-then-room-r-clause-number
returns-then-room-r-clause-number c =
    sym (past-2 (goal.at.returns-then-room-r-clause-number c).Else-not-is_block ∙ given 9 [] (ap not (other refl c.if-room-r.true)))

pub returns-clause-number : goal.returns-clause-number
returns-clause-number c =
    sym (past-2 (goal.at.returns-clause-number c).Else-not-is_block ∙ skipped 9 [] (ap not (same refl c.if-room-r.false)))
