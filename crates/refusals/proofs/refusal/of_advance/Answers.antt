-- `of_advance` meets its contract: `past-k` is what is left of the rows after the k-th test. Assumes nothing.
use Prim.Native.Nat.{ℕ}
use mathlib.Core.Path.{◌≡◌, refl, sym, ap, ◌∙◌}
use mathlib.Core.Bool.{not}
use mathlib.Core.List.{List, [], ◌∷◌}
use Rattle.std.proofs.Common.{rules}
use Rattle.conditions.proofs.Asked.{same, other, told}
use Rattle.layout.specs.Layout.{capacity}
use Rattle.state.specs.declared.types.Record.{Record}
use Rattle.state.specs.Good.{geometry}
use Rattle.calls.specs.Call.{advance, feed}
use Rattle.calls.specs.Images.{size}
use Rattle.calls.specs.Table.{Row, idle, nothing_to_move, images, word, kept_whole, refusal_of}
use Rattle.calls.proofs.Laws.Table.{stops, given, skipped, whole-on, advance-rows}
use Rattle.refusals.proofs.Laws.Ready.{err-number}
use Rattle.refusals.proofs.refusal.of_advance.Goals as goal
use Rattle.refusals.proofs.refusal.of_advance.Goals.{Else-is_idle, In_ok-a}

-- the rows from 7 and from 5 on
abbrev from-7 : Record → ℕ → List Row
from-7 r len = images (size r) len ∷ []

abbrev from-5 : Record → ℕ → List Row
from-5 r len = nothing_to_move r ∷ from-7 r len

past-1 : (c : In_ok-a) → let a = c.args in refusal_of a.r (feed (advance a.k) a.images 0) ≡ word (from-5 a.r a.images)
past-1 c =
    let a = c.args in
    advance-rows a.r (capacity (geometry a.r)) a.images 0 a.k
    ∙ whole-on a.r (from-5 a.r a.images) c.in_ok-a.ensures.number refl

past-2 : (c : Else-is_idle) → let a = c.args in refusal_of a.r (feed (advance a.k) a.images 0) ≡ word (from-7 a.r a.images)
past-2 c =
    let a = c.args in
    past-1 c.before.before ∙ skipped 5 (from-7 a.r a.images) (told (c.is_idle.ensures.answer ∙ ap (λ x. idle (geometry x)) c.in_ok-a.ensures.same) c.if-is_idle.false)

pub returns-in_err-a-clause-number : goal.returns-in_err-a-clause-number
returns-in_err-a-clause-number c =
    let a = c.args in
    stops (kept_whole a.r) (from-5 a.r a.images) (search rules) (err-number c.from_residual.result c.from_residual.ensures.0)
    ∙ sym (advance-rows a.r (capacity (geometry a.r)) a.images 0 a.k)

pub returns-then-is_idle-clause-number : goal.returns-then-is_idle-clause-number
returns-then-is_idle-clause-number c =
    let a = c.args in
    sym (past-1 (goal.at.returns-then-is_idle-clause-number c).In_ok-a ∙ given 5 (from-7 a.r a.images) (told (c.is_idle.ensures.answer ∙ ap (λ x. idle (geometry x)) c.in_ok-a.ensures.same) c.if-is_idle.true))

pub returns-then-images-size_of-clause-number : goal.returns-then-images-size_of-clause-number
returns-then-images-size_of-clause-number c =
    sym (past-2 (goal.at.returns-then-images-size_of-clause-number c).Else-is_idle ∙ given 7 [] (ap not (other (c.size_of.ensures.length ∙ ap size c.in_ok-a.ensures.same) c.if-images-size_of.true)))

pub returns-clause-number : goal.returns-clause-number
returns-clause-number c =
    sym (past-2 (goal.at.returns-clause-number c).Else-is_idle ∙ skipped 7 [] (ap not (same (c.size_of.ensures.length ∙ ap size c.in_ok-a.ensures.same) c.if-images-size_of.false)))
