-- `of_sweep` meets its contract: `past-1` is what is left of the rows after the first test. Assumes nothing.
use Prim.Native.Nat.{ℕ}
use mathlib.Core.Path.{◌≡◌, refl, sym, ap, ◌∙◌}
use mathlib.Core.Bool.{not}
use mathlib.Core.List.{List, [], ◌∷◌}
use Rattle.std.proofs.Common.{rules}
use Rattle.conditions.proofs.Asked.{same, other}
use Rattle.layout.specs.Layout.{capacity}
use Rattle.state.specs.declared.types.Record.{Record}
use Rattle.state.specs.Good.{geometry}
use Rattle.calls.specs.Call.{sweep, feed}
use Rattle.calls.specs.Images.{size}
use Rattle.calls.specs.Table.{Row, images, word, kept_whole, refusal_of}
use Rattle.calls.proofs.Laws.Table.{stops, given, skipped, whole-on, sweep-rows}
use Rattle.refusals.proofs.Laws.Ready.{err-number}
use Rattle.refusals.proofs.refusal.of_sweep.Goals as goal
use Rattle.refusals.proofs.refusal.of_sweep.Goals.{In_ok-a}

-- the rows from 7 on
abbrev from-7 : Record → ℕ → List Row
from-7 r len = images (size r) len ∷ []

past-1 : (c : In_ok-a) → let a = c.args in refusal_of a.r (feed sweep a.images 0) ≡ word (from-7 a.r a.images)
past-1 c =
    let a = c.args in
    sweep-rows a.r (capacity (geometry a.r)) a.images 0
    ∙ whole-on a.r (from-7 a.r a.images) c.in_ok-a.ensures.number refl

pub returns-in_err-a-clause-number : goal.returns-in_err-a-clause-number
returns-in_err-a-clause-number c =
    let a = c.args in
    stops (kept_whole a.r) (from-7 a.r a.images) (search rules) (err-number c.from_residual.result c.from_residual.ensures.0)
    ∙ sym (sweep-rows a.r (capacity (geometry a.r)) a.images 0)

pub returns-then-images-size_of-clause-number : goal.returns-then-images-size_of-clause-number
returns-then-images-size_of-clause-number c =
    sym (past-1 (goal.at.returns-then-images-size_of-clause-number c).In_ok-a ∙ given 7 [] (ap not (other (c.size_of.ensures.length ∙ ap size c.in_ok-a.ensures.same) c.if-images-size_of.true)))

pub returns-clause-number : goal.returns-clause-number
returns-clause-number c =
    sym (past-1 (goal.at.returns-clause-number c).In_ok-a ∙ skipped 7 [] (ap not (same (c.size_of.ensures.length ∙ ap size c.in_ok-a.ensures.same) c.if-images-size_of.false)))
