-- `of_grow` meets its contract: `past-k` is what is left of the rows after the k-th test. Assumes nothing.
use Prim.Native.Nat.{ℕ}
use mathlib.Core.Path.{◌≡◌, refl, sym, ap, ◌∙◌}
use mathlib.Core.Bool.{not}
use mathlib.Core.List.{List, [], ◌∷◌}
use Rattle.std.proofs.Common.{rules}
use Rattle.conditions.proofs.Tests.{went_on, returned}
use Rattle.conditions.proofs.Asked.{same, other}
use Rattle.layout.specs.Layout.{capacity}
use Rattle.state.specs.declared.types.Record.{Record}
use Rattle.state.specs.Good.{geometry, new_good}
use Rattle.state.proofs.Laws.Good.{within-true}
use Rattle.calls.specs.Call.{grow, feed}
use Rattle.calls.specs.Images.{size_with}
use Rattle.calls.specs.Table.{Row, grown_already, bad_geometry, images, word, kept_whole, refusal_of}
use Rattle.calls.proofs.Laws.Table.{stops, given, skipped, whole-on, grow-rows}
use Rattle.refusals.proofs.Laws.Ready.{err-number}
use Rattle.refusals.proofs.refusal.of_grow.Goals as goal
use Rattle.refusals.proofs.refusal.of_grow.Goals.{In_ok-a, Else-not-new_is_good, Else-r-ne0}

-- the rows from 7, from 6 and from 4 on
abbrev from-7 : Record → ℕ → ℕ → List Row
from-7 r m len = images (size_with r m) len ∷ []

abbrev from-6 : Record → ℕ → ℕ → List Row
from-6 r m len = bad_geometry (new_good m) ∷ from-7 r m len

abbrev from-4 : Record → ℕ → ℕ → List Row
from-4 r m len = grown_already r ∷ from-6 r m len

past-1 : (c : In_ok-a) → let a = c.args in refusal_of a.r (feed (grow a.m) a.images 0) ≡ word (from-4 a.r a.m a.images)
past-1 c =
    let a = c.args in
    grow-rows a.r (capacity (geometry a.r)) a.images 0 a.m
    ∙ whole-on a.r (from-4 a.r a.m a.images) c.in_ok-a.ensures.number refl

past-2 : (c : Else-r-ne0) →
    let a = c.args in
    refusal_of a.r (feed (grow a.m) a.images 0) ≡ word (from-6 a.r a.m a.images)
past-2 c = let a = c.args in past-1 c.before.before ∙ skipped 4 (from-6 a.r a.m a.images) (ap not (same refl c.if-r-ne0.false))

past-3 : (c : Else-not-new_is_good) →
    let a = c.args in
    refusal_of a.r (feed (grow a.m) a.images 0) ≡ word (from-7 a.r a.m a.images)
past-3 c =
    let a = c.args in
    past-2 c.before.before ∙ skipped 6 (from-7 a.r a.m a.images) (ap not (went_on c.new_is_good.ensures c.if-not-new_is_good.false))

pub returns-in_err-a-clause-number : goal.returns-in_err-a-clause-number
returns-in_err-a-clause-number c =
    let a = c.args in
    stops (kept_whole a.r) (from-4 a.r a.m a.images) (search rules) (err-number c.from_residual.result c.from_residual.ensures.0)
    ∙ sym (grow-rows a.r (capacity (geometry a.r)) a.images 0 a.m)

pub returns-then-r-ne0-clause-number : goal.returns-then-r-ne0-clause-number
returns-then-r-ne0-clause-number c =
    let a = c.args in sym (past-1 (goal.at.returns-then-r-ne0-clause-number c).In_ok-a ∙ given 4 (from-6 a.r a.m a.images) (ap not (other refl c.if-r-ne0.true)))

pub returns-then-not-new_is_good-clause-number : goal.returns-then-not-new_is_good-clause-number
returns-then-not-new_is_good-clause-number c =
    let a = c.args in
    sym (past-2 (goal.at.returns-then-not-new_is_good-clause-number c).Else-r-ne0 ∙ given 6 (from-7 a.r a.m a.images) (ap not (returned c.new_is_good.ensures c.if-not-new_is_good.true)))

pub size_with-requires : goal.size_with-requires
size_with-requires c = (within-true 1 _ 16 (went_on c.new_is_good.ensures c.if-not-new_is_good.false)).1

pub returns-then-images-size_with-clause-number : goal.returns-then-images-size_with-clause-number
returns-then-images-size_with-clause-number c =
    sym (past-3 (goal.at.returns-then-images-size_with-clause-number c).Else-not-new_is_good ∙ given 7 [] (ap not (other (c.size_with.ensures.length ∙ ap (λ x. size_with x c.args.m) c.in_ok-a.ensures.same) c.if-images-size_with.true)))

pub returns-clause-number : goal.returns-clause-number
returns-clause-number c =
    sym (past-3 (goal.at.returns-clause-number c).Else-not-new_is_good ∙ skipped 7 [] (ap not (same (c.size_with.ensures.length ∙ ap (λ x. size_with x c.args.m) c.in_ok-a.ensures.same) c.if-images-size_with.false)))
