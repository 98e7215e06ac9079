-- `of_owner` meets its contract: `past-k` is what is left of the rows after the k-th test. Assumes nothing.
use Prim.Native.Nat.{ℕ}
use mathlib.Core.Path.{◌≡◌, refl, sym, ap, ◌∙◌}
use mathlib.Core.Bool.{not}
use mathlib.Core.List.{List, [], ◌∷◌}
use lib.Dec.{ltb}
use Rattle.conditions.proofs.Asked.{under, over}
use Rattle.layout.specs.Layout.{capacity}
use Rattle.state.specs.declared.types.Record.{Record}
use Rattle.state.specs.Good.{geometry}
use Rattle.calls.specs.Call.{owner, feed}
use Rattle.calls.specs.Images.{disks_of}
use Rattle.calls.specs.Table.{Row, past_end, disk, word, refusal_of}
use Rattle.calls.proofs.Laws.Table.{given, skipped, owner-rows}
use Rattle.refusals.proofs.refusal.of_owner.Goals as goal
use Rattle.refusals.proofs.refusal.of_owner.Goals.{In-Some, Else-r-s}

-- the rows from 10 and from 8 on
abbrev from-10 : Record → ℕ → List Row
from-10 r d = disk (not (ltb d (disks_of r))) ∷ []

abbrev from-8 : Record → ℕ → ℕ → List Row
from-8 r s d = past_end s r.stripes ∷ from-10 r d

past-1 : (c : In-Some) → let a = c.args in refusal_of a.r (feed (owner a.s a.d) 0 0) ≡ word (from-8 a.r a.s a.d)
past-1 c =
    let a = c.args in
    owner-rows a.r (capacity (geometry a.r)) 0 0 a.s a.d
    ∙ skipped 1 (from-8 a.r a.s a.d) (ap not (sym c.in-Some.ensures.answer))

past-2 : (c : Else-r-s) → let a = c.args in refusal_of a.r (feed (owner a.s a.d) 0 0) ≡ word (from-10 a.r a.d)
past-2 c = let a = c.args in past-1 c.before.before ∙ skipped 8 (from-10 a.r a.d) (ap not (under refl c.if-r-s.false))

pub returns-in_default-clause-number : goal.returns-in_default-clause-number
returns-in_default-clause-number c =
    let a = c.args in
    sym (owner-rows a.r (capacity (geometry a.r)) 0 0 a.s a.d
    ∙ given 1 (from-8 a.r a.s a.d) (ap not (sym c.in_default.ensures.answer)))

pub returns-then-r-s-clause-number : goal.returns-then-r-s-clause-number
returns-then-r-s-clause-number c =
    let a = c.args in sym (past-1 (goal.at.returns-then-r-s-clause-number c).In-Some ∙ given 8 (from-10 a.r a.d) (ap not (over refl c.if-r-s.true)))

pub returns-then-disks_of-d-clause-number : goal.returns-then-disks_of-d-clause-number
returns-then-disks_of-d-clause-number c =
    sym (past-2 (goal.at.returns-then-disks_of-d-clause-number c).Else-r-s ∙ given 10 [] (ap not (over c.disks_of.ensures.count c.if-disks_of-d.true)))

pub returns-clause-number : goal.returns-clause-number
returns-clause-number c =
    sym (past-2 (goal.at.returns-clause-number c).Else-r-s ∙ skipped 10 [] (ap not (under c.disks_of.ensures.count c.if-disks_of-d.false)))
