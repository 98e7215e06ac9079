-- `request_of` meets its contract: each way out is one case of `request_of`. Assumes nothing.
use Prim.Native.Nat.{◌≤◌}
use mathlib.Core.Path.{sym, ◌∙◌}
use native.Mathlib.Omega.{arith}
use Rattle.zone_moves.proofs.Laws.Fields.{field-ends, ends_there, old-bad, new-bad, zone-bad, zone-out, zone-asked}
use Rattle.zone_moves.proofs.parse.request_of.Goals as goal

pub returns-in_default : goal.returns-in_default
returns-in_default c = sym (old-bad _ (sym c.field_at.ensures ∙ c.in_default.is))

pub field_at-requires-2 : goal.field_at-requires-2
field_at-requires-2 c =
    let a : c.in-Number.a ≤ 3 = ends_there (field-ends _ 0 32 3 (omega arith)) (sym c.field_at.ensures ∙ c.in-Number.is) in
    omega arith

pub returns-in_default-field_at : goal.returns-in_default-field_at
returns-in_default-field_at c = sym (new-bad _ (sym c.field_at.ensures ∙ c.in-Number.is) (sym c.field_at-2.ensures ∙ c.in_default-field_at.is))

pub field_at-requires-3 : goal.field_at-requires-3
field_at-requires-3 c =
    let a : c.in-Number.a ≤ 3 = ends_there (field-ends _ 0 32 3 (omega arith)) (sym c.field_at.ensures ∙ c.in-Number.is) in
    let b : c.in-Number-field_at.b ≤ 6 =
    ends_there (field-ends _ c.in-Number.a 32 6 (omega arith)) (sym c.field_at-2.ensures ∙ c.in-Number-field_at.is) in
    omega arith

pub returns-in_default-field_at-2 : goal.returns-in_default-field_at-2
returns-in_default-field_at-2 c =
    sym
    (zone-bad _ (sym c.field_at.ensures ∙ c.in-Number.is) (sym c.field_at-2.ensures ∙ c.in-Number-field_at.is)
    (sym c.field_at-3.ensures ∙ c.in_default-field_at-2.is))

pub returns-then-in_limits : goal.returns-then-in_limits
returns-then-in_limits c =
    sym
    (zone-asked _ (sym c.field_at.ensures ∙ c.in-Number.is) (sym c.field_at-2.ensures ∙ c.in-Number-field_at.is)
    (sym c.field_at-3.ensures ∙ c.in-Number-field_at-2.is)
    (sym c.in_limits.ensures ∙ c.if-in_limits.true))

pub returns-else-in_limits : goal.returns-else-in_limits
returns-else-in_limits c =
    sym
    (zone-out _ (sym c.field_at.ensures ∙ c.in-Number.is) (sym c.field_at-2.ensures ∙ c.in-Number-field_at.is)
    (sym c.field_at-3.ensures ∙ c.in-Number-field_at-2.is)
    (sym c.in_limits.ensures ∙ c.if-in_limits.false))
