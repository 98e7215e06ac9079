-- `field_of` meets its contract: each way out is one case of `field_of`. Assumes nothing.
use Prim.Native.Nat.{ℕ, ◌+◌, ◌*◌}
use mathlib.Core.Path.{◌≡◌, sym, ap, ap₂, ◌∙◌}
use mathlib.Core.Bool.{true}
use Rattle.zone_moves.specs.declared.parse.Field.TheVariants.{Number}
use Rattle.zone_moves.specs.Request.{is_digit}
use Rattle.zone_moves.proofs.Laws.Fields.{is-a-digit, field-one, field-two, field-none, field-zero, field-mixed, field-long}
use Rattle.zone_moves.proofs.parse.field_of.Goals as goal
use Rattle.zone_moves.proofs.parse.field_of.Goals.{Else-not-is_digit, Else-not-is_digit-2}

-- the first byte, and the second, are digits
first : (c : Else-not-is_digit) → is_digit c.args.a ≡ true
first c = sym c.is_digit.ensures ∙ c.if-not-is_digit.false

second : (c : Else-not-is_digit-2) → is_digit c.args.b ≡ true
second c = sym c.is_digit-2.ensures ∙ c.if-not-is_digit-2.false

pub returns-then-not-is_digit : goal.returns-then-not-is_digit
returns-then-not-is_digit c = sym (field-none _ _ _ _ _ (sym c.is_digit.ensures ∙ c.if-not-is_digit.true))

pub value_of-requires : goal.value_of-requires
value_of-requires c = (is-a-digit (first (goal.at.value_of-requires c).Else-not-is_digit)).low

pub returns-then-b-stop : goal.returns-then-b-stop
returns-then-b-stop c = ap (λ (v : ℕ). Number v (c.args.at + 2)) c.value_of.ensures ∙ sym (field-one _ _ _ _ _ (first (goal.at.returns-then-b-stop c).Else-not-is_digit) c.if-b-stop.true)

pub returns-then-a-eq48 : goal.returns-then-a-eq48
returns-then-a-eq48 c = sym (field-zero _ _ _ _ _ (first (goal.at.returns-then-a-eq48 c).Else-not-is_digit) c.if-b-stop.false c.if-a-eq48.true)

pub returns-then-not-is_digit-2 : goal.returns-then-not-is_digit-2
returns-then-not-is_digit-2 c = sym (field-mixed _ _ _ _ _ (first (goal.at.returns-then-not-is_digit-2 c).Else-not-is_digit) c.if-b-stop.false c.if-a-eq48.false (sym c.is_digit-2.ensures ∙ c.if-not-is_digit-2.true))

pub returns-then-c-stop : goal.returns-then-c-stop
returns-then-c-stop c = sym (field-long _ _ _ _ _ (first (goal.at.returns-then-c-stop c).Else-not-is_digit) c.if-b-stop.false c.if-a-eq48.false (second (goal.at.returns-then-c-stop c).Else-not-is_digit-2) c.if-c-stop.true)

pub value_of-requires-2 : goal.value_of-requires-2
value_of-requires-2 c = (is-a-digit (first (goal.at.value_of-requires-2 c).Else-not-is_digit)).low

pub value_of-requires-3 : goal.value_of-requires-3
value_of-requires-3 c = (is-a-digit (second (goal.at.value_of-requires-3 c).Else-not-is_digit-2)).low

pub returns : goal.returns
returns c =
    ap₂ (λ (u v : ℕ). Number (10 * u + v) (c.args.at + 3)) c.value_of-2.ensures c.value_of-3.ensures
    ∙ sym (field-two _ _ _ _ _ (first (goal.at.returns c).Else-not-is_digit) c.if-b-stop.false c.if-a-eq48.false (second (goal.at.returns c).Else-not-is_digit-2) c.if-c-stop.false)
