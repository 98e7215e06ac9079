-- `put_small` meets its contract: one digit, or two one after the other. Assumes nothing.
use Prim.Native.Nat.{ℕ}
use mathlib.Core.Path.{◌≡◌, sym, ap, ap₂, ◌∙◌}
use mathlib.Core.List.{[], ◌∷◌}
use native.Mathlib.Omega.{arith}
use lib.ListN.{length}
use Rattle.zone_moves.specs.Decimal.{decimal}
use Rattle.zone_moves.proofs.Laws.Storing.{stored-as, stored-append}
use Rattle.zone_moves.proofs.Laws.Digits.{decimal-one, decimal-two, length-one, length_two}
use Rattle.zone_moves.proofs.print.put_small.Goals as goal
use Rattle.zone_moves.proofs.print.put_small.Goals.{Else-x-lt10}

two : (c : Else-x-lt10) → length (decimal c.args.x) ≡ 2
two c = length_two _ c.if-x-lt10.false c.requires.0

pub put_byte-requires : goal.put_byte-requires
put_byte-requires c = omega (arith, length-one c.args.x c.if-x-lt10.true)

pub returns-then-x-lt10 : goal.returns-then-x-lt10
returns-then-x-lt10 c = stored-as (ap (λ (d : ℕ). d ∷ []) c.digit_of.ensures ∙ sym (decimal-one _ c.if-x-lt10.true)) c.put_byte.ensures

pub put_byte-next-requires : goal.put_byte-next-requires
put_byte-next-requires c = omega (arith, two (goal.at.put_byte-next-requires c).Else-x-lt10)

pub put_byte-requires-2 : goal.put_byte-requires-2
put_byte-requires-2 c = omega (arith, two (goal.at.put_byte-requires-2 c).Else-x-lt10)

pub returns : goal.returns
returns c =
    stored-as (ap₂ (λ (d e : ℕ). d ∷ e ∷ []) c.digit_of-2.ensures c.digit_of-3.ensures ∙ sym (decimal-two _ c.if-x-lt10.false c.requires.0))
    (stored-append (omega (arith, two (goal.at.returns c).Else-x-lt10)) c.put_byte-next.ensures c.put_byte-2.ensures)
