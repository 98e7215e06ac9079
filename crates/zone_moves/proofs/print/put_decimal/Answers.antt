-- `put_decimal` meets its contract: three texts one after the other. Assumes nothing.
use Prim.Native.Nat.{ℕ, ◌+◌, ◌/◌}
use mathlib.Core.Path.{◌≡◌, sym, ap₂, ◌∙◌}
use mathlib.Core.List.{[], ◌∷◌, ◌++◌}
use native.Mathlib.Omega.{arith}
use lib.ListN.{length, length-append}
use Rattle.zone_moves.specs.Decimal.{decimal}
use Rattle.zone_moves.proofs.Laws.Storing.{stored-as, stored-append}
use Rattle.zone_moves.proofs.Laws.Digits.{decimal-four, length-four}
use Rattle.zone_moves.proofs.print.put_decimal.Goals as goal
use Rattle.zone_moves.proofs.print.put_decimal.Goals.{Else-x-lt100}

four : (c : Else-x-lt100) → length (decimal c.args.x) ≡ length (decimal (c.args.x / 100)) + 2
four c = length-four _ c.if-x-lt100.false c.requires.0

pub put_small-next-requires : goal.put_small-next-requires
put_small-next-requires c = omega (arith, four (goal.at.put_small-next-requires c).Else-x-lt100)

pub put_byte-last-requires : goal.put_byte-last-requires
put_byte-last-requires c = omega (arith, four (goal.at.put_byte-last-requires c).Else-x-lt100)

pub put_byte-requires : goal.put_byte-requires
put_byte-requires c = omega (arith, four (goal.at.put_byte-requires c).Else-x-lt100)

pub returns : goal.returns
returns c =
    let l = four (goal.at.returns c).Else-x-lt100 in
    stored-as
    (ap₂ (λ (d e : ℕ). decimal (c.args.x / 100) ++ (d ∷ []) ++ (e ∷ [])) c.digit_of.ensures c.digit_of-2.ensures
    ∙ sym (decimal-four _ c.if-x-lt100.false c.requires.0))
    (stored-append (simp length-append (omega arith)) (stored-append (omega arith) c.put_small-next.ensures c.put_byte-last.ensures) c.put_byte.ensures)
