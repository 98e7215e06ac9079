-- What tests show, alone and one after the other. Assumes nothing.
use Prim.Native.Nat.{ℕ, ◌<◌}
use mathlib.Core.Path.{◌≡◌, refl, sym, ◌∙◌}
use mathlib.Core.Bool.{Bool, true, false, not, ◌&&◌, ◌||◌}
use native.Mathlib.Omega.{arith}
use lib.Dec.{eqb, ltb}
use borrow.Author.Tests.{eqb-true, ltb-true, not-false}

pub equal : (a b : ℕ) → not (eqb a b) ≡ false → a ≡ b
equal a b e = eqb-true a b (not-false _ e)

pub below : (a b : ℕ) → not (ltb a b) ≡ false → a < b
below a b e = ltb-true a b (not-false _ e)

pub both : (a b : Bool) → (a && b) ≡ true → (a ≡ true) × (b ≡ true)
both true b e = (refl, e)
both false b e = let z : ◌≡◌ {A = ℕ} 0 1 = cc in absurd (omega arith)

pub and-true : (a b : Bool) → a ≡ true → (a && b) ≡ b
and-true a b e = simp e

pub and-false : (a b : Bool) → a ≡ false → (a && b) ≡ false
and-false a b e = simp e

pub and_yes : (a : Bool) → (a && true) ≡ a
and_yes true = refl
and_yes false = refl

pub and_no : (a : Bool) → (a && false) ≡ false
and_no true = refl
and_no false = refl

pub neither : (a b : Bool) → (a || b) ≡ false → (a ≡ false) × (b ≡ false)
neither true b e = (e, let z : b ≡ false = cc in z)
neither false b e = (refl, e)

-- where the first of two does not hold the second does
pub second : (a b : Bool) → (a || b) ≡ true → a ≡ false → b ≡ true
second true b q u = absurd (let w : ◌≡◌ {A = ℕ} 0 1 = cc in omega arith)
second false b q u = q

-- the code asked for t, which is the test a, and went on or returned by `if !t`
pub went_on : {t a : Bool} → t ≡ a → t ≡ true → a ≡ true
went_on e h = sym e ∙ h

pub returned : {t a : Bool} → t ≡ a → t ≡ false → a ≡ false
returned e h = sym e ∙ h
