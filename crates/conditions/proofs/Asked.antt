-- What a test shows of a definition when the code has asked a function for its value. Assumes nothing.
use Prim.Native.Nat.{ℕ, ◌≤◌, ◌<◌}
use mathlib.Core.Path.{◌≡◌, sym, ◌∙◌, subst}
use mathlib.Core.Bool.{Bool, true, false}
use mathlib.Core.Logic.{◌≢◌}
use lib.Dec.{eqb, ltb}
use borrow.Author.Tests.{eq-eqb, ne_eqb, lt-ltb, le-ltb}

-- x is the answer, a the definition's value
module _ {x a : ℕ} (e : x ≡ a) where
  pub same : {y : ℕ} → y ≡ x → eqb y a ≡ true
  same h = eq-eqb _ _ (h ∙ e)

  pub other : {y : ℕ} → y ≢ x → eqb y a ≡ false
  other h = ne_eqb _ _ (λ q. h (q ∙ sym e))

  pub under : {y : ℕ} → y < x → ltb y a ≡ true
  under {y} h = lt-ltb _ _ (subst (λ (n : ℕ). y < n) e h)

  pub over : {y : ℕ} → x ≤ y → ltb y a ≡ false
  over {y} h = le-ltb _ _ (subst (λ (n : ℕ). n ≤ y) e h)

-- a test that was answered
pub told : {t a b : Bool} → t ≡ a → t ≡ b → a ≡ b
told e h = sym e ∙ h
