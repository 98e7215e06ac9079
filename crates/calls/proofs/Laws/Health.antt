-- The health of an array, from the tests to the facts and back. Assumes nothing.
use Prim.Native.Nat.{ℕ, ◌≤◌, ◌<◌}
use mathlib.Core.Path.{◌≡◌, refl, sym, ap, subst, ◌∙◌}
use mathlib.Core.Bool.{Bool, true, false, ◌&&◌}
use mathlib.Core.Logic.{◌≢◌}
use native.Mathlib.Omega.{arith}
use lib.Dec.{eqb}
use borrow.Author.Tests.{le-leb, lt-leb, eqb-true, eqb-false}
use Rattle.conditions.proofs.Tests.{and_yes, and_no}
use Rattle.state.specs.declared.types.Health.TheVariants.{Whole, Out, Lost, Rebuilding}
use Rattle.state.specs.declared.types.Health.{Health}
use Rattle.calls.specs.Health.{is_lost, is_degraded, is_out, is_rebuilding, absent}

-- every disk is in
pub all_in : (h : Health) → is_degraded h ≡ false → h ≡ Whole
all_in Whole e = refl
all_in (Out d) e = let z : Out d ≡ Whole = cc in z
all_in Lost e = let z : Lost ≡ Whole = cc in z
all_in (Rebuilding d c) e = let z : Rebuilding d c ≡ Whole = cc in z

-- the disk that is out
pub which : (h : Health) (d : ℕ) → is_lost h ≡ false → is_out h d ≡ true → h ≡ Out d
which Whole d nl u = absurd (let w : ◌≡◌ {A = ℕ} 0 1 = cc in omega arith)
which (Out o) d nl u = ap Out (sym (eqb-true d o u))
which Lost d nl u = absurd (let w : ◌≡◌ {A = ℕ} 0 1 = cc in omega arith)
which (Rebuilding o c) d nl u = absurd (let w : ◌≡◌ {A = ℕ} 0 1 = cc in omega arith)

-- and one that is not
pub not-out : (h : Health) (d : ℕ) → is_out h d ≡ false → h ≢ Out d
not-out h d e q = eqb-false d d (subst (λ (x : Health). is_out x d ≡ false) q e) refl

-- a disk that is being rebuilt, and none
pub rebuilt : (h : Health) → is_rebuilding h ≡ true → (o : ℕ) × (c : ℕ) × (h ≡ Rebuilding o c)
rebuilt Whole u = absurd (let w : ◌≡◌ {A = ℕ} 0 1 = cc in omega arith)
rebuilt (Out o) u = absurd (let w : ◌≡◌ {A = ℕ} 0 1 = cc in omega arith)
rebuilt Lost u = absurd (let w : ◌≡◌ {A = ℕ} 0 1 = cc in omega arith)
rebuilt (Rebuilding o c) u = (o, c, refl)

pub not-rebuilt : (h : Health) → is_rebuilding h ≡ false → (o c : ℕ) → h ≢ Rebuilding o c
not-rebuilt h e o c q = let z : is_rebuilding (Rebuilding o c) ≡ false = subst (λ (x : Health). is_rebuilding x ≡ false) q e in let w : ◌≡◌ {A = ℕ} 0 1 = cc in omega arith

-- ---- where a disk that is being rebuilt counts as out

module _ (o c S d : ℕ) where
  pub below-count : S < c → absent (Rebuilding o c) S d ≡ false
  below-count l = ap (λ (b : Bool). eqb d o && b) (lt-leb c S l) ∙ and_no (eqb d o)

  pub from-count : c ≤ S → absent (Rebuilding o c) S d ≡ eqb d o
  from-count l = ap (λ (b : Bool). eqb d o && b) (le-leb c S l) ∙ and_yes (eqb d o)
