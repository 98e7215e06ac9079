-- What the test of a call shows, and when it comes out how. Assumes nothing.
use Prim.Native.Nat.{ℕ, ◌%◌}
use mathlib.Core.Path.{◌≡◌, refl}
use mathlib.Core.Bool.{true, false, not}
use mathlib.Core.Logic.{◌≢◌}
use mathlib.Core.List.{List}
use native.Mathlib.Omega.{arith}
use lib.Dec.{eqb}
use lib.ListN.{length}
use borrow.Author.Tests.{eq-eqb, ne_eqb}
use Rattle.std.proofs.Math.Bool.{or-true}
use Rattle.conditions.proofs.Tests.{equal, neither}
use Rattle.points.specs.Answer.{refused}
use Rattle.points.specs.Part.{EvenAndAlike}

module _ (source target : List ℕ) where
  pub accepted : refused source target ≡ false → EvenAndAlike source target
  unfolding refused
  accepted e =
      let b = neither (not (eqb (length source % 2) 0)) (not (eqb (length source) (length target))) e in
      (equal (length source % 2) 0 b.0, equal (length source) (length target) b.1)

  pub refused-odd : length source % 2 ≡ 1 → refused source target ≡ true
  unfolding refused
  refused-odd e = rw (ne_eqb (length source % 2) 0 (λ q. absurd (omega arith))) refl

  pub refused-unlike : length source ≢ length target → refused source target ≡ true
  unfolding refused
  refused-unlike ne = rw (ne_eqb (length source) (length target) ne) (or-true (not (eqb (length source % 2) 0)))

  pub not-refused : length source % 2 ≡ 0 → length source ≡ length target → refused source target ≡ false
  unfolding refused
  not-refused e q = rw (eq-eqb (length source % 2) 0 e, eq-eqb (length source) (length target) q) refl
