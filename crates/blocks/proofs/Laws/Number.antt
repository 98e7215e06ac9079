-- Numbers of more than a byte: from the number to its bytes and back, and the other way round. Assumes nothing.
use Prim.Native.Nat.{ℕ, ◌%◌, ◌/◌, ◌<◌}
use mathlib.Core.Path.{◌≡◌}
use mathlib.Core.List.{[], ◌∷◌}
use native.Mathlib.Omega.{arith}
use Rattle.blocks.specs.Number.{two, four}

pub two_back : (x : ℕ) → two (x % 256) (x / 256) ≡ x
two_back x = omega arith

pub four-back : (x : ℕ) → four (x % 256) (x / 256 % 256) (x / 65536 % 256) (x / 16777216) ≡ x
four-back x = omega arith

pub two-low : (a b : ℕ) → a < 256 → two a b % 256 ≡ a
two-low a b h = omega arith

pub two-high : (a b : ℕ) → a < 256 → two a b / 256 ≡ b
two-high a b h = omega arith

pub two_bytes : (a b : ℕ) → a < 256 → two a b % 256 ∷ two a b / 256 ∷ [] ≡ a ∷ b ∷ []
two_bytes a b h = cc (two-low a b h, two-high a b h)

pub four_bytes : (a b c d : ℕ) → a < 256 → b < 256 → c < 256
    → four a b c d % 256 ∷ four a b c d / 256 % 256 ∷ four a b c d / 65536 % 256 ∷ four a b c d / 16777216 ∷ [] ≡ a ∷ b ∷ c ∷ d ∷ []
four_bytes a b c d ha hb hc =
    let e : (four a b c d % 256 ≡ a) × (four a b c d / 256 % 256 ≡ b) × (four a b c d / 65536 % 256 ≡ c) × (four a b c d / 16777216 ≡ d) = (omega arith, omega arith, omega arith, omega arith) in
    cc (e.0, e.1, e.2, e.3)
