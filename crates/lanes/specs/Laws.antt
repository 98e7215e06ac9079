-- Four of a width are a width: what `Wide` asks of each.
use Rattle.std.specs.Prelude.{ℕ, ◌*◌, ◌≤◌, ◌≡◌, List, length}
use Rattle.std.proofs.Common.{arith, length-append}
use Rattle.lanes.specs.declared.types.Four.{Four}
use Rattle.lanes.specs.Lanes.{four_bytes}

pub four-positive : {n : ℕ} → 1 ≤ n → 1 ≤ 4 * n
four-positive h = omega arith

pub four-long : {T : Type 0} {n : ℕ} (bytes : T → List ℕ) → ((x : T) → length (bytes x) ≡ n)
    → (x : Four T) → length (four_bytes bytes x) ≡ 4 * n
four-long bytes long x = simp length-append (omega (arith, long x.a, long x.b, long x.c, long x.d))
