-- Numbers of more than a byte, "least byte first": a record's, and scan points.
use Rattle.std.specs.Prelude.{ℕ, ◌+◌, ◌*◌}

abbrev pub two : ℕ → ℕ → ℕ
two a b = a + 256 * b

abbrev pub four : ℕ → ℕ → ℕ → ℕ → ℕ
four a b c d = a + 256 * b + 65536 * c + 16777216 * d
