-- The bytes that a struct of bytes stands for.
use Rattle.std.specs.Prelude.{ℕ, List, ◌++◌}
use Rattle.lanes.specs.declared.types.Four.{Four}

-- of four, those of each
abbrev pub four_bytes : {T : Type 0} → (T → List ℕ) → Four T → List ℕ
four_bytes bytes x = bytes x.a ++ (bytes x.b ++ (bytes x.c ++ bytes x.d))
