-- The xor of blocks, byte by byte.
use Rattle.std.specs.Prelude.{ℕ, zero, suc, List, [], ◌∷◌}
use Rattle.std.specs.Int.Bits.{bit_xor}
use Rattle.blocks.specs.Block.{zeros}

-- of two; a byte that one of them lacks counts as 0
abbrev pub xor_b : List ℕ → List ℕ → List ℕ
xor_b [] b = b
xor_b (x ∷ a) [] = x ∷ a
xor_b (x ∷ a) (y ∷ b) = bit_xor x y ∷ xor_b a b

-- of a list of blocks of len bytes; of none, it is zeroes
abbrev pub xor_all : ℕ → List (List ℕ) → List ℕ
xor_all len [] = zeros len
xor_all len (x ∷ xs) = xor_b x (xor_all len xs)

-- a list of blocks without its i-th
abbrev pub without : List (List ℕ) → ℕ → List (List ℕ)
without [] i = []
without (x ∷ xs) zero = xs
without (x ∷ xs) (suc i) = x ∷ without xs i
