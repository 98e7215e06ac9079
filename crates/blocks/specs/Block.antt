-- A block is a run of bytes. `store` keeps the length of what it stores into, whatever it is handed.
use Rattle.std.specs.Prelude.{ℕ, zero, suc, ◌+◌, ◌≤◌, ◌<◌, Bool, true, false, ◌&&◌, ◌⊎◌, List, [], ◌∷◌, eqb, get_or, take, drop, replicate}

-- each number of l is a byte. (A definition takes any numbers: where it matters this is a premise, which the code's types give.)
abbrev pub AreBytes : List ℕ → Type 0
AreBytes l = (i : ℕ) → get_or l i 0 < 256

-- the len bytes of l from offset at on
abbrev pub block_at : List ℕ → ℕ → ℕ → List ℕ
block_at l at len = take len (drop at l)

-- l with the bytes of b from offset at on
abbrev pub store : List ℕ → ℕ → List ℕ → List ℕ
store [] at b = []
store (x ∷ l) (suc at) b = x ∷ store l at b
store (x ∷ l) zero [] = x ∷ l
store (x ∷ l) zero (y ∷ b) = y ∷ store l zero b

-- l with the len bytes of m from offset `from` on copied to offset `to`
abbrev pub copied_to : List ℕ → ℕ → List ℕ → ℕ → ℕ → List ℕ
copied_to l to m from len = store l to (block_at m from len)

-- a block of zeroes
abbrev pub zeros : ℕ → List ℕ
zeros len = replicate len 0

-- is a block one of len zeroes? One that ends too early is not.
abbrev pub is_zeros : ℕ → List ℕ → Bool
is_zeros zero [] = true
is_zeros zero (x ∷ b) = false
is_zeros (suc len) [] = false
is_zeros (suc len) (x ∷ b) = eqb x 0 && is_zeros len b

-- len bytes from at on and len' bytes from at' on have none in common
abbrev pub Disjoint : ℕ → ℕ → ℕ → ℕ → Type 0
Disjoint at len at' len' = (at + len ≤ at') ⊎ (at' + len' ≤ at)
