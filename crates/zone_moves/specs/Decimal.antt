-- Numbers as decimal text, in ASCII.
use Rattle.std.specs.Prelude.{ℕ, zero, suc, ◌+◌, ◌/◌, ◌%◌, cond, List, [], ◌∷◌, ◌++◌, ltb}

-- the digit d, from `0` on
abbrev pub digit : ℕ → ℕ
digit d = 48 + d

-- x with no leading zeros, in at most w digits
unfoldable pub spell : ℕ → ℕ → List ℕ
spell zero x = []
spell (suc w) x = cond (ltb x 10) (digit x ∷ []) (spell w (x / 10) ++ (digit (x % 10) ∷ []))

-- x with no leading zeros: twenty digits hold every u64
unfoldable pub decimal : ℕ → List ℕ
decimal x = spell 20 x
