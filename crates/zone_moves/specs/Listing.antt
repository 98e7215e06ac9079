-- What is printed.
use Rattle.std.specs.Prelude.{ℕ, zero, suc, ◌+◌, ◌*◌, ◌<◌, ◌≡◌, List, [], ◌∷◌, ◌++◌, length, take, drop}
use Rattle.layout.specs.Moves.{move_zone, move_within, move_from, move_to}
use Rattle.layout.specs.Limits.{Disks}
use Rattle.zone_moves.specs.declared.parse.Request.TheVariants.{Zone, Refused}
use Rattle.zone_moves.specs.declared.parse.Request.{Request}
use Rattle.zone_moves.specs.Decimal.{decimal}
use Rattle.zone_moves.specs.Request.{request_of}

-- the number x, with the byte `stop` after it
unfoldable pub column : ℕ → ℕ → List ℕ
column x stop = decimal x ++ (stop ∷ [])

-- move k: "index, zone, stripe within the zone, old disk, new disk", with a space between them, as document 01 prints them; "each printed
-- line ends with a line feed"
unfoldable pub move_line : ℕ → ℕ → ℕ → List ℕ
move_line n m k =
    column k 32 ++ column (move_zone n m k) 32 ++ column (move_within n m k) 32 ++ column (move_from n m k) 32 ++ column (move_to n m k) 10

-- the lines of some moves, one after the other; a move is given by its index
unfoldable pub lines_of : ℕ → ℕ → List ℕ → List ℕ
lines_of n m [] = []
lines_of n m (k ∷ ks) = move_line n m k ++ lines_of n m ks

-- `count` indices from `first` on, rising
unfoldable pub indices : ℕ → ℕ → List ℕ
indices first zero = []
indices first (suc count) = indices first count ++ ((first + count) ∷ [])

-- "zone z's moves": they are the m * n from index z * m * n on (`ZoneMoves` of Exact.antt says what that has to mean)
unfoldable pub zone_moves : ℕ → ℕ → ℕ → List ℕ
zone_moves n m z = indices (z * m * n) (m * n)

-- "refused 6" and a line feed
abbrev pub refusal : List ℕ
refusal = 114 ∷ 101 ∷ 102 ∷ 117 ∷ 115 ∷ 101 ∷ 100 ∷ 32 ∷ 54 ∷ 10 ∷ []

-- the answer to a request
unfoldable pub answered : Request → List ℕ
answered Refused = refusal
answered (Zone n m z) = lines_of n m (zone_moves n m z)

-- the answer to an input
unfoldable pub answer : List ℕ → List ℕ
answer s = answered (request_of s)

-- a buffer with a text stored from position `at` on
unfoldable pub written : List ℕ → ℕ → List ℕ → List ℕ
written out at text = take at out ++ text ++ drop (at + length text) out

-- a text was stored in `out` from position `at` on, which left `after`; `next` is the position after the text
pub record Stored (out : List ℕ) (at : ℕ) (text after : List ℕ) (next : ℕ) : Type 0 where
  pub is : after ≡ written out at text
  pub place : next ≡ at + length text

-- move k of a growth from n to n + m disks is in one of its first n zones, the only ones that are asked for
pub record Listed (n m k : ℕ) : Type 0 where
  pub disks : Disks n m
  pub new : 0 < m
  pub index : k < n * m * n
