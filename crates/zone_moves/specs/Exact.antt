-- What the program's theorem says: just the lines that are meant are answered, by the moves of the zone that they name.
use Rattle.std.specs.Prelude.{ℕ, ◌+◌, ◌-◌, ◌*◌, ◌≤◌, ◌<◌, ◌≡◌, cond, List, [], ◌∷◌, ◌++◌, ◌↔◌, ◌≢◌, ltb, length, get_or, take, drop}
use Rattle.layout.specs.Moves.{move_zone, move_within, move_from, move_to}
use Rattle.zone_moves.specs.declared.parse.Request.TheVariants.{Zone}
use Rattle.zone_moves.specs.Decimal.{decimal}
use Rattle.zone_moves.specs.Request.{Limited, request_of}
use Rattle.zone_moves.specs.Listing.{column, lines_of, zone_moves, refusal, answer, written}

-- the line "n m z": "decimal, no leading zeros, single spaces, a line feed behind"
unfoldable pub line : ℕ → ℕ → ℕ → List ℕ
line n m z = column n 32 ++ column m 32 ++ column z 10

-- ks are the indices of zone z's moves: of those moves alone, of all of them, and rising, so each once
pub record ZoneMoves (n m z : ℕ) (ks : List ℕ) : Type 0 where
  pub of_zone : (j : ℕ) → j < length ks → move_zone n m (get_or ks j 0) ≡ z
  pub all : (k : ℕ) → move_zone n m k ≡ z → (j : ℕ) × (j < length ks) × (get_or ks j 0 ≡ k)
  pub rising : (i j : ℕ) → i < j → j < length ks → get_or ks i 0 < get_or ks j 0

-- the number that digits say, after those that said x
unfoldable pub said : ℕ → List ℕ → ℕ
said x [] = x
said x (d ∷ ds) = said (10 * x + (d - 48)) ds

-- ds is x in decimal: digits that say x, at least one, and the first is `0` only if it stands alone
pub record Spelled (x : ℕ) (ds : List ℕ) : Type 0 where
  pub some : 0 < length ds
  pub bytes : (j : ℕ) → j < length ds → (48 ≤ get_or ds j 0) × (get_or ds j 0 ≤ 57)
  pub says : said 0 ds ≡ x
  pub no_zero : get_or ds 0 0 ≡ 48 → length ds ≡ 1

-- ---- the words of the examples, whose values are document 01's, or found from its rule by a program of its own

abbrev pub sp : ℕ
sp = 32

abbrev pub lf : ℕ
lf = 10

-- a number below ten stands for its digit, any other for the byte
unfoldable pub text : List ℕ → List ℕ
text [] = []
text (x ∷ xs) = cond (ltb x 10) (48 + x) x ∷ text xs

-- a line of numbers with one digit
abbrev pub digits : ℕ → ℕ → ℕ → ℕ → ℕ → List ℕ
digits a b c d e = text (a ∷ sp ∷ b ∷ sp ∷ c ∷ sp ∷ d ∷ sp ∷ e ∷ lf ∷ [])

-- the same, its first number from ten to nineteen
abbrev pub teen : ℕ → ℕ → ℕ → ℕ → ℕ → List ℕ
teen a b c d e = 49 ∷ digits a b c d e

-- the request for a zone, by numbers with one digit
abbrev pub asks : ℕ → ℕ → ℕ → List ℕ
asks n m z = text (n ∷ sp ∷ m ∷ sp ∷ z ∷ lf ∷ [])

-- `16 16 15`: the most disks, and their last zone
abbrev pub largest : List ℕ
largest = text (1 ∷ 6 ∷ sp ∷ 1 ∷ 6 ∷ sp ∷ 1 ∷ 5 ∷ lf ∷ [])

pub record Examples : Type 0 where
  -- numbers
  pub numbers :
      (decimal 0 ≡ text (0 ∷ [])) × (decimal 9 ≡ text (9 ∷ [])) × (decimal 10 ≡ text (1 ∷ 0 ∷ [])) × (decimal 99 ≡ text (9 ∷ 9 ∷ [])) ×
      (decimal 100 ≡ text (1 ∷ 0 ∷ 0 ∷ [])) × (decimal 999 ≡ text (9 ∷ 9 ∷ 9 ∷ [])) ×
      (decimal 1000 ≡ text (1 ∷ 0 ∷ 0 ∷ 0 ∷ [])) × (decimal 4095 ≡ text (4 ∷ 0 ∷ 9 ∷ 5 ∷ []))
  -- the zones of 3 + 2; document 01 prints the second
  pub example : answer (asks 3 2 1)
      ≡ digits 6 1 3 2 3 ++ digits 7 1 2 0 3 ++ digits 8 1 1 1 3 ++ digits 9 1 4 0 4 ++ teen 0 1 3 1 4 ++ teen 1 1 2 2 4
  pub first_zone : answer (asks 3 2 0)
      ≡ digits 0 0 3 0 3 ++ digits 1 0 2 1 3 ++ digits 2 0 1 2 3 ++ digits 3 0 4 1 4 ++ digits 4 0 3 2 4 ++ digits 5 0 2 0 4
  pub last_zone : answer (asks 3 2 2)
      ≡ teen 2 2 3 1 3 ++ teen 3 2 2 2 3 ++ teen 4 2 1 0 3 ++ teen 5 2 4 2 4 ++ teen 6 2 3 0 4 ++ teen 7 2 2 1 4
  -- by document 01's rule disks 1 and 3 give two blocks each
  pub example_of_four : answer (asks 4 1 1) ≡ digits 4 1 4 1 4 ++ digits 5 1 3 3 4 ++ digits 6 1 2 1 4 ++ digits 7 1 1 3 4
  pub zone_of_five : zone_moves 5 3 2 ≡ 30 ∷ 31 ∷ 32 ∷ 33 ∷ 34 ∷ 35 ∷ 36 ∷ 37 ∷ 38 ∷ 39 ∷ 40 ∷ 41 ∷ 42 ∷ 43 ∷ 44 ∷ []
  -- the longest answer: its first two lines, its last, and its length
  pub largest_first : take 33 (answer largest)
      ≡ text (3 ∷ 8 ∷ 4 ∷ 0 ∷ sp ∷ 1 ∷ 5 ∷ sp ∷ 1 ∷ 6 ∷ sp ∷ 0 ∷ sp ∷ 1 ∷ 6 ∷ lf ∷ [])
      ++ text (3 ∷ 8 ∷ 4 ∷ 1 ∷ sp ∷ 1 ∷ 5 ∷ sp ∷ 1 ∷ 5 ∷ sp ∷ 1 ∷ 4 ∷ sp ∷ 1 ∷ 6 ∷ lf ∷ [])
  pub largest_last : drop 4131 (answer largest) ≡ text (4 ∷ 0 ∷ 9 ∷ 5 ∷ sp ∷ 1 ∷ 5 ∷ sp ∷ 1 ∷ 6 ∷ sp ∷ 1 ∷ sp ∷ 3 ∷ 1 ∷ lf ∷ [])
  pub largest_length : length (answer largest) ≡ 4147
  -- "refused 6"
  pub words : refusal ≡ text (114 ∷ 101 ∷ 102 ∷ 117 ∷ 115 ∷ 101 ∷ 100 ∷ sp ∷ 6 ∷ lf ∷ [])
  -- each limit passed by one: z, n (below and above), m (below and above)
  pub past_limits :
      (answer (asks 3 2 3) ≡ refusal) × (answer (asks 2 1 0) ≡ refusal) × (answer (text (1 ∷ 7 ∷ sp ∷ 1 ∷ sp ∷ 0 ∷ lf ∷ [])) ≡ refusal) ×
      (answer (asks 3 0 0) ≡ refusal) × (answer (text (3 ∷ sp ∷ 1 ∷ 7 ∷ sp ∷ 0 ∷ lf ∷ [])) ≡ refusal)
  -- a leading zero; no line feed; two spaces; a space before it, and after it; a return before the line feed; two numbers; nothing
  pub other_lines :
      (answer (text (0 ∷ 3 ∷ sp ∷ 2 ∷ sp ∷ 1 ∷ lf ∷ [])) ≡ refusal) × (answer (text (3 ∷ sp ∷ 2 ∷ sp ∷ 1 ∷ [])) ≡ refusal) ×
      (answer (text (3 ∷ sp ∷ sp ∷ 2 ∷ sp ∷ 1 ∷ lf ∷ [])) ≡ refusal) × (answer (text (sp ∷ 3 ∷ sp ∷ 2 ∷ sp ∷ 1 ∷ lf ∷ [])) ≡ refusal) ×
      (answer (text (3 ∷ sp ∷ 2 ∷ sp ∷ 1 ∷ sp ∷ lf ∷ [])) ≡ refusal) × (answer (text (3 ∷ sp ∷ 2 ∷ sp ∷ 1 ∷ 13 ∷ lf ∷ [])) ≡ refusal) ×
      (answer (text (3 ∷ sp ∷ 2 ∷ lf ∷ [])) ≡ refusal) × (answer [] ≡ refusal)

pub record Exact : Type 0 where
  -- a line with numbers in the limits asks for their zone, whatever stands after it
  pub reads : (n m z : ℕ) (rest : List ℕ) → Limited n m z → request_of (line n m z ++ rest) ≡ Zone n m z
  -- and is answered by the lines of that zone's moves
  pub zone : (n m z : ℕ) (rest : List ℕ) → Limited n m z
      → (ks : List ℕ) × ZoneMoves n m z ks × (answer (line n m z ++ rest) ≡ lines_of n m ks)
  -- nothing else asks for a zone
  pub only : (s : List ℕ) (n m z : ℕ) → request_of s ≡ Zone n m z → Limited n m z × (s ≡ line n m z ++ drop (length (line n m z)) s)
  -- and what is no such line is refused
  pub refused : (s : List ℕ) → ((n m z : ℕ) (rest : List ℕ) → Limited n m z → s ≢ line n m z ++ rest) → answer s ≡ refusal
  -- nine bytes of the input are enough
  pub first_nine : (s : List ℕ) → answer (take 9 s) ≡ answer s
  -- what stands after a line feed does not matter
  pub first_line : (s : List ℕ) (k : ℕ) → get_or s k 0 ≡ 10 → answer (take (k + 1) s) ≡ answer s
  -- the limits: "n, the old disks, is 3 to 16; m, the new ones, 1 to 16", "z from 0 to n − 1"
  pub limits : (n m z : ℕ) → Limited n m z ↔ ((3 ≤ n) × (n ≤ 16) × (1 ≤ m) × (m ≤ 16) × (z < n))
  -- numbers are read and printed in decimal: the law holds below 10²⁰, so of every u64
  pub decimals : (x : ℕ) → x < 100000000000000000000 → Spelled x (decimal x)
  -- such a line, and what is printed of a move: "index, zone, stripe within the zone, old disk, new disk"
  pub asked : (n m z : ℕ) → line n m z ≡ decimal n ++ (sp ∷ decimal m) ++ (sp ∷ decimal z) ++ (lf ∷ [])
  pub printed : (n m k : ℕ) (ks : List ℕ) → lines_of n m (k ∷ ks)
      ≡ decimal k ++ (sp ∷ decimal (move_zone n m k)) ++ (sp ∷ decimal (move_within n m k)) ++ (sp ∷ decimal (move_from n m k))
      ++ (sp ∷ decimal (move_to n m k)) ++ (lf ∷ lines_of n m ks)
  pub no_more : (n m : ℕ) → lines_of n m [] ≡ []
  pub columns : (x stop : ℕ) → column x stop ≡ decimal x ++ (stop ∷ [])
  -- a text takes the bytes from `at` on of what the function is lent, and leaves the others
  pub stored : (out text : List ℕ) (at : ℕ) → written out at text ≡ take at out ++ text ++ drop (at + length text) out
  -- the examples, computed
  pub examples : Examples
