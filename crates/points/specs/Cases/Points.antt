-- Points by hand, in bytes there and back. `points` of proofs/Cases/Points.antt computes that the definitions say the same.
use Rattle.std.specs.Prelude.{ℕ, ◌≡◌, List, [], ◌∷◌}
use Rattle.points.specs.Points.{packed, unpacked}
use Rattle.points.specs.Answer.{answer, filled}

-- 100, 103 and 101: differences 100, 3 and -2
abbrev pub three : List ℕ
three = 100 ∷ 0 ∷ 103 ∷ 0 ∷ 101 ∷ 0 ∷ []

abbrev pub three_packed : List ℕ
three_packed = 100 ∷ 3 ∷ 254 ∷ 0 ∷ 0 ∷ 255 ∷ []

-- 1, 65535, 32768, 32767, 0 and 1: differences 1, -2, -32767, -1, -32767 and 1; the low byte borrows, and all wraps
abbrev pub edges : List ℕ
edges = 1 ∷ 0 ∷ 255 ∷ 255 ∷ 0 ∷ 128 ∷ 255 ∷ 127 ∷ 0 ∷ 0 ∷ 1 ∷ 0 ∷ []

abbrev pub edges_packed : List ℕ
edges_packed = 1 ∷ 254 ∷ 1 ∷ 255 ∷ 1 ∷ 1 ∷ 0 ∷ 255 ∷ 128 ∷ 255 ∷ 128 ∷ 0 ∷ []

pub record Points : Type 0 where
  pub there : packed three ≡ three_packed
  pub back : unpacked three_packed ≡ three
  pub edges_there : packed edges ≡ edges_packed
  pub edges_back : unpacked edges_packed ≡ edges
  -- one point is its own difference, and none are none
  pub one : packed (255 ∷ 254 ∷ []) ≡ 255 ∷ 254 ∷ []
  pub none : packed [] ≡ []
  -- accepted, the empty one too; refused for an odd length, and for two that differ
  pub alike : answer three three_packed ≡ 0
  pub empty : answer [] [] ≡ 0
  pub odd : answer (7 ∷ []) (7 ∷ []) ≡ 11
  pub shorter : answer three (1 ∷ 2 ∷ []) ≡ 11
  pub longer : answer [] three_packed ≡ 11
  -- what is left of a target: all of it is filled, or none
  pub filled_all : filled packed three (1 ∷ 2 ∷ 3 ∷ 4 ∷ 5 ∷ 6 ∷ []) ≡ three_packed
  pub left_alone : filled packed (7 ∷ []) (9 ∷ []) ≡ 9 ∷ []
