-- What is proved of the two ways: they undo each other, in either order; in bare numbers, what packed bytes are; and when a call is
-- refused. `both_ways`, `differences-are` and `fills` of proofs/Theorem.antt show it.
use Rattle.std.specs.Prelude.{ℕ, suc, ◌+◌, ◌*◌, ◌%◌, ◌<◌, ◌≡◌, ◌≢◌, List, length, get_or}
use Rattle.blocks.specs.Block.{AreBytes}
use Rattle.points.specs.Points.{packed, unpacked}
use Rattle.points.specs.Answer.{answer, filled}

pub record BothWays : Type 0 where
  -- "The way back restores every slice of even length, the empty one too, and both orders of the two give the original."
  pub back : (l : List ℕ) → AreBytes l → length l % 2 ≡ 0 → unpacked (packed l) ≡ l
  pub there : (l : List ℕ) → AreBytes l → length l % 2 ≡ 0 → packed (unpacked l) ≡ l
  -- as many bytes, each way
  pub packed_length : (l : List ℕ) → length l % 2 ≡ 0 → length (packed l) ≡ length l
  pub unpacked_length : (l : List ℕ) → length l % 2 ≡ 0 → length (unpacked l) ≡ length l
  pub packed_bytes : (l : List ℕ) → AreBytes (packed l)
  pub unpacked_bytes : (l : List ℕ) → AreBytes (unpacked l)

-- point i of n, and what stands for it in the packed bytes: a byte of the first half, and its fellow of the second
abbrev pub point_at : List ℕ → ℕ → ℕ
point_at l i = get_or l (2 * i) 0 + 256 * get_or l (2 * i + 1) 0

abbrev pub difference_at : List ℕ → ℕ → ℕ → ℕ
difference_at l n i = get_or (packed l) i 0 + 256 * get_or (packed l) (n + i) 0

-- what the packed bytes are: as these are bytes, and as many as before, nothing else has the two
pub record Differences : Type 0 where
  -- the first from 0
  pub first : (l : List ℕ) (n : ℕ) → AreBytes l → length l ≡ n + n → 0 < n → difference_at l n 0 ≡ point_at l 0
  -- each other from the one before: together with it, modulo 65,536, it is the point
  pub next : (l : List ℕ) (n i : ℕ) → AreBytes l → length l ≡ n + n → suc i < n
      → (point_at l i + difference_at l n (suc i)) % 65536 ≡ point_at l (suc i)

-- a call of either way is refused for "an odd length, or two lengths that differ", and leaves the target alone; else it fills it
pub record Fills : Type 0 where
  pub odd : (way : List ℕ → List ℕ) (source target : List ℕ) → length source % 2 ≡ 1
      → (answer source target ≡ 11) × (filled way source target ≡ target)
  pub unlike : (way : List ℕ → List ℕ) (source target : List ℕ) → length source ≢ length target
      → (answer source target ≡ 11) × (filled way source target ≡ target)
  pub done : (way : List ℕ → List ℕ) (source target : List ℕ) → length source % 2 ≡ 0 → length source ≡ length target
      → (answer source target ≡ 0) × (filled way source target ≡ way source)
