-- Sweeps of small cabinets, by a program that was written from documents 01 and 02 and replays the moves; `flipped` of
-- proofs/Cases/Sweeps.antt computes that the definitions say the same. 3 disks growing by 1, blocks of one byte, block b holds b + 1, new
-- blocks nothing yet; in every place in turn a bit is set, or in two places of a stripe the same one, which cancels in the xor.
use Rattle.std.specs.Prelude.{ℕ, zero, suc, ◌+◌, ◌*◌, ◌≡◌, List, [], ◌∷◌, ◌++◌, get_or, set, replicate}
use Rattle.state.specs.declared.types.Health.TheVariants.{Whole, Out}
use Rattle.state.specs.declared.types.Record.{Record}
use Rattle.state.specs.Update.{formatted, grown_by, with_moves}
use Rattle.calls.specs.Call.{sweep, on, Answer, all_sound, unsound_at, beside}
use Rattle.calls.specs.Effect.{called}
use Rattle.calls.specs.Cases.Drawers.{fresh, cabinet, standing}

-- ---- the cabinets: 12 stripes, which are one group, before the growth, after 4 moves (`standing` of Drawers) and after all 9

abbrev pub home : List ℕ
home =
    3 ∷ 4 ∷ 6 ∷ 15 ∷ 10 ∷ 12 ∷ 3 ∷ 16 ∷ 18 ∷ 7 ∷ 22 ∷ 24
    ∷ 2 ∷ 7 ∷ 5 ∷ 8 ∷ 3 ∷ 11 ∷ 14 ∷ 31 ∷ 17 ∷ 20 ∷ 3 ∷ 23
    ∷ 1 ∷ 3 ∷ 3 ∷ 7 ∷ 9 ∷ 7 ∷ 13 ∷ 15 ∷ 3 ∷ 19 ∷ 21 ∷ 15 ∷ []

abbrev pub moved : List ℕ
moved =
    3 ∷ 4 ∷ 6 ∷ 0 ∷ 10 ∷ 0 ∷ 3 ∷ 16 ∷ 18 ∷ 7 ∷ 0 ∷ 24
    ∷ 2 ∷ 7 ∷ 0 ∷ 8 ∷ 3 ∷ 11 ∷ 14 ∷ 0 ∷ 17 ∷ 0 ∷ 3 ∷ 23
    ∷ 1 ∷ 0 ∷ 3 ∷ 7 ∷ 9 ∷ 7 ∷ 0 ∷ 15 ∷ 3 ∷ 19 ∷ 21 ∷ 0
    ∷ 0 ∷ 3 ∷ 5 ∷ 15 ∷ 0 ∷ 12 ∷ 13 ∷ 31 ∷ 0 ∷ 20 ∷ 22 ∷ 15 ∷ []

-- one stripe more, which is a tail, after 8 moves and after all 9
abbrev pub tailed : ℕ → Record
tailed t = with_moves (grown_by (formatted 3 1 13) 1) t

abbrev pub nearly : List ℕ
nearly =
    3 ∷ 4 ∷ 6 ∷ 0 ∷ 10 ∷ 0 ∷ 3 ∷ 16 ∷ 18 ∷ 7 ∷ 0 ∷ 24 ∷ 3
    ∷ 2 ∷ 7 ∷ 0 ∷ 8 ∷ 3 ∷ 11 ∷ 14 ∷ 0 ∷ 17 ∷ 20 ∷ 3 ∷ 23 ∷ 26
    ∷ 1 ∷ 0 ∷ 3 ∷ 7 ∷ 9 ∷ 7 ∷ 0 ∷ 15 ∷ 3 ∷ 19 ∷ 21 ∷ 0 ∷ 25
    ∷ 0 ∷ 3 ∷ 5 ∷ 15 ∷ 0 ∷ 12 ∷ 13 ∷ 31 ∷ 0 ∷ 0 ∷ 22 ∷ 15 ∷ 0 ∷ []

abbrev pub entirely : List ℕ
entirely =
    3 ∷ 4 ∷ 6 ∷ 0 ∷ 10 ∷ 0 ∷ 3 ∷ 16 ∷ 18 ∷ 7 ∷ 0 ∷ 24 ∷ 3
    ∷ 2 ∷ 7 ∷ 0 ∷ 8 ∷ 3 ∷ 11 ∷ 14 ∷ 0 ∷ 17 ∷ 0 ∷ 3 ∷ 23 ∷ 26
    ∷ 1 ∷ 0 ∷ 3 ∷ 7 ∷ 9 ∷ 7 ∷ 0 ∷ 15 ∷ 3 ∷ 19 ∷ 21 ∷ 0 ∷ 25
    ∷ 0 ∷ 3 ∷ 5 ∷ 15 ∷ 0 ∷ 12 ∷ 13 ∷ 31 ∷ 0 ∷ 20 ∷ 22 ∷ 15 ∷ 0 ∷ []

-- ---- what a sweep answers

abbrev pub swept : Record → List ℕ → Answer
swept r img = (called (on sweep img []) r).answer

-- no byte of these cabinets has the bit of 64: it is set in byte i
abbrev pub spoilt : ℕ → List ℕ → List ℕ
spoilt i img = set img i (get_or img i 0 + 64)

-- in one of the first k bytes after the other
abbrev pub everywhere : Record → List ℕ → ℕ → List Answer
everywhere r img zero = []
everywhere r img (suc k) = everywhere r img k ++ (swept r (spoilt k img) ∷ [])

-- in two places of one of the first k of T stripes after the other, on disks d and e
abbrev pub twice : ℕ → ℕ → ℕ → Record → List ℕ → ℕ → List Answer
twice T d e r img zero = []
twice T d e r img (suc S) = twice T d e r img S ++ (swept r (spoilt (d * T + S) (spoilt (e * T + S) img)) ∷ [])

abbrev pub first12 : List Answer
first12 =
    unsound_at 0 1 ∷ unsound_at 1 2 ∷ unsound_at 2 3 ∷ unsound_at 3 4 ∷ unsound_at 4 5 ∷ unsound_at 5 6
    ∷ unsound_at 6 7 ∷ unsound_at 7 8 ∷ unsound_at 8 9 ∷ unsound_at 9 10 ∷ unsound_at 10 11 ∷ unsound_at 11 12 ∷ []

abbrev pub first13 : List Answer
first13 = first12 ++ (unsound_at 12 13 ∷ [])

-- nothing found
abbrev pub all : Answer
all = all_sound 12

abbrev pub all13 : Answer
all13 = all_sound 13

pub record Flipped : Type 0 where
  pub nothing : swept fresh home ∷ swept (cabinet Whole 4) standing ∷ swept (cabinet Whole 9) moved ∷ [] ≡ all ∷ all ∷ all ∷ []
  pub nothing_tailed : swept (tailed 8) nearly ∷ swept (tailed 9) entirely ∷ [] ≡ all13 ∷ all13 ∷ []
  -- any one place, blank or not
  pub one : everywhere fresh home 36 ≡ first12 ++ first12 ++ first12
  pub one_growing : everywhere (cabinet Whole 4) standing 48 ≡ first12 ++ first12 ++ first12 ++ first12
  pub one_grown : everywhere (cabinet Whole 9) moved 48 ≡ first12 ++ first12 ++ first12 ++ first12
  pub one_tailed : everywhere (tailed 8) nearly 52 ≡ first13 ++ first13 ++ first13 ++ first13
  -- two bad stripes, in either order; the last one of a disk
  pub lower : swept fresh (spoilt 9 (spoilt 16 home)) ∷ swept fresh (spoilt 4 (spoilt 21 home)) ∷ swept fresh (spoilt 35 home) ∷ []
      ≡ unsound_at 4 5 ∷ unsound_at 4 5 ∷ unsound_at 11 12 ∷ []
  -- what cancels is found where one of the two places is blank. After 4 moves none is in zone 0, stripes 0 to 3, which is finished; in
  -- zones 1 and 2 the place on disk 3 is, but of stripe 7, whose parity the one move of zone 1 took there, that on disk 1
  pub cancels : twice 12 0 1 (cabinet Whole 4) standing 12 ≡ replicate 7 all ++ (unsound_at 7 8 ∷ replicate 4 all)
  pub cancels_new : twice 12 0 3 (cabinet Whole 4) standing 12
      ≡ replicate 4 all
      ++ (unsound_at 4 5 ∷ unsound_at 5 6 ∷ unsound_at 6 7 ∷ all ∷ unsound_at 8 9 ∷ unsound_at 9 10 ∷ unsound_at 10 11 ∷
      unsound_at 11 12 ∷ [])
  -- with no blank it is not, before the growth and after it
  pub cancels_home : twice 12 0 1 fresh home 12 ≡ replicate 12 all
  pub cancels_grown : twice 12 0 3 (cabinet Whole 9) moved 12 ≡ replicate 12 all
  -- the tail's new disk is blank up to the last move
  pub cancels_tailed : twice 13 0 3 (tailed 8) nearly 13
      ≡ replicate 8 all13 ++ (unsound_at 8 9 ∷ unsound_at 9 10 ∷ unsound_at 10 11 ∷ all13 ∷ unsound_at 12 13 ∷ [])
  -- and stripes 10 and 11 have given theirs away, on disks 0 and 2
  pub cancels_old : twice 13 0 2 (tailed 8) nearly 13
      ≡ replicate 10 all13 ++ (unsound_at 10 11 ∷ unsound_at 11 12 ∷ all13 ∷ [])
  pub cancels_behind : twice 13 0 3 (tailed 9) entirely 13 ≡ replicate 13 all13
  -- a record of another count of moves than the images have: the last move, of stripe 9, is made and should not be, which its blank shows;
  -- or it is not and should be, which no blank shows
  pub other_moves : swept (cabinet Whole 8) moved ∷ swept (tailed 8) entirely ∷ swept (tailed 9) nearly ∷ []
      ≡ unsound_at 9 10 ∷ unsound_at 9 10 ∷ all13 ∷ []
  -- in C's numbers: none found; stripe 4, with 5 read; refused, since a disk is out
  pub numbers : beside 3 (swept fresh home) ++ beside 3 (swept fresh (spoilt 16 home)) ++ beside 3 (swept (cabinet (Out 1) 4) standing)
      ≡ 0 ∷ 0 ∷ 12 ∷ 1 ∷ 4 ∷ 5 ∷ 0 ∷ 0 ∷ 0 ∷ []
