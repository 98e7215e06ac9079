-- The worked cases of document 01, "Drawers on the bench", as document 02 has changed them, over the definitions of the calls. `Bench` is
-- the one table of those marked (P), `Unmarked` has the others; `bench` and `unmarked` of proofs/Cases/Bench.antt compute them.
use Rattle.std.specs.Prelude.{ℕ, ◌*◌, ◌≡◌, Bool, true, false, []}
use Rattle.layout.specs.declared.Role.TheVariants.{Data, Parity}
use Rattle.layout.specs.Home.{standing_at}
use Rattle.layout.specs.Moves.{move_of, total}
use Rattle.layout.specs.Cases.Paper.{move}
use Rattle.blocks.specs.Block.{zeros}
use Rattle.state.specs.declared.types.Health.TheVariants.{Whole}
use Rattle.state.specs.declared.types.Record.{Record}
use Rattle.state.specs.Update.{formatted, grown_by, with_moves}
use Rattle.calls.specs.Call.{Call, format, grow, advance, status, locate, owner, on, feed}
use Rattle.calls.specs.Call.{Answer, refused, made, figures, placed, owned}
use Rattle.calls.specs.Images.{size}
use Rattle.calls.specs.Table.{refusal}
use Rattle.calls.specs.Effect.{standing, called}

-- "n = 3, m = 2, T = 15": before growth, and after t moves
abbrev pub small : Record
small = formatted 3 1 15

abbrev pub mill : ℕ → Record
mill t = with_moves (grown_by small 2) t

-- what a call that takes no images answers
abbrev pub asked : Call → Record → Answer
asked c r = (called (on c [] []) r).answer

abbrev pub located : ℕ → Record → Answer
located b r = asked (locate b) r

-- on disk d of stripe S, its parity on disk p of that stripe, and whether a move carried it
abbrev pub at : ℕ → ℕ → ℕ → Bool → Answer
at S d p moved = placed (standing_at S d p moved)

abbrev pub owner_at : ℕ → ℕ → Record → Answer
owner_at S d r = asked (owner S d) r

pub record Bench : Type 0 where
  -- "total 18, capacity 30, then 60"; on the way, since "After each finished zone its blanks become blocks" (document 02, (b)), 40 and 50
  pub numbers : (asked status small ≡ figures 30 0 0 Whole)
      × (asked status (mill 5) ≡ figures 30 5 18 Whole) × (asked status (mill 6) ≡ figures 40 6 18 Whole)
      × (asked status (mill 11) ≡ figures 40 11 18 Whole) × (asked status (mill 12) ≡ figures 50 12 18 Whole)
      × (asked status (mill 17) ≡ figures 50 17 18 Whole) × (asked status (mill 18) ≡ figures 60 18 18 Whole)
  -- "(P) Block 5 before growth: stripe 2, disk 0."
  pub block_5 : (located 5 small ≡ at 2 0 2 false) × (located 5 (mill 0) ≡ at 2 0 2 false)
  -- "(P) Move 0: parity of stripe 3, disk 0 to 3."
  pub move_0 : (move_of 3 2 0 ≡ move 0 3 3 0 3) × (owner_at 3 0 (mill 0) ≡ owned Parity) × (owner_at 3 3 (mill 1) ≡ owned Parity)
  -- "(P) Move 1: block 4, disk 1 to 3."
  pub move_1 : (move_of 3 2 1 ≡ move 0 2 2 1 3) × (owner_at 2 1 (mill 1) ≡ owned (Data 4)) × (owner_at 2 3 (mill 2) ≡ owned (Data 4))
  -- "(P) Move 2: block 2, stripe 1, disk 2 to 3."
  pub move_2 : (move_of 3 2 2 ≡ move 0 1 1 2 3) × (owner_at 1 2 (mill 2) ≡ owned (Data 2)) × (owner_at 1 3 (mill 3) ≡ owned (Data 2))
  -- "(P) After 2 moves block 2 is on disk 2; (P) after 3 on disk 3."
  pub block_2 : (located 2 (mill 2) ≡ at 1 2 1 false) × (located 2 (mill 3) ≡ at 1 3 1 true)
  -- "(P) Block 6 ends on disk 4."
  pub block_6 : located 6 (mill 18) ≡ at 3 4 3 true
  -- "(P) Block 0 never moves."
  pub block_0 : (t : ℕ) → standing (mill t) 0 ≡ standing_at 0 2 0 false
  -- "(P) After 17 moves block 30 is refused 8" no longer: "after 17 moves block 30 exists, as two zones are done" (document 02, (b)), and
  -- block 50, of the third, is refused; before the sixth move there is no block 30
  pub finished-zones : (located 30 (mill 5) ≡ refused 8) × (located 30 (mill 6) ≡ at 0 3 0 false) × (located 30 (mill 17) ≡ at 0 3 0 false)
      × (located 49 (mill 17) ≡ at 9 3 4 false) × (located 50 (mill 17) ≡ refused 8)
  -- "(P) after 18 it is (0, 3). (P) Block 32: (1, 2). (P) Block 59: (14, 3). Block 60: 8."
  pub new_blocks : (located 30 (mill 18) ≡ at 0 3 0 false)
      × (located 32 (mill 18) ≡ at 1 2 1 false) × (located 59 (mill 18) ≡ at 14 3 4 false) × (located 60 (mill 18) ≡ refused 8)

-- ---- cases not marked (P)

-- the number that a call is given that is lent images of length len, with an array of capacity c before it
abbrev pub numbered : Call → ℕ → Record → ℕ → ℕ
numbered c len r cap = refusal r cap (feed c len 0)

abbrev pub formats : ℕ → ℕ → ℕ → ℕ
formats n B T = numbered (format n B T) (n * (T * B)) small 30

-- what advance answers that is lent images of zeroes
abbrev pub advanced : ℕ → Record → Answer
advanced k r = (called (on (advance k) (zeros (size r)) []) r).answer

-- 4 disks of 19 stripes, grown by 1
abbrev pub odd : Record
odd = grown_by (formatted 4 1 19) 1

pub record Unmarked : Type 0 where
  -- "n = 4, m = 1, T = 20: total 16."
  pub one_group : (total 4 1 20 ≡ 16) × (numbered (grow 1) 100 (formatted 4 1 20) 60 ≡ 0)
      × (asked status (grown_by (formatted 4 1 20) 1) ≡ figures 60 0 16 Whole)
  -- "The bench case T = 19 passes now, with total 0." (document 02, (a)): grown, it has all its 76 blocks, and nothing to move
  pub no_group : (total 4 1 19 ≡ 0) × (numbered (grow 1) 95 (formatted 4 1 19) 57 ≡ 0) × (asked status odd ≡ figures 76 0 0 Whole)
      × (advanced 1 odd ≡ refused 5) × (located 56 odd ≡ at 18 0 2 false) × (located 57 odd ≡ at 0 4 0 false)
      × (located 75 odd ≡ at 18 4 2 false) × (located 76 odd ≡ refused 8)
  -- "n = 2: 6; n = 16 passes; n = 17: 6."
  pub disks : (formats 2 1 15 ≡ 6) × (formats 3 1 15 ≡ 0) × (formats 16 1 15 ≡ 0) × (formats 17 1 15 ≡ 6)
  -- "B = 4,096 passes; 4,097: 6."
  pub block : (formats 3 0 15 ≡ 6) × (formats 3 1 15 ≡ 0) × (formats 3 4096 15 ≡ 0) × (formats 3 4097 15 ≡ 6)
  -- "T, the stripes, is 1 to 1,048,576"
  pub stripes : (formats 3 1 0 ≡ 6) × (formats 3 1 1 ≡ 0) × (formats 3 1 1048576 ≡ 0) × (formats 3 1 1048577 ≡ 6)
  -- document 02, (f): move 4 carries block 6, so that it is moved from t = 5 on, and move 0 its parity, of stripe 3. No move carries
  -- block 7, which has that parity too
  pub carried : (located 6 (mill 0) ≡ at 3 2 0 false) × (located 6 (mill 1) ≡ at 3 2 3 false)
      × (located 6 (mill 4) ≡ at 3 2 3 false) × (located 6 (mill 5) ≡ at 3 4 3 true) × (located 7 (mill 18) ≡ at 3 1 3 false)
  -- "Advance 100 at t = 17 reports 1; again gives 5."
  pub finished : (advanced 100 (mill 17) ≡ made 1) × (advanced 100 (mill 18) ≡ refused 5)
