-- One cabinet, byte by byte: 3 disks growing by 1, 12 stripes, blocks of one byte, 4 of 9 moves made; block b holds b + 1. Zone 0, 4
-- stripes, is finished, so that blocks 24 to 27 are there, still zero. What some calls leave of it, by a program that was written from
-- documents 01 and 02 and replays the moves; `drawers` of proofs/Cases/Drawers.antt computes that the definitions say the same. Then the
-- same cabinet with blocks of two bytes, `wide`.
use Rattle.std.specs.Prelude.{ℕ, ◌≡◌, List, [], ◌∷◌, ◌++◌}
use Rattle.blocks.specs.Block.{zeros}
use Rattle.state.specs.declared.types.Health.TheVariants.{Whole, Out, Lost, Rebuilding}
use Rattle.state.specs.declared.types.Health.{Health}
use Rattle.state.specs.declared.types.Record.{Record}
use Rattle.state.specs.Update.{formatted, grown_by, with_moves, with_health}
use Rattle.calls.specs.Call.{Call, format, read, view, write, grow, advance, out, begin, continue}
use Rattle.calls.specs.Call.{on, Answer, refused, bytes, made, done}
use Rattle.calls.specs.Images.{block, header}
use Rattle.calls.specs.Effect.{write_stores, move_stores, continue_stores, stores, effect, Left, called}

-- before growth, and with this health after t moves
abbrev pub fresh : Record
fresh = formatted 3 1 12

abbrev pub cabinet : Health → ℕ → Record
cabinet h t = with_health (with_moves (grown_by fresh 1) t) h

-- a disk a line, stripe 0 first; the parity of stripes 3 and 7 stands on disk 3 already, and so do blocks 2 and 4
abbrev pub disk0 : List ℕ
disk0 = 3 ∷ 4 ∷ 6 ∷ 0 ∷ 10 ∷ 12 ∷ 3 ∷ 16 ∷ 18 ∷ 7 ∷ 22 ∷ 24 ∷ []

abbrev pub disk1 : List ℕ
disk1 = 2 ∷ 7 ∷ 0 ∷ 8 ∷ 3 ∷ 11 ∷ 14 ∷ 0 ∷ 17 ∷ 20 ∷ 3 ∷ 23 ∷ []

abbrev pub disk2 : List ℕ
disk2 = 1 ∷ 0 ∷ 3 ∷ 7 ∷ 9 ∷ 7 ∷ 13 ∷ 15 ∷ 3 ∷ 19 ∷ 21 ∷ 15 ∷ []

abbrev pub disk3 : List ℕ
disk3 = 0 ∷ 3 ∷ 5 ∷ 15 ∷ 0 ∷ 0 ∷ 0 ∷ 31 ∷ 0 ∷ 0 ∷ 0 ∷ 0 ∷ []

-- what a disk holds while it is out
abbrev pub garbage : List ℕ
garbage = 77 ∷ 77 ∷ 77 ∷ 77 ∷ 77 ∷ 77 ∷ 77 ∷ 77 ∷ 77 ∷ 77 ∷ 77 ∷ 77 ∷ []

abbrev pub standing : List ℕ
standing = disk0 ++ disk1 ++ disk2 ++ disk3

abbrev pub degraded : List ℕ
degraded = disk0 ++ disk1 ++ garbage ++ disk3

-- disk 2 with its first 5 stripes rebuilt; and with something else in stripe 3, and in stripe 2
abbrev pub halfway : List ℕ
halfway = disk0 ++ disk1 ++ (1 ∷ 0 ∷ 3 ∷ 7 ∷ 9 ∷ 77 ∷ 77 ∷ 77 ∷ 77 ∷ 77 ∷ 77 ∷ 77 ∷ []) ++ disk3

abbrev pub third : List ℕ
third = disk0 ++ disk1 ++ (1 ∷ 0 ∷ 3 ∷ 99 ∷ 9 ∷ 77 ∷ 77 ∷ 77 ∷ 77 ∷ 77 ∷ 77 ∷ 77 ∷ []) ++ disk3

abbrev pub second : List ℕ
second = disk0 ++ disk1 ++ (1 ∷ 0 ∷ 99 ∷ 7 ∷ 9 ∷ 77 ∷ 77 ∷ 77 ∷ 77 ∷ 77 ∷ 77 ∷ 77 ∷ []) ++ disk3

-- disk 3 too, so that its blank places are not zero
abbrev pub spoilt : List ℕ
spoilt = disk0 ++ disk1 ++ garbage ++ garbage

-- with block 26 written: disks 1 and 2; and the same with disk 1 out
abbrev pub disk1_written : List ℕ
disk1_written = 2 ∷ 7 ∷ 200 ∷ 8 ∷ 3 ∷ 11 ∷ 14 ∷ 0 ∷ 17 ∷ 20 ∷ 3 ∷ 23 ∷ []

abbrev pub disk2_written : List ℕ
disk2_written = 1 ∷ 0 ∷ 203 ∷ 7 ∷ 9 ∷ 7 ∷ 13 ∷ 15 ∷ 3 ∷ 19 ∷ 21 ∷ 15 ∷ []

abbrev pub with_new : List ℕ
with_new = disk0 ++ disk1_written ++ disk2_written ++ disk3

abbrev pub new_degraded : List ℕ
new_degraded = disk0 ++ garbage ++ disk2_written ++ disk3

-- a call on these images, with a block or scratch of one byte, 9
abbrev pub run : List ℕ → Record → Call → Left Record
run img r c = called (on c img (9 ∷ [])) r

abbrev pub left : Record → List ℕ → List ℕ → Answer → Left Record
left r img room a = record { answer = a; state = r; images = img; room = room }

-- the cabinet with blocks of two bytes: block b holds b + 1 and 63 - 2 × b; a disk a line again, two bytes a stripe
abbrev pub fresh_wide : Record
fresh_wide = formatted 3 2 12

abbrev pub wide : Health → ℕ → Record
wide h t = with_health (with_moves (grown_by fresh_wide 1) t) h

abbrev pub wide0 : List ℕ
wide0 =
    3 ∷ 2 ∷ 4 ∷ 57 ∷ 6 ∷ 53 ∷ 0 ∷ 0 ∷ 10 ∷ 45 ∷ 12 ∷ 41 ∷ 3 ∷ 2 ∷ 16 ∷ 33 ∷ 18 ∷ 29 ∷ 7 ∷ 2 ∷ 22 ∷ 21 ∷ 24 ∷ 17 ∷ []

abbrev pub wide1 : List ℕ
wide1 =
    2 ∷ 61 ∷ 7 ∷ 2 ∷ 0 ∷ 0 ∷ 8 ∷ 49 ∷ 3 ∷ 2 ∷ 11 ∷ 43 ∷ 14 ∷ 37 ∷ 0 ∷ 0 ∷ 17 ∷ 31 ∷ 20 ∷ 25 ∷ 3 ∷ 2 ∷ 23 ∷ 19 ∷ []

abbrev pub wide2 : List ℕ
wide2 =
    1 ∷ 63 ∷ 0 ∷ 0 ∷ 3 ∷ 2 ∷ 7 ∷ 51 ∷ 9 ∷ 47 ∷ 7 ∷ 2 ∷ 13 ∷ 39 ∷ 15 ∷ 35 ∷ 3 ∷ 2 ∷ 19 ∷ 27 ∷ 21 ∷ 23 ∷ 15 ∷ 2 ∷ []

abbrev pub wide3 : List ℕ
wide3 =
    0 ∷ 0 ∷ 3 ∷ 59 ∷ 5 ∷ 55 ∷ 15 ∷ 2 ∷ 0 ∷ 0 ∷ 0 ∷ 0 ∷ 0 ∷ 0 ∷ 31 ∷ 2 ∷ 0 ∷ 0 ∷ 0 ∷ 0 ∷ 0 ∷ 0 ∷ 0 ∷ 0 ∷ []

-- what disk 2 holds while it is out
abbrev pub noise : List ℕ
noise =
    24 ∷ 25 ∷ 26 ∷ 27 ∷ 28 ∷ 29 ∷ 30 ∷ 31 ∷ 32 ∷ 33 ∷ 34 ∷ 35 ∷ 36 ∷ 37 ∷ 38 ∷ 39 ∷ 40 ∷ 41 ∷ 42 ∷ 43 ∷ 44 ∷ 45 ∷ 46 ∷ 47 ∷ []

abbrev pub wide_standing : List ℕ
wide_standing = wide0 ++ wide1 ++ wide2 ++ wide3

abbrev pub wide_degraded : List ℕ
wide_degraded = wide0 ++ wide1 ++ noise ++ wide3

-- a call on these, with a block or scratch of two bytes, 9 and 9
abbrev pub run_wide : List ℕ → Record → Call → Left Record
run_wide img r c = called (on c img (9 ∷ 9 ∷ [])) r

abbrev pub left_wide : Record → List ℕ → Answer → Left Record
left_wide r img a = left r img (9 ∷ 9 ∷ []) a

pub record Drawers : Type 0 where
  -- move 4: block 12, stripe 6, disk 2 to 3; the place left is zeroed
  pub move : run standing (cabinet Whole 4) (advance 1)
      ≡ left (cabinet Whole 5)
      (disk0 ++ disk1 ++ (1 ∷ 0 ∷ 3 ∷ 7 ∷ 9 ∷ 7 ∷ 0 ∷ 15 ∷ 3 ∷ 19 ∷ 21 ∷ 15 ∷ [])
      ++ (0 ∷ 3 ∷ 5 ∷ 15 ∷ 0 ∷ 0 ∷ 13 ∷ 31 ∷ 0 ∷ 0 ∷ 0 ∷ 0 ∷ []))
      (9 ∷ []) (made 1)
  -- "k = 0 makes none."
  pub no_move : run standing (cabinet Whole 4) (advance 0) ≡ left (cabinet Whole 4) standing (9 ∷ []) (made 0)
  -- it copies what is there, sound or not
  pub move_unsound : run degraded (cabinet Whole 4) (advance 1)
      ≡ left (cabinet Whole 5)
      (disk0 ++ disk1 ++ (77 ∷ 77 ∷ 77 ∷ 77 ∷ 77 ∷ 77 ∷ 0 ∷ 77 ∷ 77 ∷ 77 ∷ 77 ∷ 77 ∷ [])
      ++ (0 ∷ 3 ∷ 5 ∷ 15 ∷ 0 ∷ 0 ∷ 77 ∷ 31 ∷ 0 ∷ 0 ∷ 0 ∷ 0 ∷ []))
      (9 ∷ []) (made 1)
  -- block 6 is on disk 2 of stripe 3, its parity has moved to disk 3: 15 xor 7 xor 200 is 192
  pub written : run standing (cabinet Whole 4) (write 6 (200 ∷ []))
      ≡ left (cabinet Whole 4)
      (disk0 ++ disk1 ++ (1 ∷ 0 ∷ 3 ∷ 200 ∷ 9 ∷ 7 ∷ 13 ∷ 15 ∷ 3 ∷ 19 ∷ 21 ∷ 15 ∷ [])
      ++ (0 ∷ 3 ∷ 5 ∷ 192 ∷ 0 ∷ 0 ∷ 0 ∷ 31 ∷ 0 ∷ 0 ∷ 0 ∷ 0 ∷ []))
      (9 ∷ []) done
  -- with disk 2 out: the parity alone
  pub written_degraded : run degraded (cabinet (Out 2) 4) (write 6 (200 ∷ []))
      ≡ left (cabinet (Out 2) 4) (disk0 ++ disk1 ++ garbage ++ (0 ∷ 3 ∷ 5 ∷ 192 ∷ 0 ∷ 0 ∷ 0 ∷ 31 ∷ 0 ∷ 0 ∷ 0 ∷ 0 ∷ [])) (9 ∷ []) done
  -- with disk 3, the parity's, out: the data alone
  pub written_no_parity : run standing (cabinet (Out 3) 4) (write 6 (200 ∷ []))
      ≡ left (cabinet (Out 3) 4) (disk0 ++ disk1 ++ (1 ∷ 0 ∷ 3 ∷ 200 ∷ 9 ∷ 7 ∷ 13 ∷ 15 ∷ 3 ∷ 19 ∷ 21 ∷ 15 ∷ []) ++ disk3) (9 ∷ []) done
  pub read_degraded : run degraded (cabinet (Out 2) 4) (read 6) ≡ left (cabinet (Out 2) 4) degraded (7 ∷ []) (bytes (7 ∷ []))
  -- the scratch is filled only if the block's disk is out
  pub viewed : run standing (cabinet Whole 4) (view 6) ≡ left (cabinet Whole 4) standing (9 ∷ []) (bytes (7 ∷ []))
  pub viewed_degraded : run degraded (cabinet (Out 2) 4) (view 6) ≡ left (cabinet (Out 2) 4) degraded (7 ∷ []) (bytes (7 ∷ []))
  pub begun : run degraded (cabinet (Out 2) 4) (begin 2) ≡ left (cabinet (Rebuilding 2 0) 4) degraded (9 ∷ []) done
  pub rebuilt : run degraded (cabinet (Rebuilding 2 0) 4) (continue 12) ≡ left (cabinet Whole 4) standing (9 ∷ []) (made 12)
  -- in steps: 5 stripes, none, 3 more, and the rest
  pub rebuilt_some : run degraded (cabinet (Rebuilding 2 0) 4) (continue 5) ≡ left (cabinet (Rebuilding 2 5) 4) halfway (9 ∷ []) (made 5)
  pub rebuilt_none : run halfway (cabinet (Rebuilding 2 5) 4) (continue 0) ≡ left (cabinet (Rebuilding 2 5) 4) halfway (9 ∷ []) (made 0)
  pub rebuilt_more : run halfway (cabinet (Rebuilding 2 5) 4) (continue 3)
      ≡ left (cabinet (Rebuilding 2 8) 4)
      (disk0 ++ disk1 ++ (1 ∷ 0 ∷ 3 ∷ 7 ∷ 9 ∷ 7 ∷ 13 ∷ 15 ∷ 77 ∷ 77 ∷ 77 ∷ 77 ∷ []) ++ disk3)
      (9 ∷ []) (made 3)
  pub rebuilt_but_one : run halfway (cabinet (Rebuilding 2 5) 4) (continue 6)
      ≡ left (cabinet (Rebuilding 2 11) 4)
      (disk0 ++ disk1 ++ (1 ∷ 0 ∷ 3 ∷ 7 ∷ 9 ∷ 7 ∷ 13 ∷ 15 ∷ 3 ∷ 19 ∷ 21 ∷ 77 ∷ []) ++ disk3)
      (9 ∷ []) (made 6)
  pub rebuilt_rest : run halfway (cabinet (Rebuilding 2 5) 4) (continue 8) ≡ left (cabinet Whole 4) standing (9 ∷ []) (made 7)
  -- block 6, stripe 3, disk 2: with 4 stripes done the disk is in service there, with 3 it counts as out
  pub read_done : run third (cabinet (Rebuilding 2 4) 4) (read 6) ≡ left (cabinet (Rebuilding 2 4) 4) third (99 ∷ []) (bytes (99 ∷ []))
  pub read_not_done : run third (cabinet (Rebuilding 2 3) 4) (read 6) ≡ left (cabinet (Rebuilding 2 3) 4) third (7 ∷ []) (bytes (7 ∷ []))
  pub viewed_done : run third (cabinet (Rebuilding 2 4) 4) (view 6) ≡ left (cabinet (Rebuilding 2 4) 4) third (9 ∷ []) (bytes (99 ∷ []))
  pub viewed_not_done : run third (cabinet (Rebuilding 2 3) 4) (view 6) ≡ left (cabinet (Rebuilding 2 3) 4) third (7 ∷ []) (bytes (7 ∷ []))
  pub written_done : run halfway (cabinet (Rebuilding 2 4) 4) (write 6 (200 ∷ []))
      ≡ left (cabinet (Rebuilding 2 4) 4)
      (disk0 ++ disk1 ++ (1 ∷ 0 ∷ 3 ∷ 200 ∷ 9 ∷ 77 ∷ 77 ∷ 77 ∷ 77 ∷ 77 ∷ 77 ∷ 77 ∷ [])
      ++ (0 ∷ 3 ∷ 5 ∷ 192 ∷ 0 ∷ 0 ∷ 0 ∷ 31 ∷ 0 ∷ 0 ∷ 0 ∷ 0 ∷ []))
      (9 ∷ []) done
  pub written_not_done : run third (cabinet (Rebuilding 2 3) 4) (write 6 (200 ∷ []))
      ≡ left (cabinet (Rebuilding 2 3) 4)
      (disk0 ++ disk1 ++ (1 ∷ 0 ∷ 3 ∷ 99 ∷ 9 ∷ 77 ∷ 77 ∷ 77 ∷ 77 ∷ 77 ∷ 77 ∷ 77 ∷ [])
      ++ (0 ∷ 3 ∷ 5 ∷ 192 ∷ 0 ∷ 0 ∷ 0 ∷ 31 ∷ 0 ∷ 0 ∷ 0 ∷ 0 ∷ []))
      (9 ∷ []) done
  -- block 5, stripe 2, disk 0, its parity on disk 2: 3 xor 6 xor 200 is 205
  pub parity_done : run halfway (cabinet (Rebuilding 2 3) 4) (write 5 (200 ∷ []))
      ≡ left (cabinet (Rebuilding 2 3) 4)
      ((3 ∷ 4 ∷ 200 ∷ 0 ∷ 10 ∷ 12 ∷ 3 ∷ 16 ∷ 18 ∷ 7 ∷ 22 ∷ 24 ∷ []) ++ disk1
      ++ (1 ∷ 0 ∷ 205 ∷ 7 ∷ 9 ∷ 77 ∷ 77 ∷ 77 ∷ 77 ∷ 77 ∷ 77 ∷ 77 ∷ []) ++ disk3)
      (9 ∷ []) done
  pub parity_not_done : run second (cabinet (Rebuilding 2 2) 4) (write 5 (200 ∷ []))
      ≡ left (cabinet (Rebuilding 2 2) 4)
      ((3 ∷ 4 ∷ 200 ∷ 0 ∷ 10 ∷ 12 ∷ 3 ∷ 16 ∷ 18 ∷ 7 ∷ 22 ∷ 24 ∷ []) ++ disk1
      ++ (1 ∷ 0 ∷ 99 ∷ 7 ∷ 9 ∷ 77 ∷ 77 ∷ 77 ∷ 77 ∷ 77 ∷ 77 ∷ 77 ∷ []) ++ disk3)
      (9 ∷ []) done
  -- the same disk out, and another; and the growth waits
  pub out_again : run halfway (cabinet (Rebuilding 2 5) 4) (out 2) ≡ left (cabinet (Out 2) 4) halfway (9 ∷ []) done
  pub out_other : run halfway (cabinet (Rebuilding 2 5) 4) (out 0) ≡ left (cabinet Lost 4) halfway (9 ∷ []) done
  pub no_advance : run halfway (cabinet (Rebuilding 2 5) 4) (advance 1) ≡ left (cabinet (Rebuilding 2 5) 4) halfway (9 ∷ []) (refused 3)
  pub first_out : run standing (cabinet Whole 4) (out 2) ≡ left (cabinet (Out 2) 4) standing (9 ∷ []) done
  pub second_out : run degraded (cabinet (Out 2) 4) (out 0) ≡ left (cabinet Lost 4) degraded (9 ∷ []) done
  -- a new disk of garbage, zeroed; and a lost cabinet formatted anew
  pub grown : run (disk0 ++ disk1 ++ disk2 ++ garbage) fresh (grow 1)
      ≡ left (cabinet Whole 0) (disk0 ++ disk1 ++ disk2 ++ zeros 12) (9 ∷ []) done
  pub formats : run (garbage ++ garbage ++ garbage) (cabinet Lost 4) (format 3 1 12) ≡ left fresh (zeros 36) (9 ∷ []) done
  -- ---- a new block in mid-growth: block 26 is on disk 1 of stripe 2, which block 4 left; the parity is on disk 2, 3 xor 0 xor 200 is 203
  pub written_new : run standing (cabinet Whole 4) (write 26 (200 ∷ [])) ≡ left (cabinet Whole 4) with_new (9 ∷ []) done
  -- a later move, block 12 again, leaves it
  pub new_left : run with_new (cabinet Whole 4) (advance 1)
      ≡ left (cabinet Whole 5)
      (disk0 ++ disk1_written ++ (1 ∷ 0 ∷ 203 ∷ 7 ∷ 9 ∷ 7 ∷ 0 ∷ 15 ∷ 3 ∷ 19 ∷ 21 ∷ 15 ∷ [])
      ++ (0 ∷ 3 ∷ 5 ∷ 15 ∷ 0 ∷ 0 ∷ 13 ∷ 31 ∷ 0 ∷ 0 ∷ 0 ∷ 0 ∷ []))
      (9 ∷ []) (made 1)
  -- with disk 1 out it is written to the parity alone, read by the others, and rebuilt
  pub written_new_degraded : run (disk0 ++ garbage ++ disk2 ++ disk3) (cabinet (Out 1) 4) (write 26 (200 ∷ []))
      ≡ left (cabinet (Out 1) 4) new_degraded (9 ∷ []) done
  pub read_new_degraded : run new_degraded (cabinet (Out 1) 4) (read 26)
      ≡ left (cabinet (Out 1) 4) new_degraded (200 ∷ []) (bytes (200 ∷ []))
  pub rebuilt_new : run new_degraded (cabinet (Rebuilding 1 0) 4) (continue 12) ≡ left (cabinet Whole 4) with_new (9 ∷ []) (made 12)
  -- zone 1 is not finished: there is no block 28
  pub no_block : run standing (cabinet Whole 4) (read 28) ≡ left (cabinet Whole 4) standing (9 ∷ []) (refused 8)
  -- in order: the copy, the zeroes, the record; the parity, the data; the stripes, the record
  pub move-stores : move_stores (cabinet Whole 4) standing ≡ block 6 3 (13 ∷ []) ∷ block 6 2 (0 ∷ []) ∷ header (cabinet Whole 5) ∷ []
  pub write-stores : write_stores (cabinet Whole 4) standing 6 (200 ∷ []) ≡ block 3 3 (192 ∷ []) ∷ block 3 2 (200 ∷ []) ∷ []
  pub continue-stores : continue_stores 2 (cabinet (Rebuilding 2 5) 4) halfway
      ≡ block 5 2 (7 ∷ []) ∷ block 6 2 (13 ∷ []) ∷ header (cabinet (Rebuilding 2 7) 4) ∷ []
  pub last_stores : continue_stores 2 (cabinet (Rebuilding 2 10) 4) standing
      ≡ block 10 2 (21 ∷ []) ∷ block 11 2 (15 ∷ []) ∷ header (cabinet Whole 4) ∷ []
  -- of 2 stripes and 3 disks: the zeroes, disk by disk, then the record; of a growth by 2 those of the new disks
  pub format_stores : effect (format 3 1 2) fresh (on (format 3 1 2) [] [])
      ≡ stores done (formatted 3 1 2)
      (block 0 0 (0 ∷ []) ∷ block 1 0 (0 ∷ []) ∷ block 0 1 (0 ∷ []) ∷ block 1 1 (0 ∷ []) ∷ block 0 2 (0 ∷ []) ∷ block 1 2 (0 ∷ [])
      ∷ header (formatted 3 1 2) ∷ [])
  pub grow_stores : effect (grow 2) (formatted 3 1 2) (on (grow 2) [] [])
      ≡ stores done (formatted 3 1 2)
      (block 0 3 (0 ∷ []) ∷ block 1 3 (0 ∷ []) ∷ block 0 4 (0 ∷ []) ∷ block 1 4 (0 ∷ []) ∷ header (grown_by (formatted 3 1 2) 2) ∷ [])
  -- what the images hold is no matter for a refusal: 3 disks of one byte, the first of them 255
  pub any_first_byte : run (255 ∷ 7 ∷ 248 ∷ []) (formatted 3 1 1) (read 0)
      ≡ left (formatted 3 1 1) (255 ∷ 7 ∷ 248 ∷ []) (248 ∷ []) (bytes (248 ∷ []))
  -- ---- on stripes that are not sound
  -- a write goes by the old values: on disk 2 of stripe 3 stands 77, on disk 3 the parity 15, and 15 xor 77 xor 200 is 138 (the
  -- other places of the stripe, 0 and 8, would make 192) ..
  pub written_unsound : run degraded (cabinet Whole 4) (write 6 (200 ∷ []))
      ≡ left (cabinet Whole 4)
      (disk0 ++ disk1 ++ (77 ∷ 77 ∷ 77 ∷ 200 ∷ 77 ∷ 77 ∷ 77 ∷ 77 ∷ 77 ∷ 77 ∷ 77 ∷ 77 ∷ [])
      ++ (0 ∷ 3 ∷ 5 ∷ 138 ∷ 0 ∷ 0 ∷ 0 ∷ 31 ∷ 0 ∷ 0 ∷ 0 ∷ 0 ∷ []))
      (9 ∷ []) done
  -- .. block 7 is on disk 1: 15 xor 8 xor 200 is 207 (0 and 77 would make 133) ..
  pub written_beside_unsound : run degraded (cabinet Whole 4) (write 7 (200 ∷ []))
      ≡ left (cabinet Whole 4)
      (disk0 ++ (2 ∷ 7 ∷ 0 ∷ 200 ∷ 3 ∷ 11 ∷ 14 ∷ 0 ∷ 17 ∷ 20 ∷ 3 ∷ 23 ∷ []) ++ garbage
      ++ (0 ∷ 3 ∷ 5 ∷ 207 ∷ 0 ∷ 0 ∷ 0 ∷ 31 ∷ 0 ∷ 0 ∷ 0 ∷ 0 ∷ []))
      (9 ∷ []) done
  -- .. with disk 2 out, block 12 of stripe 6 counts as 3 xor 14 xor 77, its blank place too: 3 xor 64 xor 200 is 139
  pub written_degraded_unsound : run spoilt (cabinet (Out 2) 4) (write 12 (200 ∷ []))
      ≡ left (cabinet (Out 2) 4)
      ((3 ∷ 4 ∷ 6 ∷ 0 ∷ 10 ∷ 12 ∷ 139 ∷ 16 ∷ 18 ∷ 7 ∷ 22 ∷ 24 ∷ []) ++ disk1 ++ garbage ++ garbage)
      (9 ∷ []) done
  pub read_unsound : run degraded (cabinet Whole 4) (read 6) ≡ left (cabinet Whole 4) degraded (77 ∷ []) (bytes (77 ∷ []))
  pub read_degraded_unsound : run spoilt (cabinet (Out 2) 4) (read 12) ≡ left (cabinet (Out 2) 4) spoilt (64 ∷ []) (bytes (64 ∷ []))
  pub viewed_degraded_unsound : run spoilt (cabinet (Out 2) 4) (view 12) ≡ left (cabinet (Out 2) 4) spoilt (64 ∷ []) (bytes (64 ∷ []))
  -- "the xor of the others", blank or not
  pub rebuilt_unsound : run spoilt (cabinet (Rebuilding 2 0) 4) (continue 12)
      ≡ left (cabinet Whole 4)
      (disk0 ++ disk1 ++ (76 ∷ 78 ∷ 75 ∷ 69 ∷ 68 ∷ 74 ∷ 64 ∷ 93 ∷ 78 ∷ 94 ∷ 88 ∷ 66 ∷ []) ++ garbage)
      (9 ∷ []) (made 12)
  -- .. of the disk itself too: disk 3 is blank in its last four stripes, and disk 2 has 77 there
  pub blank_unsound : continue_stores 4 (cabinet (Rebuilding 3 8) 4) degraded
      ≡ block 8 3 (78 ∷ []) ∷ block 9 3 (94 ∷ []) ∷ block 10 3 (88 ∷ []) ∷ block 11 3 (66 ∷ []) ∷ header (cabinet Whole 4) ∷ []
  -- ---- blocks of two bytes: place (S, d) begins at byte (d × 12 + S) × 2
  -- moves 4 and 5: block 12, stripe 6, disk 2 to 3; block 11, stripe 5, disk 0 to 3
  pub wide_moves : run_wide wide_standing (wide Whole 4) (advance 2)
      ≡ left_wide (wide Whole 6)
      ((3 ∷ 2 ∷ 4 ∷ 57 ∷ 6 ∷ 53 ∷ 0 ∷ 0 ∷ 10 ∷ 45 ∷ 0 ∷ 0 ∷ 3 ∷ 2 ∷ 16 ∷ 33 ∷ 18 ∷ 29 ∷ 7 ∷ 2 ∷ 22 ∷ 21 ∷ 24 ∷ 17 ∷ [])
      ++ wide1
      ++ (1 ∷ 63 ∷ 0 ∷ 0 ∷ 3 ∷ 2 ∷ 7 ∷ 51 ∷ 9 ∷ 47 ∷ 7 ∷ 2 ∷ 0 ∷ 0 ∷ 15 ∷ 35 ∷ 3 ∷ 2 ∷ 19 ∷ 27 ∷ 21 ∷ 23 ∷ 15 ∷ 2 ∷ [])
      ++ (0 ∷ 0 ∷ 3 ∷ 59 ∷ 5 ∷ 55 ∷ 15 ∷ 2 ∷ 0 ∷ 0 ∷ 12 ∷ 41 ∷ 13 ∷ 39 ∷ 31 ∷ 2 ∷ 0 ∷ 0 ∷ 0 ∷ 0 ∷ 0 ∷ 0 ∷ 0 ∷ 0 ∷ []))
      (made 2)
  pub wide_written : run_wide wide_standing (wide Whole 4) (write 6 (200 ∷ 5 ∷ []))
      ≡ left_wide (wide Whole 4)
      (wide0 ++ wide1
      ++ (1 ∷ 63 ∷ 0 ∷ 0 ∷ 3 ∷ 2 ∷ 200 ∷ 5 ∷ 9 ∷ 47 ∷ 7 ∷ 2 ∷ 13 ∷ 39 ∷ 15 ∷ 35 ∷ 3 ∷ 2 ∷ 19 ∷ 27 ∷ 21 ∷ 23 ∷ 15 ∷ 2 ∷ [])
      ++ (0 ∷ 0 ∷ 3 ∷ 59 ∷ 5 ∷ 55 ∷ 192 ∷ 52 ∷ 0 ∷ 0 ∷ 0 ∷ 0 ∷ 0 ∷ 0 ∷ 31 ∷ 2 ∷ 0 ∷ 0 ∷ 0 ∷ 0 ∷ 0 ∷ 0 ∷ 0 ∷ 0 ∷ []))
      done
  pub wide_written_unsound : run_wide wide_degraded (wide Whole 4) (write 6 (200 ∷ 5 ∷ []))
      ≡ left_wide (wide Whole 4)
      (wide0 ++ wide1
      ++ (24 ∷ 25 ∷ 26 ∷ 27 ∷ 28 ∷ 29 ∷ 200 ∷ 5 ∷ 32 ∷ 33 ∷ 34 ∷ 35 ∷ 36 ∷ 37 ∷ 38 ∷ 39 ∷ 40 ∷ 41 ∷ 42 ∷ 43 ∷ 44 ∷ 45 ∷ 46 ∷ 47 ∷ [])
      ++ (0 ∷ 0 ∷ 3 ∷ 59 ∷ 5 ∷ 55 ∷ 217 ∷ 24 ∷ 0 ∷ 0 ∷ 0 ∷ 0 ∷ 0 ∷ 0 ∷ 31 ∷ 2 ∷ 0 ∷ 0 ∷ 0 ∷ 0 ∷ 0 ∷ 0 ∷ 0 ∷ 0 ∷ []))
      done
  pub wide_written_degraded : run_wide wide_degraded (wide (Out 2) 4) (write 6 (200 ∷ 5 ∷ []))
      ≡ left_wide (wide (Out 2) 4)
      (wide0 ++ wide1 ++ noise
      ++ (0 ∷ 0 ∷ 3 ∷ 59 ∷ 5 ∷ 55 ∷ 192 ∷ 52 ∷ 0 ∷ 0 ∷ 0 ∷ 0 ∷ 0 ∷ 0 ∷ 31 ∷ 2 ∷ 0 ∷ 0 ∷ 0 ∷ 0 ∷ 0 ∷ 0 ∷ 0 ∷ 0 ∷ []))
      done
  pub wide_read : run_wide wide_standing (wide Whole 4) (read 23)
      ≡ left (wide Whole 4) wide_standing (24 ∷ 17 ∷ []) (bytes (24 ∷ 17 ∷ []))
  pub wide_read_degraded : run_wide wide_degraded (wide (Out 2) 4) (read 6)
      ≡ left (wide (Out 2) 4) wide_degraded (7 ∷ 51 ∷ []) (bytes (7 ∷ 51 ∷ []))
  pub wide_viewed : run_wide wide_standing (wide Whole 4) (view 23) ≡ left_wide (wide Whole 4) wide_standing (bytes (24 ∷ 17 ∷ []))
  pub wide_viewed_degraded : run_wide wide_degraded (wide (Out 2) 4) (view 6)
      ≡ left (wide (Out 2) 4) wide_degraded (7 ∷ 51 ∷ []) (bytes (7 ∷ 51 ∷ []))
  pub wide_rebuilt : run_wide wide_degraded (wide (Rebuilding 2 0) 4) (continue 12) ≡ left_wide (wide Whole 4) wide_standing (made 12)
  pub wide_rebuilt_unsound : run_wide wide_degraded (wide (Rebuilding 0 0) 4) (continue 12)
      ≡ left_wide (wide Whole 4)
      ((26 ∷ 36 ∷ 30 ∷ 34 ∷ 25 ∷ 42 ∷ 25 ∷ 44 ∷ 35 ∷ 35 ∷ 41 ∷ 8 ∷ 42 ∷ 0 ∷ 57 ∷ 37 ∷ 57 ∷ 54 ∷ 62 ∷ 50 ∷ 47 ∷ 47 ∷ 57 ∷ 60 ∷ [])
      ++ wide1 ++ noise ++ wide3)
      (made 12)
  pub wide_grown : run_wide (wide0 ++ wide1 ++ wide2 ++ noise) fresh_wide (grow 1)
      ≡ left_wide (wide Whole 0) (wide0 ++ wide1 ++ wide2 ++ zeros 24) done
  pub wide_formatted : run_wide (noise ++ noise ++ noise) (wide Lost 4) (format 3 2 12) ≡ left_wide fresh_wide (zeros 72) done
