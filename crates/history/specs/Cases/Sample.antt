-- One history of one cabinet, run through both machines. 3 disks of 12 stripes, with blocks of 2 bytes, and then a fourth: 9 moves, 3 to a
-- zone, capacity 24, then 28, 32 and 36. A disk is rebuilt in steps meanwhile, fails again, and is rebuilt. At last, formatted anew as 4
-- disks, a fifth, with which nothing has to move. The expected answers are literals, printed by programs that were written from
-- documents 01 and 02 and know none of these definitions: the moves are replayed one by one on a table of places. `sample` of
-- proofs/Cases/Sample.antt computes both machines.
use Rattle.std.specs.Prelude.{ℕ, zero, suc, ◌+◌, ◌-◌, ◌*◌, ◌%◌, ◌≡◌, true, false, List, [], ◌∷◌, ◌++◌, map, take, drop}
use Rattle.layout.specs.declared.Role.TheVariants.{Data, Parity, Blank}
use Rattle.layout.specs.Home.{standing_at}
use Rattle.state.specs.declared.types.Health.TheVariants.{Whole, Out, Lost, Rebuilding}
use Rattle.state.specs.Bytes.{record_length, decode}
use Rattle.calls.specs.Call.{Call, format, read, view, write, grow, advance, out, begin, continue}
use Rattle.calls.specs.Call.{status, locate, owner, sweep, on, Event, fed}
use Rattle.calls.specs.Call.{Answer, refused, done, bytes, made, all_sound, figures, placed, owned}
use Rattle.history.specs.Flat.{Flat, flat}
use Rattle.history.specs.Lent.{as_bytes, Cabinet, next}
use Rattle.history.specs.Theorem.{Fair, outcomes, flat_outcomes}

-- ---- a script

-- a call, what happens to the images that stand before it is lent them, and the block or scratch that it is lent
pub record Step : Type 0 where
  pub call : Call
  pub change : List ℕ → List ℕ
  pub room : List ℕ

-- len bytes of nonsense, others for each g
unfoldable pub junk : ℕ → ℕ → List ℕ
junk g zero = []
junk g (suc len) = (g * suc len + 37) % 256 ∷ junk g len

-- the 24 bytes of disk d, from stripe c on, replaced by nonsense
abbrev pub spoil : ℕ → ℕ → ℕ → List ℕ → List ℕ
spoil d c g img = take (d * 24 + c * 2) img ++ junk g (24 - c * 2) ++ drop (d * 24 + 24) img

-- a call lent the images as they stand and a block of 2 bytes ..
abbrev pub plain : Call → Step
plain c = record { call = c; change = λ img. img; room = 7 ∷ 7 ∷ [] }

-- .. with nonsense on disk d ..
abbrev pub spoilt : ℕ → ℕ → Call → Step
spoilt d g c = record { call = c; change = spoil d 0 g; room = 7 ∷ 7 ∷ [] }

-- .. on those of its stripes that are not among the first k ..
abbrev pub rebuilt : ℕ → ℕ → ℕ → Call → Step
rebuilt d k g c = record { call = c; change = spoil d k g; room = 7 ∷ 7 ∷ [] }

-- .. with a disk of nonsense after them ..
abbrev pub longer : Call → Step
longer c = record { call = c; change = λ img. img ++ junk 77 24; room = 7 ∷ 7 ∷ [] }

-- .. a byte short ..
abbrev pub shorter : Call → Step
shorter c = record { call = c; change = drop 1; room = 7 ∷ 7 ∷ [] }

-- .. and a block of len bytes
abbrev pub room : ℕ → Call → Step
room len c = record { call = c; change = λ img. img; room = junk 5 len }

-- its event, where img stands
abbrev pub lent : Step → List ℕ → Event
lent s img = on s.call (s.change img) s.room

-- the events of a script, each lent what the ones before left, changed as the script says
unfoldable pub play : List Step → Cabinet (List ℕ) → List Event
play [] a = []
play (s ∷ ss) a = let e = lent s a.img in e ∷ play ss (next as_bytes e a)

-- ---- the script

-- a new cabinet of 3 disks, and its first blocks
abbrev pub begun : List Step
begun =
    plain (format 3 2 12)
    ∷ plain (write 4 (17 ∷ 34 ∷ []))  -- stripe 2: the second to move
    ∷ plain (write 5 (85 ∷ 170 ∷ []))  -- its neighbour, which stays
    ∷ plain (write 6 (1 ∷ 2 ∷ []))  -- stripe 3: the parity will move, first of all
    ∷ plain (write 2 (9 ∷ 90 ∷ []))  -- stripe 1: the third to move
    ∷ plain (write 0 (250 ∷ 251 ∷ []))  -- stripe 0: nothing moves
    ∷ plain (write 19 (3 ∷ 4 ∷ []))  -- stripe 9: the last to move
    ∷ plain (write 4 (66 ∷ 77 ∷ []))  -- written again
    ∷ plain (read 4)
    ∷ plain (view 6)
    ∷ plain sweep
    ∷ []

-- a fourth disk, with nonsense on it, and the first two moves
abbrev pub growing : List Step
growing =
    plain (advance 1)  -- nothing to move before a growth
    ∷ plain (locate 4)
    ∷ plain (owner 3 0)
    ∷ plain (owner 3 3)  -- there is no disk 3
    ∷ plain (grow 17)  -- more than may be added
    ∷ plain (grow 1)  -- the new disk is missing
    ∷ longer (grow 1)
    ∷ plain (owner 3 3)  -- zeroed, and blank
    ∷ plain (advance 2)  -- stripe 3's parity and block 4 go to disk 3
    ∷ plain (locate 4)
    ∷ plain (locate 2)  -- of the same zone, and not moved yet
    ∷ plain (owner 2 3)
    ∷ plain (owner 3 3)
    ∷ plain (owner 3 0)  -- left blank
    ∷ plain (write 4 (111 ∷ 222 ∷ []))  -- in its new place
    ∷ plain (read 4)
    ∷ plain (write 7 (200 ∷ 100 ∷ []))  -- its parity in the new place
    ∷ plain (read 7)
    ∷ plain (read 24)  -- no new block before the last move of its zone
    ∷ plain sweep  -- with blanks on old disks and on the new one
    ∷ []

-- disk 2 is out, and holds other bytes before every call
abbrev pub degraded : List Step
degraded =
    plain (out 2)
    ∷ spoilt 2 11 status
    ∷ spoilt 2 13 (read 0)  -- on disk 2
    ∷ spoilt 2 17 (view 6)  -- on disk 2
    ∷ spoilt 2 19 (write 6 (40 ∷ 50 ∷ []))  -- on disk 2: the parity alone takes it
    ∷ spoilt 2 23 (write 4 (12 ∷ 21 ∷ []))  -- on disk 3, its parity on disk 2
    ∷ spoilt 2 29 (write 7 (99 ∷ 98 ∷ []))  -- on disk 1, its parity on disk 3
    ∷ spoilt 2 31 (read 6)
    ∷ spoilt 2 37 (read 4)
    ∷ spoilt 2 41 (read 7)
    ∷ spoilt 2 43 (read 2)  -- on disk 2, not written since
    ∷ spoilt 2 47 (advance 1)  -- a disk out halts the growth
    ∷ spoilt 2 53 (grow 1)  -- degraded and grown: the lower number
    ∷ spoilt 2 55 sweep  -- nor is it swept
    ∷ spoilt 2 59 (out 2)  -- out already
    ∷ spoilt 2 61 (begin 1)  -- another disk
    ∷ spoilt 2 63 (continue 1)  -- none is being rebuilt
    ∷ spoilt 2 67 (begin 2)
    ∷ []

-- disk 2 is rebuilt in steps, and holds other bytes in the stripes not done before every call
abbrev pub rebuilding : List Step
rebuilding =
    rebuilt 2 0 139 (read 0)  -- on disk 2, stripe 0: not done
    ∷ rebuilt 2 0 149 (continue 3)
    ∷ rebuilt 2 3 151 status
    ∷ rebuilt 2 3 157 (read 0)  -- done
    ∷ rebuilt 2 3 163 (write 0 (14 ∷ 15 ∷ []))
    ∷ rebuilt 2 3 167 (write 4 (16 ∷ 17 ∷ []))  -- stripe 2, its parity on disk 2: done
    ∷ rebuilt 2 3 173 (view 6)  -- stripe 3, on disk 2: not done
    ∷ rebuilt 2 3 179 (write 6 (18 ∷ 19 ∷ []))  -- the parity alone takes it
    ∷ rebuilt 2 3 181 (continue 1)  -- stripe 3
    ∷ rebuilt 2 4 191 (read 6)
    ∷ rebuilt 2 4 193 (write 6 (20 ∷ 21 ∷ []))  -- both take it
    ∷ rebuilt 2 4 197 (advance 1)  -- the growth stands still
    ∷ rebuilt 2 4 199 (grow 1)
    ∷ rebuilt 2 4 203 sweep
    ∷ rebuilt 2 4 211 (begin 2)  -- it is being rebuilt already
    ∷ rebuilt 2 4 223 (out 2)  -- the same disk, again
    ∷ spoilt 2 227 status
    ∷ spoilt 2 229 (read 0)
    ∷ spoilt 2 233 (read 6)
    ∷ spoilt 2 239 (continue 1)  -- none is being rebuilt
    ∷ spoilt 2 241 (begin 2)
    ∷ rebuilt 2 0 251 (continue 0)
    ∷ rebuilt 2 0 257 (continue 11)  -- all but one
    ∷ rebuilt 2 11 263 (read 6)
    ∷ rebuilt 2 11 269 (continue 100)
    ∷ plain (continue 1)  -- whole
    ∷ plain (read 0)
    ∷ plain sweep
    ∷ []

-- whole again: the last move of zone 0, and its four blanks are blocks. One of them is written in mid-growth, between two moves of zone 1,
-- and again with its disk out, which is then rebuilt
abbrev pub handed_out : List Step
handed_out =
    plain (read 6)
    ∷ plain (read 4)
    ∷ plain (read 7)
    ∷ plain (read 24)  -- not yet
    ∷ plain (advance 1)  -- block 2 goes to disk 3, the last of zone 0
    ∷ plain status  -- 28 blocks
    ∷ plain (locate 26)  -- on the place that block 4 left
    ∷ plain (owner 2 1)
    ∷ plain (owner 4 3)  -- of zone 1, and blank
    ∷ plain (read 26)  -- zeroes
    ∷ plain (read 28)  -- of zone 1: not yet
    ∷ plain (advance 1)  -- the first of zone 1
    ∷ plain (write 26 (35 ∷ 36 ∷ []))
    ∷ plain (read 26)
    ∷ plain (out 1)
    ∷ spoilt 1 109 (read 26)  -- on disk 1
    ∷ spoilt 1 113 (write 26 (45 ∷ 46 ∷ []))  -- the parity alone takes it
    ∷ spoilt 1 127 (view 26)
    ∷ spoilt 1 131 (write 24 (61 ∷ 62 ∷ []))  -- another, on disk 3
    ∷ spoilt 1 137 (begin 1)
    ∷ spoilt 1 138 (continue 12)
    ∷ plain (read 26)
    ∷ plain sweep  -- new blocks written in zone 0, zone 1 in progress
    ∷ plain (advance 2)  -- the other two of zone 1
    ∷ plain status  -- 32 blocks
    ∷ plain (locate 26)  -- where it was
    ∷ plain (read 26)
    ∷ plain (read 31)  -- zeroes
    ∷ []

-- the other three moves, and the last new blocks
abbrev pub finished : List Step
finished =
    plain (advance 100)
    ∷ plain (advance 1)
    ∷ longer (grow 1)
    ∷ plain status
    ∷ plain (read 2)  -- moved third
    ∷ plain (read 19)  -- moved last
    ∷ plain (locate 26)  -- where it was in mid-growth
    ∷ plain (owner 2 1)
    ∷ plain (read 26)  -- as it was written there
    ∷ plain (read 24)
    ∷ plain (read 27)  -- zeroes, on the place that stripe 3's parity left
    ∷ plain (locate 35)  -- the last
    ∷ plain (read 35)  -- zeroes
    ∷ plain (write 26 (5 ∷ 6 ∷ []))
    ∷ plain (read 26)
    ∷ plain sweep
    ∷ []

-- past the end, wrong lengths
abbrev pub turned_away : List Step
turned_away =
    plain (read 36)
    ∷ room 3 (read 35)  -- a block of 3 bytes
    ∷ plain (write 35 (1 ∷ []))  -- data of 1 byte
    ∷ shorter (read 35)  -- images a byte short
    ∷ shorter sweep
    ∷ []

-- two disks out: nothing is read any more
abbrev pub lost : List Step
lost =
    plain (out 1)
    ∷ spoilt 1 71 (view 26)  -- on disk 1
    ∷ spoilt 1 72 (begin 1)
    ∷ spoilt 1 73 (continue 5)
    ∷ rebuilt 1 5 74 (view 26)  -- stripe 2: done
    ∷ rebuilt 1 5 76 (out 3)  -- the second, while the first is not rebuilt
    ∷ spoilt 1 79 (read 4)
    ∷ spoilt 1 82 (begin 1)
    ∷ spoilt 1 83 (continue 1)
    ∷ spoilt 1 84 sweep
    ∷ spoilt 1 89 status
    ∷ spoilt 1 97 (locate 26)
    ∷ []

-- formatted again, now as 4 disks from the start
abbrev pub anew : List Step
anew =
    plain (format 3 2 12)  -- images of 4 disks
    ∷ plain (format 4 2 12)
    ∷ plain (read 4)
    ∷ []

-- a fifth disk, with nonsense on it: 12 stripes are no whole group of 20, so nothing moves, and the new blocks are there at once, on it
abbrev pub odd : List Step
odd =
    plain (write 34 (31 ∷ 32 ∷ []))  -- in the last stripe
    ∷ longer (grow 1)
    ∷ plain (advance 1)  -- the growth is over
    ∷ plain status
    ∷ plain (locate 36)  -- the first new block
    ∷ plain (locate 34)  -- where it was
    ∷ plain (owner 11 4)
    ∷ plain (owner 11 3)  -- stripe 11's parity, where it was
    ∷ plain (read 47)
    ∷ plain (write 47 (8 ∷ 9 ∷ []))
    ∷ plain (out 4)
    ∷ spoilt 4 101 (read 47)  -- on the disk that is out
    ∷ spoilt 4 103 (read 34)
    ∷ spoilt 4 107 (begin 4)
    ∷ spoilt 4 108 (continue 12)
    ∷ plain (read 47)
    ∷ plain (read 48)
    ∷ plain sweep
    ∷ []

-- all of it
abbrev pub script : List Step
script = begun ++ growing ++ degraded ++ rebuilding ++ handed_out ++ finished ++ turned_away ++ lost ++ anew ++ odd

-- ---- both machines before the first format

-- the array: nonsense, of the lengths that the format asks for
abbrev pub cabinet : Cabinet (List ℕ)
cabinet = record { rec = junk 91 record_length; img = junk 57 72 }

-- the flat list: the same nonsense as numbers, and no blocks
abbrev pub list : Flat
list = flat (decode (junk 91 record_length)) []

-- ---- the answers

-- the record's bytes: n, m, health with its disk, B = 2, T = 12, t, and the stripes done
abbrev pub after_steps : ℕ → ℕ → ℕ → ℕ → ℕ → ℕ → List ℕ
after_steps n m h d t c = n ∷ m ∷ h ∷ d ∷ 2 ∷ 0 ∷ 0 ∷ 0 ∷ 12 ∷ 0 ∷ 0 ∷ 0 ∷ t ∷ 0 ∷ 0 ∷ 0 ∷ c ∷ 0 ∷ 0 ∷ 0 ∷ []

abbrev pub after : ℕ → ℕ → ℕ → ℕ → ℕ → List ℕ
after n m h d t = after_steps n m h d t 0

-- what each call answers, and the record's bytes after it
abbrev pub expected : List (Answer × List ℕ)
expected =
    -- begun
    (done, after 3 0 0 0 0)  -- format 3 2 12
    ∷ (done, after 3 0 0 0 0)  -- write 4 (17 ∷ 34 ∷ [])
    ∷ (done, after 3 0 0 0 0)  -- write 5 (85 ∷ 170 ∷ [])
    ∷ (done, after 3 0 0 0 0)  -- write 6 (1 ∷ 2 ∷ [])
    ∷ (done, after 3 0 0 0 0)  -- write 2 (9 ∷ 90 ∷ [])
    ∷ (done, after 3 0 0 0 0)  -- write 0 (250 ∷ 251 ∷ [])
    ∷ (done, after 3 0 0 0 0)  -- write 19 (3 ∷ 4 ∷ [])
    ∷ (done, after 3 0 0 0 0)  -- write 4 (66 ∷ 77 ∷ [])
    ∷ (bytes (66 ∷ 77 ∷ []), after 3 0 0 0 0)  -- read 4
    ∷ (bytes (1 ∷ 2 ∷ []), after 3 0 0 0 0)  -- view 6
    ∷ (all_sound 12, after 3 0 0 0 0)  -- sweep
    -- growing
    ∷ (refused 5, after 3 0 0 0 0)  -- advance 1
    ∷ (placed (standing_at 2 1 2 false), after 3 0 0 0 0)  -- locate 4
    ∷ (owned Parity, after 3 0 0 0 0)  -- owner 3 0
    ∷ (refused 10, after 3 0 0 0 0)  -- owner 3 3
    ∷ (refused 6, after 3 0 0 0 0)  -- grow 17
    ∷ (refused 7, after 3 0 0 0 0)  -- grow 1
    ∷ (done, after 3 1 0 0 0)  -- grow 1
    ∷ (owned Blank, after 3 1 0 0 0)  -- owner 3 3
    ∷ (made 2, after 3 1 0 0 2)  -- advance 2
    ∷ (placed (standing_at 2 3 2 true), after 3 1 0 0 2)  -- locate 4
    ∷ (placed (standing_at 1 2 1 false), after 3 1 0 0 2)  -- locate 2
    ∷ (owned (Data 4), after 3 1 0 0 2)  -- owner 2 3
    ∷ (owned Parity, after 3 1 0 0 2)  -- owner 3 3
    ∷ (owned Blank, after 3 1 0 0 2)  -- owner 3 0
    ∷ (done, after 3 1 0 0 2)  -- write 4 (111 ∷ 222 ∷ [])
    ∷ (bytes (111 ∷ 222 ∷ []), after 3 1 0 0 2)  -- read 4
    ∷ (done, after 3 1 0 0 2)  -- write 7 (200 ∷ 100 ∷ [])
    ∷ (bytes (200 ∷ 100 ∷ []), after 3 1 0 0 2)  -- read 7
    ∷ (refused 8, after 3 1 0 0 2)  -- read 24
    ∷ (all_sound 12, after 3 1 0 0 2)  -- sweep
    -- degraded
    ∷ (done, after 3 1 1 2 2)  -- out 2
    ∷ (figures 24 2 9 (Out 2), after 3 1 1 2 2)  -- status
    ∷ (bytes (250 ∷ 251 ∷ []), after 3 1 1 2 2)  -- read 0
    ∷ (bytes (1 ∷ 2 ∷ []), after 3 1 1 2 2)  -- view 6
    ∷ (done, after 3 1 1 2 2)  -- write 6 (40 ∷ 50 ∷ [])
    ∷ (done, after 3 1 1 2 2)  -- write 4 (12 ∷ 21 ∷ [])
    ∷ (done, after 3 1 1 2 2)  -- write 7 (99 ∷ 98 ∷ [])
    ∷ (bytes (40 ∷ 50 ∷ []), after 3 1 1 2 2)  -- read 6
    ∷ (bytes (12 ∷ 21 ∷ []), after 3 1 1 2 2)  -- read 4
    ∷ (bytes (99 ∷ 98 ∷ []), after 3 1 1 2 2)  -- read 7
    ∷ (bytes (9 ∷ 90 ∷ []), after 3 1 1 2 2)  -- read 2
    ∷ (refused 3, after 3 1 1 2 2)  -- advance 1
    ∷ (refused 3, after 3 1 1 2 2)  -- grow 1
    ∷ (refused 3, after 3 1 1 2 2)  -- sweep
    ∷ (refused 10, after 3 1 1 2 2)  -- out 2
    ∷ (refused 10, after 3 1 1 2 2)  -- begin 1
    ∷ (refused 10, after 3 1 1 2 2)  -- continue 1
    ∷ (done, after_steps 3 1 3 2 2 0)  -- begin 2
    -- rebuilding
    ∷ (bytes (250 ∷ 251 ∷ []), after_steps 3 1 3 2 2 0)  -- read 0
    ∷ (made 3, after_steps 3 1 3 2 2 3)  -- continue 3
    ∷ (figures 24 2 9 (Rebuilding 2 3), after_steps 3 1 3 2 2 3)  -- status
    ∷ (bytes (250 ∷ 251 ∷ []), after_steps 3 1 3 2 2 3)  -- read 0
    ∷ (done, after_steps 3 1 3 2 2 3)  -- write 0 (14 ∷ 15 ∷ [])
    ∷ (done, after_steps 3 1 3 2 2 3)  -- write 4 (16 ∷ 17 ∷ [])
    ∷ (bytes (40 ∷ 50 ∷ []), after_steps 3 1 3 2 2 3)  -- view 6
    ∷ (done, after_steps 3 1 3 2 2 3)  -- write 6 (18 ∷ 19 ∷ [])
    ∷ (made 1, after_steps 3 1 3 2 2 4)  -- continue 1
    ∷ (bytes (18 ∷ 19 ∷ []), after_steps 3 1 3 2 2 4)  -- read 6
    ∷ (done, after_steps 3 1 3 2 2 4)  -- write 6 (20 ∷ 21 ∷ [])
    ∷ (refused 3, after_steps 3 1 3 2 2 4)  -- advance 1
    ∷ (refused 3, after_steps 3 1 3 2 2 4)  -- grow 1
    ∷ (refused 3, after_steps 3 1 3 2 2 4)  -- sweep
    ∷ (refused 10, after_steps 3 1 3 2 2 4)  -- begin 2
    ∷ (done, after 3 1 1 2 2)  -- out 2
    ∷ (figures 24 2 9 (Out 2), after 3 1 1 2 2)  -- status
    ∷ (bytes (14 ∷ 15 ∷ []), after 3 1 1 2 2)  -- read 0
    ∷ (bytes (20 ∷ 21 ∷ []), after 3 1 1 2 2)  -- read 6
    ∷ (refused 10, after 3 1 1 2 2)  -- continue 1
    ∷ (done, after_steps 3 1 3 2 2 0)  -- begin 2
    ∷ (made 0, after_steps 3 1 3 2 2 0)  -- continue 0
    ∷ (made 11, after_steps 3 1 3 2 2 11)  -- continue 11
    ∷ (bytes (20 ∷ 21 ∷ []), after_steps 3 1 3 2 2 11)  -- read 6
    ∷ (made 1, after 3 1 0 0 2)  -- continue 100
    ∷ (refused 10, after 3 1 0 0 2)  -- continue 1
    ∷ (bytes (14 ∷ 15 ∷ []), after 3 1 0 0 2)  -- read 0
    ∷ (all_sound 12, after 3 1 0 0 2)  -- sweep
    -- handed_out
    ∷ (bytes (20 ∷ 21 ∷ []), after 3 1 0 0 2)  -- read 6
    ∷ (bytes (16 ∷ 17 ∷ []), after 3 1 0 0 2)  -- read 4
    ∷ (bytes (99 ∷ 98 ∷ []), after 3 1 0 0 2)  -- read 7
    ∷ (refused 8, after 3 1 0 0 2)  -- read 24
    ∷ (made 1, after 3 1 0 0 3)  -- advance 1
    ∷ (figures 28 3 9 Whole, after 3 1 0 0 3)  -- status
    ∷ (placed (standing_at 2 1 2 false), after 3 1 0 0 3)  -- locate 26
    ∷ (owned (Data 26), after 3 1 0 0 3)  -- owner 2 1
    ∷ (owned Blank, after 3 1 0 0 3)  -- owner 4 3
    ∷ (bytes (0 ∷ 0 ∷ []), after 3 1 0 0 3)  -- read 26
    ∷ (refused 8, after 3 1 0 0 3)  -- read 28
    ∷ (made 1, after 3 1 0 0 4)  -- advance 1
    ∷ (done, after 3 1 0 0 4)  -- write 26 (35 ∷ 36 ∷ [])
    ∷ (bytes (35 ∷ 36 ∷ []), after 3 1 0 0 4)  -- read 26
    ∷ (done, after 3 1 1 1 4)  -- out 1
    ∷ (bytes (35 ∷ 36 ∷ []), after 3 1 1 1 4)  -- read 26
    ∷ (done, after 3 1 1 1 4)  -- write 26 (45 ∷ 46 ∷ [])
    ∷ (bytes (45 ∷ 46 ∷ []), after 3 1 1 1 4)  -- view 26
    ∷ (done, after 3 1 1 1 4)  -- write 24 (61 ∷ 62 ∷ [])
    ∷ (done, after_steps 3 1 3 1 4 0)  -- begin 1
    ∷ (made 12, after 3 1 0 0 4)  -- continue 12
    ∷ (bytes (45 ∷ 46 ∷ []), after 3 1 0 0 4)  -- read 26
    ∷ (all_sound 12, after 3 1 0 0 4)  -- sweep
    ∷ (made 2, after 3 1 0 0 6)  -- advance 2
    ∷ (figures 32 6 9 Whole, after 3 1 0 0 6)  -- status
    ∷ (placed (standing_at 2 1 2 false), after 3 1 0 0 6)  -- locate 26
    ∷ (bytes (45 ∷ 46 ∷ []), after 3 1 0 0 6)  -- read 26
    ∷ (bytes (0 ∷ 0 ∷ []), after 3 1 0 0 6)  -- read 31
    -- finished
    ∷ (made 3, after 3 1 0 0 9)  -- advance 100
    ∷ (refused 5, after 3 1 0 0 9)  -- advance 1
    ∷ (refused 4, after 3 1 0 0 9)  -- grow 1
    ∷ (figures 36 9 9 Whole, after 3 1 0 0 9)  -- status
    ∷ (bytes (9 ∷ 90 ∷ []), after 3 1 0 0 9)  -- read 2
    ∷ (bytes (3 ∷ 4 ∷ []), after 3 1 0 0 9)  -- read 19
    ∷ (placed (standing_at 2 1 2 false), after 3 1 0 0 9)  -- locate 26
    ∷ (owned (Data 26), after 3 1 0 0 9)  -- owner 2 1
    ∷ (bytes (45 ∷ 46 ∷ []), after 3 1 0 0 9)  -- read 26
    ∷ (bytes (61 ∷ 62 ∷ []), after 3 1 0 0 9)  -- read 24
    ∷ (bytes (0 ∷ 0 ∷ []), after 3 1 0 0 9)  -- read 27
    ∷ (placed (standing_at 11 2 3 false), after 3 1 0 0 9)  -- locate 35
    ∷ (bytes (0 ∷ 0 ∷ []), after 3 1 0 0 9)  -- read 35
    ∷ (done, after 3 1 0 0 9)  -- write 26 (5 ∷ 6 ∷ [])
    ∷ (bytes (5 ∷ 6 ∷ []), after 3 1 0 0 9)  -- read 26
    ∷ (all_sound 12, after 3 1 0 0 9)  -- sweep
    -- turned_away
    ∷ (refused 8, after 3 1 0 0 9)  -- read 36
    ∷ (refused 9, after 3 1 0 0 9)  -- read 35
    ∷ (refused 9, after 3 1 0 0 9)  -- write 35 (1 ∷ [])
    ∷ (refused 7, after 3 1 0 0 9)  -- read 35
    ∷ (refused 7, after 3 1 0 0 9)  -- sweep
    -- lost
    ∷ (done, after 3 1 1 1 9)  -- out 1
    ∷ (bytes (5 ∷ 6 ∷ []), after 3 1 1 1 9)  -- view 26
    ∷ (done, after_steps 3 1 3 1 9 0)  -- begin 1
    ∷ (made 5, after_steps 3 1 3 1 9 5)  -- continue 5
    ∷ (bytes (5 ∷ 6 ∷ []), after_steps 3 1 3 1 9 5)  -- view 26
    ∷ (done, after 3 1 2 0 9)  -- out 3
    ∷ (refused 2, after 3 1 2 0 9)  -- read 4
    ∷ (refused 2, after 3 1 2 0 9)  -- begin 1
    ∷ (refused 2, after 3 1 2 0 9)  -- continue 1
    ∷ (refused 2, after 3 1 2 0 9)  -- sweep
    ∷ (figures 36 9 9 Lost, after 3 1 2 0 9)  -- status
    ∷ (placed (standing_at 2 1 2 false), after 3 1 2 0 9)  -- locate 26
    -- anew
    ∷ (refused 7, after 3 1 2 0 9)  -- format 3 2 12
    ∷ (done, after 4 0 0 0 0)  -- format 4 2 12
    ∷ (bytes (0 ∷ 0 ∷ []), after 4 0 0 0 0)  -- read 4
    -- odd
    ∷ (done, after 4 0 0 0 0)  -- write 34 (31 ∷ 32 ∷ [])
    ∷ (done, after 4 1 0 0 0)  -- grow 1
    ∷ (refused 5, after 4 1 0 0 0)  -- advance 1
    ∷ (figures 48 0 0 Whole, after 4 1 0 0 0)  -- status
    ∷ (placed (standing_at 0 4 0 false), after 4 1 0 0 0)  -- locate 36
    ∷ (placed (standing_at 11 1 3 false), after 4 1 0 0 0)  -- locate 34
    ∷ (owned (Data 47), after 4 1 0 0 0)  -- owner 11 4
    ∷ (owned Parity, after 4 1 0 0 0)  -- owner 11 3
    ∷ (bytes (0 ∷ 0 ∷ []), after 4 1 0 0 0)  -- read 47
    ∷ (done, after 4 1 0 0 0)  -- write 47 (8 ∷ 9 ∷ [])
    ∷ (done, after 4 1 1 4 0)  -- out 4
    ∷ (bytes (8 ∷ 9 ∷ []), after 4 1 1 4 0)  -- read 47
    ∷ (bytes (31 ∷ 32 ∷ []), after 4 1 1 4 0)  -- read 34
    ∷ (done, after_steps 4 1 3 4 0 0)  -- begin 4
    ∷ (made 12, after 4 1 0 0 0)  -- continue 12
    ∷ (bytes (8 ∷ 9 ∷ []), after 4 1 0 0 0)  -- read 47
    ∷ (refused 8, after 4 1 0 0 0)  -- read 48
    ∷ (all_sound 12, after 4 1 0 0 0)  -- sweep
    ∷ []

pub record Sample : Type 0 where
  -- what is lent is what may be lent: the theorem speaks of this history
  pub lent_fairly : Fair as_bytes (play script cabinet) cabinet list
  -- the array, on its bytes
  pub array : outcomes as_bytes (play script cabinet) cabinet ≡ expected
  -- the flat list, fed the calls and the lengths
  pub flat_list : flat_outcomes as_bytes (map fed (play script cabinet)) list ≡ expected
