-- The table of refusals, read row by row, and every cell of it by example. For each call and each number that the table has for it: a
-- case where the condition of that number and of every higher one holds, and no lower one's; for each number that the table does not
-- have for it: a case where its condition would hold, which is not refused; and both sides of the bounds. `rowwise` and `refusals` of
-- proofs/Cases/Refusals.antt compute them.
use Rattle.std.specs.Prelude.{ℕ, suc, ◌-◌, ◌≡◌, Bool, cond, List, [], ◌∷◌, ◌++◌, eqb, get_or, take, drop, replicate}
use Rattle.state.specs.declared.types.Health.TheVariants.{Whole, Out, Lost, Rebuilding}
use Rattle.state.specs.declared.types.Health.{Health}
use Rattle.state.specs.declared.types.Record.{Record}
use Rattle.state.specs.Bytes.{record_length, encode}
use Rattle.state.specs.Update.{formatted, grown_by, with_moves, with_health}
use Rattle.calls.specs.Call.{Call, column, format, read, view, write, grow, advance, out, begin, continue}
use Rattle.calls.specs.Call.{status, locate, owner, sweep, feed}
use Rattle.calls.specs.Table.{Row, table, refusal_bytes}

-- ---- which calls each number is for: the table's last column, a line a number, a column a call (`column` of Call). `rowwise` proves that
-- the rows of each call are those marked here, whatever it is given.

abbrev pub marks : List (List ℕ)
marks =
    -- format, read, view, write, grow, advance, out, begin, continue, status, locate, owner, sweep
    (1 ∷ 1 ∷ 1 ∷ 1 ∷ 1 ∷ 1 ∷ 1 ∷ 1 ∷ 1 ∷ 1 ∷ 1 ∷ 1 ∷ 1 ∷ [])  -- 1 record
    ∷ (0 ∷ 1 ∷ 1 ∷ 1 ∷ 1 ∷ 1 ∷ 1 ∷ 1 ∷ 1 ∷ 0 ∷ 0 ∷ 0 ∷ 1 ∷ [])  -- 2 lost
    ∷ (0 ∷ 0 ∷ 0 ∷ 0 ∷ 1 ∷ 1 ∷ 0 ∷ 0 ∷ 0 ∷ 0 ∷ 0 ∷ 0 ∷ 1 ∷ [])  -- 3 degraded
    ∷ (0 ∷ 0 ∷ 0 ∷ 0 ∷ 1 ∷ 0 ∷ 0 ∷ 0 ∷ 0 ∷ 0 ∷ 0 ∷ 0 ∷ 0 ∷ [])  -- 4 grown
    ∷ (0 ∷ 0 ∷ 0 ∷ 0 ∷ 0 ∷ 1 ∷ 0 ∷ 0 ∷ 0 ∷ 0 ∷ 0 ∷ 0 ∷ 0 ∷ [])  -- 5 nothing to move
    ∷ (1 ∷ 0 ∷ 0 ∷ 0 ∷ 1 ∷ 0 ∷ 0 ∷ 0 ∷ 0 ∷ 0 ∷ 0 ∷ 0 ∷ 0 ∷ [])  -- 6 geometry
    ∷ (1 ∷ 1 ∷ 1 ∷ 1 ∷ 1 ∷ 1 ∷ 0 ∷ 1 ∷ 1 ∷ 0 ∷ 0 ∷ 0 ∷ 1 ∷ [])  -- 7 images
    ∷ (0 ∷ 1 ∷ 1 ∷ 1 ∷ 0 ∷ 0 ∷ 0 ∷ 0 ∷ 0 ∷ 0 ∷ 1 ∷ 1 ∷ 0 ∷ [])  -- 8 past the end
    ∷ (0 ∷ 1 ∷ 1 ∷ 1 ∷ 0 ∷ 0 ∷ 0 ∷ 0 ∷ 0 ∷ 0 ∷ 0 ∷ 0 ∷ 0 ∷ [])  -- 9 block length
    ∷ (0 ∷ 0 ∷ 0 ∷ 0 ∷ 0 ∷ 0 ∷ 1 ∷ 1 ∷ 1 ∷ 0 ∷ 0 ∷ 1 ∷ 0 ∷ [])  -- 10 disk
    ∷ []

-- the numbers marked in a column, counted from k
abbrev pub marked : ℕ → ℕ → List (List ℕ) → List ℕ
marked at k [] = []
marked at k (line ∷ lines) = cond (eqb (get_or line at 0) 1) (k ∷ marked at (suc k) lines) (marked at (suc k) lines)

abbrev pub numbers : List Row → List ℕ
numbers [] = []
numbers (x ∷ rows) = x.0 ∷ numbers rows

abbrev pub Rowwise : Type 0
Rowwise =
    (c : Call) (short bad : Bool) (r : Record) (cap len room : ℕ) → numbers (table c short bad r cap len room) ≡ marked (column c) 1 marks

-- ---- records, as bytes: 3 disks and 15 stripes of 2 bytes, of length 90 and capacity 30 ..
abbrev pub fresh : Record
fresh = formatted 3 2 15

abbrev pub small : List ℕ
small = encode fresh

-- .. 3 disks and T stripes of 1 byte ..
abbrev pub of-stripes : ℕ → List ℕ
of-stripes T = encode (formatted 3 1 T)

-- .. grown by 2, of length 150, with t of 18 moves done, 6 to a zone: capacity 30, then 40, 50, and at last 60
abbrev pub growing : Health → ℕ → List ℕ
growing h t = encode (with_health (with_moves (grown_by fresh 2) t) h)

-- not good, of 2 disks; good but for the health's bytes and bytes 6 and 7, and so for byte 6; good but for health, disk and the stripes
-- done; lost; a byte short and a byte long
abbrev pub bad : List ℕ
bad = encode (with_health (with_moves (grown_by (formatted 2 2 15) 2) 18) Lost)

abbrev pub spoilt : ℕ → ℕ → ℕ → ℕ → List ℕ
spoilt health disk six seven = 3 ∷ 0 ∷ health ∷ disk ∷ 2 ∷ 0 ∷ six ∷ seven ∷ drop 8 small

abbrev pub sixth : List ℕ
sixth = spoilt 0 0 1 0

abbrev pub counted : ℕ → ℕ → List ℕ → List ℕ
counted health disk done = take 16 (spoilt health disk 0 0) ++ done

abbrev pub lost : List ℕ
lost = growing Lost 17

abbrev pub short : List ℕ
short = take (record_length - 1) small

abbrev pub long : List ℕ
long = small ++ 0 ∷ []

-- the number of a call on a record, lent images of len bytes and a block or scratch of room
abbrev pub asks : List ℕ → Call → ℕ → ℕ → ℕ
asks b c len room = refusal_bytes b (feed c len room)

-- a call that would be let through, on each kind of record that 1 is for
abbrev pub ones : Call → ℕ → ℕ → List ℕ
ones c len room =
    asks short c len room ∷ asks long c len room ∷ asks [] c len room
    ∷ asks bad c len room ∷ asks sixth c len room ∷ asks (spoilt 0 0 0 1) c len room
    -- no such health; a disk beside whole and beside lost
    ∷ asks (spoilt 4 0 0 0) c len room ∷ asks (spoilt 0 1 0 0) c len room ∷ asks (spoilt 2 1 0 0) c len room
    -- stripes done, in each of their bytes, beside whole, out and lost
    ∷ asks (counted 0 0 (1 ∷ 0 ∷ 0 ∷ 0 ∷ [])) c len room ∷ asks (counted 0 0 (0 ∷ 1 ∷ 0 ∷ 0 ∷ [])) c len room
    ∷ asks (counted 1 1 (0 ∷ 0 ∷ 1 ∷ 0 ∷ [])) c len room ∷ asks (counted 2 0 (0 ∷ 0 ∷ 0 ∷ 1 ∷ [])) c len room
    -- all done, and more; a disk past the last
    ∷ asks (counted 3 1 (15 ∷ 0 ∷ 0 ∷ 0 ∷ [])) c len room ∷ asks (counted 3 1 (0 ∷ 0 ∷ 0 ∷ 1 ∷ [])) c len room
    ∷ asks (counted 3 3 (0 ∷ 0 ∷ 0 ∷ 0 ∷ [])) c len room
    ∷ []

-- read, view and write have the same rows: a call for a block and a length of its room or data
abbrev pub reads : (ℕ → ℕ → Call) → List ℕ
reads c =
    -- 1, 2
    asks short (c 50 1) 89 1 ∷ asks bad (c 50 1) 89 1 ∷ asks sixth (c 50 1) 89 1 ∷ asks lost (c 50 1) 149 1
    -- 7, 8, 9, none
    ∷ asks (growing Whole 17) (c 50 1) 149 1 ∷ asks (growing Whole 17) (c 50 1) 150 1
    ∷ asks (growing Whole 17) (c 49 1) 150 1 ∷ asks (growing Whole 17) (c 49 2) 150 2
    -- degraded, grown and idle are no matter
    ∷ asks (growing (Out 4) 17) (c 49 2) 150 2 ∷ asks (growing Whole 18) (c 59 2) 150 2 ∷ asks small (c 29 2) 90 2
    ∷ asks (growing (Rebuilding 4 14) 17) (c 49 2) 150 2
    -- the other sides of the bounds
    ∷ asks (growing Whole 18) (c 60 2) 150 2 ∷ asks small (c 30 2) 90 2 ∷ asks small (c 29 2) 91 2 ∷ asks small (c 29 3) 90 3
    -- around the last move of zone 0: block 30; block 40 is of zone 1
    ∷ asks (growing Whole 5) (c 29 2) 150 2 ∷ asks (growing Whole 5) (c 30 2) 150 2
    ∷ asks (growing Whole 6) (c 30 2) 150 2 ∷ asks (growing Whole 6) (c 39 2) 150 2 ∷ asks (growing (Out 4) 6) (c 40 2) 150 2
    ∷ []

abbrev pub read-numbers : List ℕ
read-numbers = 1 ∷ 1 ∷ 1 ∷ 2 ∷ 7 ∷ 8 ∷ 9 ∷ 0 ∷ 0 ∷ 0 ∷ 0 ∷ 0 ∷ 8 ∷ 8 ∷ 7 ∷ 9 ∷ 0 ∷ 8 ∷ 0 ∷ 0 ∷ 8 ∷ []

-- data of so many bytes
abbrev pub bytes : ℕ → List ℕ
bytes len = take len (5 ∷ 5 ∷ 5 ∷ [])

pub record Refusals : Type 0 where
  -- 1: all calls for its length, all but format for a record that is not good
  pub row_1 :
      ones (read 29) 90 2 ++ ones (view 29) 90 2 ++ ones (write 29 (bytes 2)) 90 0 ++ ones (grow 2) 150 0 ++ ones (advance 1) 90 0
      ++ ones (out 2) 0 0 ++ ones (begin 2) 90 0 ++ ones (continue 1) 90 0
      ++ ones status 0 0 ++ ones (locate 29) 0 0 ++ ones (owner 14 2) 0 0 ++ ones sweep 90 0
      ≡ replicate 192 1
  pub row_1_format : ones (format 3 2 15) 90 0 ≡ 1 ∷ 1 ∷ 1 ∷ replicate 13 0
  -- 1 for its length alone; 6, 7; health lost, a bad record, m and t are no matter
  pub formats :
      asks short (format 2 2 15) 89 0 ∷ asks small (format 2 2 15) 89 0 ∷ asks small (format 3 2 15) 89 0 ∷ asks small (format 3 2 15) 90 0
      ∷ asks bad (format 3 2 15) 90 0 ∷ asks sixth (format 3 2 15) 90 0
      ∷ asks lost (format 3 2 15) 90 0 ∷ asks (growing (Out 1) 18) (format 3 2 15) 90 0
      ∷ asks small (format 17 2 15) 510 0 ∷ asks small (format 3 0 15) 0 0 ∷ asks small (format 3 2 0) 0 0
      ∷ []
      ≡ 1 ∷ 6 ∷ 7 ∷ 0 ∷ 0 ∷ 0 ∷ 0 ∷ 0 ∷ 6 ∷ 6 ∷ 6 ∷ []
  pub read_cells : reads (λ b len. read b) ≡ read-numbers
  pub view_cells : reads (λ b len. view b) ≡ read-numbers
  pub write_cells : reads (λ b len. write b (bytes len)) ≡ read-numbers
  -- a write's room is no matter
  pub write_room : asks small (write 29 (bytes 2)) 90 1 ≡ 0
  -- 1, 2, 3, 4, 6, 7, none; m of 0 and of 17; a T of no whole group, and of one and a tail, is no matter, for 7 either
  pub grows :
      asks short (grow 0) 89 0 ∷ asks bad (grow 0) 89 0 ∷ asks lost (grow 0) 89 0
      ∷ asks (growing (Out 4) 17) (grow 0) 89 0 ∷ asks (growing Whole 17) (grow 0) 89 0
      ∷ asks small (grow 0) 89 0 ∷ asks small (grow 2) 149 0 ∷ asks small (grow 2) 150 0
      ∷ asks small (grow 17) 600 0 ∷ asks small (grow 1) 120 0 ∷ asks small (grow 3) 180 0
      ∷ asks small (grow 1) 119 0 ∷ asks small (grow 2) 90 0
      ∷ asks (of-stripes 57) (grow 16) 1083 0 ∷ asks (of-stripes 60) (grow 17) 1200 0 ∷ asks (of-stripes 12) (grow 1) 48 0
      ∷ asks (growing (Rebuilding 4 0) 17) (grow 0) 89 0
      ∷ []
      ≡ 1 ∷ 1 ∷ 2 ∷ 3 ∷ 4 ∷ 6 ∷ 7 ∷ 0 ∷ 6 ∷ 0 ∷ 0 ∷ 7 ∷ 7 ∷ 0 ∷ 6 ∷ 0 ∷ 3 ∷ []
  -- 1, 2, 3, 5, 7, none; 5 with m = 0, and with a total of 0; k = 0 is no refusal, and spares none
  pub advances :
      asks short (advance 1) 149 0 ∷ asks bad (advance 1) 149 0 ∷ asks lost (advance 1) 149 0
      ∷ asks (growing (Out 4) 18) (advance 1) 149 0 ∷ asks (growing Whole 18) (advance 1) 149 0
      ∷ asks (growing Whole 17) (advance 1) 149 0 ∷ asks (growing Whole 17) (advance 1) 150 0
      ∷ asks small (advance 1) 90 0 ∷ asks (growing Whole 17) (advance 0) 150 0 ∷ asks (growing Whole 0) (advance 1) 150 0
      ∷ asks (growing Whole 18) (advance 0) 150 0 ∷ asks small (advance 0) 90 0
      ∷ asks (encode (grown_by (formatted 4 1 19) 1)) (advance 1) 94 0 ∷ asks (encode (grown_by (formatted 4 1 19) 1)) (advance 1) 95 0
      ∷ asks (growing (Rebuilding 4 14) 18) (advance 1) 149 0
      ∷ []
      ≡ 1 ∷ 1 ∷ 2 ∷ 3 ∷ 5 ∷ 7 ∷ 0 ∷ 5 ∷ 0 ∷ 0 ∷ 5 ∷ 5 ∷ 5 ∷ 5 ∷ 3 ∷ []
  -- 1, 2, 10 past the last disk and for the one that is out, none; no images are asked for; of a rebuild any disk may be out
  pub outs :
      asks short (out 5) 0 0 ∷ asks bad (out 5) 0 0 ∷ asks lost (out 5) 0 0
      ∷ asks (growing Whole 17) (out 5) 0 0 ∷ asks (growing (Out 4) 17) (out 4) 0 0
      ∷ asks (growing Whole 17) (out 4) 0 0 ∷ asks (growing (Out 4) 17) (out 3) 0 0
      ∷ asks (growing (Out 4) 17) (out 5) 0 0 ∷ asks small (out 3) 0 0 ∷ asks small (out 2) 0 0
      ∷ asks (growing (Rebuilding 4 3) 17) (out 5) 0 0 ∷ asks (growing (Rebuilding 4 3) 17) (out 4) 0 0
      ∷ asks (growing (Rebuilding 4 3) 17) (out 3) 0 0
      ∷ []
      ≡ 1 ∷ 1 ∷ 2 ∷ 10 ∷ 10 ∷ 0 ∷ 0 ∷ 10 ∷ 10 ∷ 0 ∷ 10 ∷ 0 ∷ 0 ∷ []
  -- 1, 2, 7, 10 for another disk and for any if none is out or one is being rebuilt, none
  pub begins :
      asks short (begin 3) 149 0 ∷ asks bad (begin 3) 149 0 ∷ asks lost (begin 3) 149 0
      ∷ asks (growing (Out 4) 17) (begin 3) 149 0 ∷ asks (growing (Out 4) 17) (begin 3) 150 0
      ∷ asks (growing (Out 4) 17) (begin 4) 150 0 ∷ asks (growing Whole 17) (begin 0) 150 0
      ∷ asks (growing (Out 4) 18) (begin 4) 150 0 ∷ asks (encode (with_health fresh (Out 1))) (begin 1) 90 0
      ∷ asks (growing (Rebuilding 4 0) 17) (begin 4) 150 0 ∷ asks (growing (Rebuilding 4 14) 17) (begin 3) 150 0
      ∷ []
      ≡ 1 ∷ 1 ∷ 2 ∷ 7 ∷ 10 ∷ 0 ∷ 10 ∷ 0 ∷ 0 ∷ 10 ∷ 10 ∷ []
  -- 1, 2, 7, 10 if all disks are in or one is out, none; k = 0 is no refusal, and spares none
  pub continues :
      asks short (continue 1) 149 0 ∷ asks bad (continue 1) 149 0 ∷ asks lost (continue 1) 149 0
      ∷ asks (growing (Out 4) 17) (continue 1) 149 0 ∷ asks (growing (Rebuilding 4 3) 17) (continue 1) 149 0
      ∷ asks (growing Whole 17) (continue 1) 150 0 ∷ asks (growing (Out 4) 17) (continue 1) 150 0
      ∷ asks (growing (Out 4) 17) (continue 0) 150 0
      ∷ asks (growing (Rebuilding 4 0) 17) (continue 1) 150 0 ∷ asks (growing (Rebuilding 4 14) 17) (continue 99) 150 0
      ∷ asks (growing (Rebuilding 0 14) 18) (continue 0) 150 0 ∷ asks (encode (with_health fresh (Rebuilding 1 3))) (continue 1) 90 0
      ∷ []
      ≡ 1 ∷ 1 ∷ 2 ∷ 7 ∷ 7 ∷ 10 ∷ 10 ∷ 10 ∷ 0 ∷ 0 ∷ 0 ∷ 0 ∷ []
  -- 1, and nothing else
  pub statuses :
      asks short status 0 0 ∷ asks bad status 0 0 ∷ asks sixth status 0 0 ∷ asks lost status 0 0 ∷ asks (growing (Out 4) 18) status 0 0
      ∷ asks (growing (Rebuilding 4 14) 18) status 0 0
      ∷ []
      ≡ 1 ∷ 1 ∷ 1 ∷ 0 ∷ 0 ∷ 0 ∷ []
  -- 1, 8, none; health and images are no matter
  pub locates :
      asks short (locate 30) 0 0 ∷ asks bad (locate 30) 0 0 ∷ asks small (locate 30) 0 0
      ∷ asks small (locate 29) 0 0 ∷ asks lost (locate 49) 0 0 ∷ asks lost (locate 50) 0 0
      ∷ asks (growing (Out 4) 18) (locate 59) 0 0 ∷ asks (growing (Out 4) 18) (locate 60) 0 0
      ∷ asks (growing Whole 5) (locate 30) 0 0 ∷ asks (growing Whole 6) (locate 30) 0 0 ∷ asks (growing Whole 6) (locate 40) 0 0
      ∷ []
      ≡ 1 ∷ 1 ∷ 8 ∷ 0 ∷ 0 ∷ 8 ∷ 0 ∷ 8 ∷ 8 ∷ 0 ∷ 8 ∷ []
  -- 1, 8 by the stripe, 10 by the disk, none; health and images are no matter
  pub owners :
      asks short (owner 15 5) 0 0 ∷ asks bad (owner 15 5) 0 0 ∷ asks lost (owner 15 5) 0 0
      ∷ asks lost (owner 14 5) 0 0 ∷ asks lost (owner 14 4) 0 0
      ∷ asks small (owner 14 3) 0 0 ∷ asks small (owner 14 2) 0 0
      ∷ []
      ≡ 1 ∷ 1 ∷ 8 ∷ 10 ∷ 0 ∷ 10 ∷ 0 ∷ []
  -- 1, 2, 3 with a disk out or being rebuilt, 7, none: before, in and after a growth, and so where an advance is refused 5
  pub sweeps :
      asks short sweep 149 0 ∷ asks bad sweep 149 0 ∷ asks lost sweep 149 0
      ∷ asks (growing (Out 4) 17) sweep 149 0 ∷ asks (growing (Rebuilding 4 14) 17) sweep 149 0
      ∷ asks (growing Whole 17) sweep 149 0 ∷ asks (growing Whole 17) sweep 151 0 ∷ asks (growing Whole 17) sweep 150 0
      ∷ asks (growing Whole 0) sweep 150 0 ∷ asks (growing Whole 18) sweep 150 0 ∷ asks (growing Whole 18) sweep 90 0
      ∷ asks small sweep 90 0 ∷ asks small sweep 150 0 ∷ asks (encode (grown_by (formatted 4 1 19) 1)) sweep 95 0
      ∷ asks (growing (Out 4) 17) sweep 150 0 ∷ asks (growing (Rebuilding 4 0) 18) sweep 150 0
      ∷ []
      ≡ 1 ∷ 1 ∷ 2 ∷ 3 ∷ 3 ∷ 7 ∷ 7 ∷ 0 ∷ 0 ∷ 0 ∷ 7 ∷ 0 ∷ 7 ∷ 0 ∷ 3 ∷ 3 ∷ []
