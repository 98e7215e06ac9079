-- The refusal words. Document 01: "A number is given if its condition holds and no lower one's does, and else never. 0 is done."
use Rattle.std.specs.Prelude.{ℕ, ◌*◌, Bool, false, cond, not, ◌&&◌, ◌||◌, List, [], ◌∷◌, ◌++◌, eqb, ltb, length}
use Rattle.layout.specs.declared.Geometry.{Geometry}
use Rattle.layout.specs.Layout.{total_of, capacity}
use Rattle.state.specs.declared.types.Record.{Record}
use Rattle.state.specs.Good.{geometry, old_good, new_good, block_good, stripes_good, good}
use Rattle.state.specs.Bytes.{record_length, decode, good_bytes}
use Rattle.calls.specs.Call.{Call, same_call, format, read, view, write, grow, advance, out, begin, continue}
use Rattle.calls.specs.Call.{status, locate, owner, sweep, Fed}
use Rattle.calls.specs.Health.{is_lost, is_degraded, is_out, is_rebuilding}
use Rattle.calls.specs.Images.{disks_of, size, size_with}

-- ---- the rows: a number, and whether its condition holds

abbrev pub Row : Type 0
Row = ℕ × Bool

-- "not 16 bytes long, all calls; not good, all but format" (document 02, (d): "the record becomes 20 bytes, and refusal 1 goes by that
-- length")
abbrev pub bad_record : Bool → Row
bad_record bad = (1, bad)

-- "health lost"
abbrev pub lost : Record → Row
lost r = (2, is_lost r.health)

-- "a disk out" (document 02, (d): "Grow and advance still see degraded."; (g) of sweep: "3 also while rebuilding")
abbrev pub degraded : Record → Row
degraded r = (3, is_degraded r.health)

-- "m is not 0"
abbrev pub grown_already : Record → Row
grown_already r = (4, not (eqb r.new 0))

-- "m = 0 or t is the total"
unfoldable pub idle : Geometry → Bool
idle g = eqb g.new 0 || eqb g.moves (total_of g)

abbrev pub nothing_to_move : Record → Row
nothing_to_move r = (5, idle (geometry r))

-- "format: n, B or T outside limits; grow: m outside", and nothing else: "The divisor condition leaves refusal 6" (document 02, (a))
unfoldable pub formable : ℕ → ℕ → ℕ → Bool
formable n B T = old_good n && (block_good B && stripes_good T)

abbrev pub bad_geometry : Bool → Row
bad_geometry fits = (6, not fits)

-- "length not N × T × B (grow: new N)"
abbrev pub images : ℕ → ℕ → Row
images asked len = (7, not (eqb len asked))

-- "block number at or above capacity"; "S not below T"
abbrev pub past_end : ℕ → ℕ → Row
past_end x end = (8, not (ltb x end))

-- "lent block or scratch not B bytes"
abbrev pub block_length : Record → ℕ → Row
block_length r len = (9, not (eqb len r.block))

-- "out: d not below N, or out already; .. owner: d not below N" (document 02, (d): "10 for begin unless d is out and not rebuilding, for
-- continue unless rebuilding")
abbrev pub disk : Bool → Row
disk wrong = (10, wrong)

-- ---- the table, call by call

-- row 7, the images that a call takes: none; any, of a length; or those that stand, of a length
pub data Takes : Type 0 where
  nothing : Takes
  anything : ℕ → Takes
  those : ℕ → Takes

-- a call's part of the table: its rows from 2 to 6; the images it takes; and its rows from 8 on, by the capacity and the length of the
-- block or scratch that is lent
pub record Terms : Type 0 where
  pub before : List Row
  pub takes : Takes
  pub behind : ℕ → ℕ → List Row

abbrev asking : List Row → Takes → (ℕ → ℕ → List Row) → Terms
asking before takes behind = record { before = before; takes = takes; behind = behind }

abbrev none : ℕ → ℕ → List Row
none c room = []

unfoldable pub terms : Call → Record → Terms
terms (format n B T) r = asking (bad_geometry (formable n B T) ∷ []) (anything (n * (T * B))) none
terms (read b) r = asking (lost r ∷ []) (those (size r)) (λ c room. past_end b c ∷ block_length r room ∷ [])
terms (view b) r = asking (lost r ∷ []) (those (size r)) (λ c room. past_end b c ∷ block_length r room ∷ [])
terms (write b v) r = asking (lost r ∷ []) (those (size r)) (λ c room. past_end b c ∷ block_length r (length v) ∷ [])
terms (grow m) r =
    asking (lost r ∷ degraded r ∷ grown_already r ∷ bad_geometry (new_good m) ∷ []) (those (size_with r m)) none
terms (advance k) r = asking (lost r ∷ degraded r ∷ nothing_to_move r ∷ []) (those (size r)) none
terms (out d) r = asking (lost r ∷ []) nothing (λ c room. disk (not (ltb d (disks_of r)) || is_out r.health d) ∷ [])
terms (begin d) r = asking (lost r ∷ []) (those (size r)) (λ c room. disk (not (is_out r.health d)) ∷ [])
terms (continue k) r = asking (lost r ∷ []) (those (size r)) (λ c room. disk (not (is_rebuilding r.health)) ∷ [])
terms status r = asking [] nothing none
terms (locate b) r = asking [] nothing (λ c room. past_end b c ∷ [])
terms (owner S d) r = asking [] nothing (λ c room. past_end S r.stripes ∷ disk (not (ltb d (disks_of r))) ∷ [])
terms sweep r = asking (lost r ∷ degraded r ∷ []) (those (size r)) none

abbrev pub images_row : Takes → ℕ → List Row
images_row nothing len = []
images_row (anything asked) len = images asked len ∷ []
images_row (those asked) len = images asked len ∷ []

-- its rows from 2 on; c is the capacity, len the length of the images lent, room that of the block or scratch
unfoldable pub later_rows : Call → Record → ℕ → ℕ → ℕ → List Row
later_rows x r c len room = let t = terms x r in t.before ++ (images_row t.takes len ++ t.behind c room)

-- does a call look at what the record says? "all but format"
abbrev pub looks : Call → Bool
looks x = not (same_call x (format 0 0 0))

-- all its rows, the lowest number first: `short` says that the record is too short or too long, `bad` that it is not good
unfoldable pub table : Call → Bool → Bool → Record → ℕ → ℕ → ℕ → List Row
table x short bad r c len room = bad_record (cond (looks x) (short || bad) short) ∷ later_rows x r c len room

-- the number of the first row whose condition holds, or 0
abbrev pub word : List Row → ℕ
word [] = 0
word (x ∷ rows) = cond x.1 x.0 (word rows)

-- how the rows of many calls begin: 1, 2; 1, 2, 3; and 1, 2, 7
abbrev pub kept : Record → List Row
kept r = bad_record (not (good r)) ∷ lost r ∷ []

abbrev pub kept_whole : Record → List Row
kept_whole r = bad_record (not (good r)) ∷ lost r ∷ degraded r ∷ []

abbrev pub kept_lent : Record → ℕ → List Row
kept_lent r len = bad_record (not (good r)) ∷ lost r ∷ images (size r) len ∷ []

-- ---- the number that a call is given

-- on a record, with a capacity ..
unfoldable pub refusal : Record → ℕ → Fed → ℕ
refusal r c e = word (table e.call false (not (good r)) r c e.images e.room)

-- .. with the record's own ..
abbrev pub refusal_of : Record → Fed → ℕ
refusal_of r e = refusal r (capacity (geometry r)) e

-- .. and on a record's bytes
unfoldable pub rows_bytes : List ℕ → Fed → List Row
rows_bytes b e =
    let r = decode b in
    table e.call (not (eqb (length b) record_length)) (not (good_bytes b)) r (capacity (geometry r)) e.images e.room

unfoldable pub refusal_bytes : List ℕ → Fed → ℕ
refusal_bytes b e = word (rows_bytes b e)
