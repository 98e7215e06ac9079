-- The thirteen calls, what each is lent beside the record, and the answers.
use Rattle.std.specs.Prelude.{ℕ, Bool, true, false, cond, List, [], ◌∷◌, eqb, length, replicate}
use Rattle.layout.specs.declared.Role.TheVariants.{Data, Parity, Blank}
use Rattle.layout.specs.declared.Role.{Role}
use Rattle.layout.specs.declared.Standing.{Standing}
use Rattle.state.specs.declared.types.Health.{Health}
use Rattle.state.specs.Bytes.{health_byte, disk_byte, stripes_done}

-- a call with the numbers that it is given, and a write's data, which the flat list is fed too
pub data Call : Type 0 where
  format : (n B T : ℕ) → Call
  read : (b : ℕ) → Call
  view : (b : ℕ) → Call
  write : (b : ℕ) → List ℕ → Call
  grow : (m : ℕ) → Call
  advance : (k : ℕ) → Call
  out : (d : ℕ) → Call
  begin : (d : ℕ) → Call
  continue : (k : ℕ) → Call
  status : Call
  locate : (b : ℕ) → Call
  owner : (S d : ℕ) → Call
  sweep : Call

-- which call it is, whatever it is given: its place in document 01's list of calls (begin and continue stand where rebuild stood, those
-- that document 02 adds after all, so that no column moves for them), and its column in the tables over them
abbrev pub column : Call → ℕ
column (format n B T) = 0
column (read b) = 1
column (view b) = 2
column (write b v) = 3
column (grow m) = 4
column (advance k) = 5
column (out d) = 6
column (begin d) = 7
column (continue k) = 8
column status = 9
column (locate b) = 10
column (owner S d) = 11
column sweep = 12

-- the same call, whatever each is given?
abbrev pub same_call : Call → Call → Bool
same_call x y = eqb (column x) (column y)

-- a call with what it is lent: the images, and as `room` the block that read fills or the scratch of view (calls that take none
-- do not look at them)
pub record Event : Type 0 where
  pub call : Call
  pub images : List ℕ
  pub room : List ℕ

-- a call lent these (`[]` where it takes none). Events are made by `on` and `feed` alone: a field more is one line here
abbrev pub on : Call → List ℕ → List ℕ → Event
on c images room = record { call = c; images = images; room = room }

-- what of that the table and the flat list look at: the call and the lengths lent, and no byte of the images
pub record Fed : Type 0 where
  pub call : Call
  pub images : ℕ
  pub room : ℕ

abbrev pub feed : Call → ℕ → ℕ → Fed
feed c images room = record { call = c; images = images; room = room }

abbrev pub fed : Event → Fed
fed e = feed e.call (length e.images) (length e.room)

-- an answer: a refusal's number, or what the call reports. (A sweep has two, each with the stripes read: no stripe can stand beside none.)
pub data Answer : Type 0 where
  refused : ℕ → Answer
  done : Answer
  bytes : List ℕ → Answer
  made : ℕ → Answer
  all_sound : (read : ℕ) → Answer
  unsound_at : (stripe read : ℕ) → Answer
  figures : (capacity moves total : ℕ) → Health → Answer
  placed : Standing → Answer
  owned : Role → Answer

abbrev pub accepted : Answer → Bool
accepted (refused k) = false
accepted done = true
accepted (bytes v) = true
accepted (made k) = true
accepted (all_sound x) = true
accepted (unsound_at S x) = true
accepted (figures c t total h) = true
accepted (placed x) = true
accepted (owned o) = true

-- ---- an answer in numbers: "0 is done. A refusal returns zeros beside its number, an empty view"

abbrev pub number : Answer → ℕ
number (refused k) = k
number done = 0
number (bytes v) = 0
number (made k) = 0
number (all_sound x) = 0
number (unsound_at S x) = 0
number (figures c t total h) = 0
number (placed x) = 0
number (owned o) = 0

-- the bytes that view returns
abbrev pub shown : Answer → List ℕ
shown (refused k) = []
shown done = []
shown (bytes v) = v
shown (made k) = []
shown (all_sound x) = []
shown (unsound_at S x) = []
shown (figures c t total h) = []
shown (placed x) = []
shown (owned o) = []

-- the count of advance and continue
abbrev pub count : Answer → ℕ
count (refused k) = 0
count done = 0
count (bytes v) = 0
count (made k) = k
count (all_sound x) = 0
count (unsound_at S x) = 0
count (figures c t total h) = 0
count (placed x) = 0
count (owned o) = 0

-- a place's owner: blank 0, parity 1, data 2, and the block
abbrev pub role_number : Role → ℕ
role_number Blank = 0
role_number Parity = 1
role_number (Data b) = 2

abbrev pub role_block : Role → ℕ
role_block Blank = 0
role_block Parity = 0
role_block (Data b) = b

-- the numbers beside the first, of a call that has w of them: the count of advance and continue; sweep's 1 and the first unsound stripe, or
-- 0 and 0, and the stripes read; status's capacity, t, total, health, the disk that is out or being rebuilt and the stripes done; locate's
-- stripe and disk, the disk of the parity in that stripe, and 1 if a move carried the block or else 0; owner's role and block
abbrev pub beside : ℕ → Answer → List ℕ
beside w (refused k) = replicate w 0
beside w done = []
beside w (bytes v) = []
beside w (made k) = k ∷ []
beside w (all_sound x) = 0 ∷ 0 ∷ x ∷ []
beside w (unsound_at S x) = 1 ∷ S ∷ x ∷ []
beside w (figures c t total h) = c ∷ t ∷ total ∷ health_byte h ∷ disk_byte h ∷ stripes_done h ∷ []
beside w (placed x) = x.block.stripe ∷ x.block.disk ∷ x.parity.disk ∷ cond x.moved 1 0 ∷ []
beside w (owned o) = role_number o ∷ role_block o ∷ []
