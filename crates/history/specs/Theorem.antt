-- DEMAND 3: "For every list of our calls .., refused ones included, in any order from an accepted format on, each given the record
-- and images left by the one before (an accepted growth adds new images behind), nothing else writing them meanwhile, and a disk
-- reported out holding any bytes, new ones before each call, until it is rebuilt or a new format is done: every answer and every
-- refusal is exactly that of document 01's flat list, zero at first, of what each block was last given; each move keeps its
-- stripe's parity value; and growth is over exactly when the moves reported since it began are T × n × m / (n + m) .. A second
-- disk out while the first is not rebuilt refuses all reads until a new format." (That number is the total, of which document 02, (a),
-- says: "The total becomes (T div (n × (n + m))) × n × n × m". Of a rebuild (d) says: "The disk may hold any bytes only in stripes not yet
-- rebuilt, and reads still follow the flat list.")
-- The statement is `Demand3`; after it stand `HandedOn`, `MayBeLent`, `FlatList`, `AlwaysFair`, `NothingFound`, `LastGiven`, `ZeroAtFirst`
-- and `SecondOut`. `demand3`, `handed-on`, `may-be-lent`, `flat_list`, `always-fair`, `nothing-found`, `last-given`, `zero-at-first` and
-- `second_out` of proofs/Theorem.antt prove them, and assume nothing.
use Rattle.std.specs.Prelude.{ℕ, suc, ◌+◌, ◌*◌, ◌<◌, ◌≡◌, true, false, cond, ◌||◌, ◌⊎◌, ◌↔◌, ◌≢◌, List, [], ◌∷◌, ◌++◌, map, length, get_or}
use Rattle.layout.specs.Layout.{total_of, capacity, layout}
use Rattle.blocks.specs.Block.{zeros}
use Rattle.state.specs.declared.types.Health.TheVariants.{Out, Lost, Rebuilding}
use Rattle.state.specs.declared.types.Record.{Record}
use Rattle.state.specs.Good.{geometry, good}
use Rattle.state.specs.Bytes.{decode, good_bytes, encode}
use Rattle.calls.specs.Call.{Call, same_call, format, read, view, write, grow, advance, out, begin, continue, status, locate, owner, sweep}
use Rattle.calls.specs.Call.{Event, on, Fed, feed, fed, Answer, refused, bytes, all_sound, accepted, count}
use Rattle.calls.specs.Health.{is_lost, absent}
use Rattle.calls.specs.Images.{disks_of, size, place_in, seen}
use Rattle.calls.specs.Table.{nothing, anything, those, idle, refusal}
use Rattle.calls.specs.Effect.{place_of, parity_after, called, called_bytes}
use Rattle.calls.specs.Sound.{Sound}
use Rattle.history.specs.Flat.{Flat, flat_step}
use Rattle.history.specs.Lent.{Form, as_bytes, as_record, Cabinet, takes, Lends, leaves, next}

-- "The moves of a growth are the sum of the counts that advance reported since that grow was accepted, no format and no further
-- grow accepted since": the sum after an accepted call that reported k, and after any call
unfoldable pub tallied : Call → ℕ → ℕ → ℕ
tallied c k sum = cond (same_call c (format 0 0 0) || same_call c (grow 0)) 0 (cond (same_call c (advance 0)) (sum + k) sum)

unfoldable pub tally : Call → Answer → ℕ → ℕ
tally c a sum = cond (accepted a) (tallied c (count a) sum) sum

-- ---- what is claimed of one call e: x is the form of the record, a the cabinet before the call, f the flat list before it, sum the moves
-- of the growth after it

pub record Claim {R : Type 0} (x : Form R) (e : Event) (a : Cabinet R) (f : Flat) (sum : ℕ) : Type 0 where
  -- "the number; the bytes that read fills in or view returns; the count of advance; the answers of status, locate and owner"; the count
  -- of continue, and what sweep answers, too
  pub answer : (leaves x e a).answer ≡ (flat_step (fed e) f).0
  pub filled : (b : ℕ) → e.call ≡ read b → accepted (leaves x e a).answer ≡ true → (leaves x e a).answer ≡ bytes (leaves x e a).room
  -- "as a part of the images, or, if its disk is out, as the lent scratch filled with it. Scratch is else untouched."
  pub shown : (b : ℕ) → e.call ≡ view b → accepted (leaves x e a).answer ≡ true →
      let r = x.decoded a.rec in
      let q = place_of r b in
      (absent r.health q.stripe q.disk ≡ true → (leaves x e a).answer ≡ bytes (leaves x e a).room)
      × (absent r.health q.stripe q.disk ≡ false
      → ((leaves x e a).answer ≡ bytes (place_in r e.images q.stripe q.disk)) × ((leaves x e a).room ≡ e.room))
  -- "and the fields of the record left"
  pub fields : (leaves x e a).state ≡ x.encoded (flat_step (fed e) f).1.numbers
  -- which is good, so that refusal 1 is never given
  pub good_left : x.is_good (leaves x e a).state ≡ true
  -- a refused call leaves the record, the images and the block or scratch as they were lent (`Demand1` of crate `calls`, said again)
  pub refused : accepted (leaves x e a).answer ≡ false
      → ((leaves x e a).state ≡ a.rec) × ((leaves x e a).images ≡ e.images) × ((leaves x e a).room ≡ e.room)
  -- "After a refused call the next is lent what stood before it"
  pub stays : accepted (leaves x e a).answer ≡ false → next x e a ≡ a
  -- "Each move that an advance makes leaves them the same, wherever the parity then stands": the one after the first i, in every stripe;
  -- after none stand the images lent, after the last of them those left
  pub parity : let r = x.decoded a.rec in
      (k i S : ℕ) → e.call ≡ advance k → accepted (leaves x e a).answer ≡ true → S < r.stripes
      → parity_after (suc i) r e.images S ≡ parity_after i r e.images S
  pub parity_first : let r = x.decoded a.rec in
      (S : ℕ) → parity_after 0 r e.images S ≡ place_in r e.images S ((layout (geometry r)).parity S)
  pub parity_last : let r = x.decoded a.rec in
      (k S : ℕ) → e.call ≡ advance k → accepted (leaves x e a).answer ≡ true
      → parity_after k r e.images S ≡ place_in r (leaves x e a).images S ((layout (geometry (x.decoded (leaves x e a).state))).parity S)
  -- "The growth is over, so that 5's condition holds, exactly when the sum is the total."
  pub over : let r = x.decoded (leaves x e a).state in r.new ≢ 0 → (idle (geometry r) ≡ true) ↔ (sum ≡ total_of (geometry r))
  -- "From a format on, unless health is lost, all stripes are sound, the out disk taken as the xor of the others."
  pub sound : let r = x.decoded (leaves x e a).state in
      is_lost r.health ≡ false → (S : ℕ) → S < r.stripes → Sound r (next x e a).img S
  -- what stands after a call is as long as the record left says: it may be lent to the next one (`FreeToLend.what_stands`)
  pub long : length (next x e a).img ≡ size (x.decoded (leaves x e a).state)
  -- "Our service bench reads drawers from a stopped line by the published layout": the place where Layout has block b, seen through a disk
  -- that is out, holds the flat list's block b (where health is lost there is nothing to say); and "capacity is that list's length"
  pub capacity_is : capacity (geometry (x.decoded (leaves x e a).state)) ≡ length (flat_step (fed e) f).1.blocks
  pub bench : let r = x.decoded (leaves x e a).state in
      is_lost r.health ≡ false → (b : ℕ) → b < capacity (geometry r) →
      let q = ((layout (geometry r)).place b).block in
      seen r (next x e a).img q.stripe q.disk ≡ get_or (flat_step (fed e) f).1.blocks b []

-- ---- and of every call of a list, as long as each is lent what it may be

unfoldable pub Claims : {R : Type 0} → Form R → List Event → Cabinet R → Flat → ℕ → Type 0
Claims x [] a f sum = Unit
Claims x (e ∷ es) a f sum =
    let after = tally e.call (leaves x e a).answer sum in
    Lends e f.numbers a.img → Claim x e a f after × Claims x es (next x e a) (flat_step (fed e) f).1 after

-- "The list opens with an accepted format, lent any record and images. Behind it come any of the .. calls above, with any
-- arguments, refused or not." (What the flat list and the sum were before it does not matter.)
abbrev pub opening : ℕ → ℕ → ℕ → List ℕ → List ℕ → Event
opening n B T img room = on (format n B T) img room

abbrev pub Demand3On : {R : Type 0} → Form R → Type 0
Demand3On {R} x =
    (a : Cabinet R) (f : Flat) (sum n B T : ℕ) (img room : List ℕ) → accepted (leaves x (opening n B T img room) a).answer ≡ true
    → (es : List Event) → Claims x (opening n B T img room ∷ es) a f sum

-- of calls on a record's bytes, as the line controller makes them, and of calls on a record, which follows by `OnBytes` of crate `calls`
abbrev pub Demand3 : Type 0
Demand3 = Demand3On as_bytes × Demand3On as_record

-- ---- what is handed on from call to call, in bare form

-- "Each gets the record, and where it takes images those too, as the calls before left them."
pub record HandsOn {R : Type 0} (x : Form R) : Type 0 where
  pub record_on : (e : Event) (a : Cabinet R) → (next x e a).rec ≡ (leaves x e a).state
  pub images_on : (e : Event) (a : Cabinet R) → accepted (leaves x e a).answer ≡ true
      → takes e.call (x.decoded a.rec) ≢ nothing → (next x e a).img ≡ (leaves x e a).images
  -- a call that takes none, or is refused, leaves those that stood
  pub none_taken : (e : Event) (a : Cabinet R) → takes e.call (x.decoded a.rec) ≡ nothing → (next x e a).img ≡ a.img
  pub refused : (e : Event) (a : Cabinet R) → accepted (leaves x e a).answer ≡ false → (next x e a).img ≡ a.img

pub record HandedOn : Type 0 where
  -- a call on a record's bytes, and on a record
  pub on_bytes : (e : Event) (a : Cabinet (List ℕ)) → leaves as_bytes e a ≡ called_bytes e a.rec
  pub on_record : (e : Event) (a : Cabinet Record) → leaves as_record e a ≡ called e a.rec
  pub as-bytes : (b : List ℕ) (r : Record)
      → (as_bytes.decoded b ≡ decode b) × (as_bytes.encoded r ≡ encode r) × (as_bytes.is_good b ≡ good_bytes b)
  pub as-record : (r : Record) → (as_record.decoded r ≡ r) × (as_record.encoded r ≡ r) × (as_record.is_good r ≡ good r)
  -- what stands after it
  pub bytes_on : HandsOn as_bytes
  pub records_on : HandsOn as_record
  -- which images a call takes: any of a length; those that stand, of a grow with m disks more; or none
  pub of_format : (r : Record) (n B T : ℕ) → takes (format n B T) r ≡ anything (n * (T * B))
  pub of-grow : (r : Record) (m : ℕ) → takes (grow m) r ≡ those ((r.old + m) * (r.stripes * r.block))
  pub of_others : (r : Record) (b k d : ℕ) (v : List ℕ) → let all = those ((r.old + r.new) * (r.stripes * r.block)) in
      (takes (read b) r ≡ all) × (takes (view b) r ≡ all) × (takes (write b v) r ≡ all) × (takes (advance k) r ≡ all)
      × (takes (begin d) r ≡ all) × (takes (continue k) r ≡ all) × (takes sweep r ≡ all)
  pub of_none : (r : Record) (b S d : ℕ)
      → (takes (out d) r ≡ nothing) × (takes status r ≡ nothing) × (takes (locate b) r ≡ nothing) × (takes (owner S d) r ≡ nothing)

-- ---- what the premise leaves a lender free to do: e is the call, r the numbers that it is lent images by, left the images that stand

pub record FreeToLend (e : Event) (r : Record) (left : List ℕ) : Type 0 where
  -- what stands, with or without bytes after it
  pub what_stands : (behind : List ℕ) → length left ≡ size r → e.images ≡ left ++ behind → Lends e r left
  -- "Format may be lent any images instead"
  pub any_format : (n B T : ℕ) → e.call ≡ format n B T → Lends e r left
  -- "any call that is lent images may be lent a length that refusal 7 turns away": one that it does not ask for, whichever number the
  -- call is then given; and so wherever that is 7
  pub any_length : (len : ℕ) → takes e.call r ≡ those len → length e.images ≢ len → Lends e r left
  pub turned-away : (c : ℕ) → refusal r c (fed e) ≡ 7 → Lends e r left
  -- "disk d may hold any bytes"
  pub any_out : (o : ℕ) → r.health ≡ Out o
      → ((S d : ℕ) → S < r.stripes → d < disks_of r → d ≢ o → place_in r e.images S d ≡ place_in r left S d) → Lends e r left
  -- "The disk may hold any bytes only in stripes not yet rebuilt"
  pub any_not_rebuilt : (o c : ℕ) → r.health ≡ Rebuilding o c
      → ((S d : ℕ) → S < r.stripes → d < disks_of r → (d ≡ o → S < c) → place_in r e.images S d ≡ place_in r left S d) → Lends e r left
  -- and where two disks are out, any disk may
  pub any_lost : r.health ≡ Lost → Lends e r left
  -- calls that take no images do not look at any
  pub no_images : takes e.call r ≡ nothing → Lends e r left

abbrev pub MayBeLent : Type 0
MayBeLent = (e : Event) (r : Record) (left : List ℕ) → FreeToLend e r left

-- ---- in short: the answers of a fair history, and the record after each call, are those of the flat list

unfoldable pub Fair : {R : Type 0} → Form R → List Event → Cabinet R → Flat → Type 0
Fair x [] a f = Unit
Fair x (e ∷ es) a f = Lends e f.numbers a.img × Fair x es (next x e a) (flat_step (fed e) f).1

unfoldable pub outcomes : {R : Type 0} → Form R → List Event → Cabinet R → List (Answer × R)
outcomes x [] a = []
outcomes x (e ∷ es) a = ((leaves x e a).answer, (leaves x e a).state) ∷ outcomes x es (next x e a)

unfoldable pub flat_outcomes : {R : Type 0} → Form R → List Fed → Flat → List (Answer × R)
flat_outcomes x [] f = []
flat_outcomes x (e ∷ es) f = let y = flat_step e f in (y.0, x.encoded y.1.numbers) ∷ flat_outcomes x es y.1

abbrev pub FlatListOn : {R : Type 0} → Form R → Type 0
FlatListOn {R} x =
    (a : Cabinet R) (f : Flat) (n B T : ℕ) (img room : List ℕ) → accepted (leaves x (opening n B T img room) a).answer ≡ true
    → (es : List Event) → Fair x (opening n B T img room ∷ es) a f
    → outcomes x (opening n B T img room ∷ es) a ≡ flat_outcomes x (map fed (opening n B T img room ∷ es)) f

abbrev pub FlatList : Type 0
FlatList = FlatListOn as_bytes × FlatListOn as_record

-- ---- a controller that lends each call what stands, with any bytes after it, is fair: any list of calls has such a history

unfoldable pub LentAsLeft : {R : Type 0} → Form R → List Event → Cabinet R → Type 0
LentAsLeft x [] a = Unit
LentAsLeft x (e ∷ es) a = ((behind : List ℕ) × (e.images ≡ a.img ++ behind)) × LentAsLeft x es (next x e a)

abbrev pub AlwaysFairOn : {R : Type 0} → Form R → Type 0
AlwaysFairOn {R} x =
    (a : Cabinet R) (f : Flat) (n B T : ℕ) (img room : List ℕ) → accepted (leaves x (opening n B T img room) a).answer ≡ true
    → (es : List Event) → LentAsLeft x es (next x (opening n B T img room) a) → Fair x (opening n B T img room ∷ es) a f

abbrev pub AlwaysFair : Type 0
AlwaysFair = AlwaysFairOn as_bytes × AlwaysFairOn as_record

-- ---- from a format on a sweep never finds anything: every one that is let through answers none, and all T stripes read

unfoldable pub FindsNothing : {R : Type 0} → Form R → List Event → Cabinet R → Type 0
FindsNothing x [] a = Unit
FindsNothing x (e ∷ es) a =
    (e.call ≡ sweep → accepted (leaves x e a).answer ≡ true → (leaves x e a).answer ≡ all_sound (x.decoded a.rec).stripes)
    × FindsNothing x es (next x e a)

abbrev pub NothingFoundOn : {R : Type 0} → Form R → Type 0
NothingFoundOn {R} x =
    (a : Cabinet R) (f : Flat) (n B T : ℕ) (img room : List ℕ) → accepted (leaves x (opening n B T img room) a).answer ≡ true
    → (es : List Event) → Fair x (opening n B T img room ∷ es) a f → FindsNothing x (opening n B T img room ∷ es) a

abbrev pub NothingFound : Type 0
NothingFound = NothingFoundOn as_bytes × NothingFoundOn as_record

-- ---- in the mills' words: the flat list is, "zero at first, of what each block was last given". (This and the rest is
-- said of the flat list; `ReadBack` says it of the array.)

-- no call of a list gives block b anything: no format and no write of b is accepted
unfoldable pub NotGiven : ℕ → List Fed → Flat → Type 0
NotGiven b [] f = Unit
NotGiven b (e ∷ es) f =
    let y = flat_step e f in
    ((n B T : ℕ) → e.call ≡ format n B T → accepted y.0 ≡ false)
    × ((v : List ℕ) → e.call ≡ write b v → accepted y.0 ≡ false)
    × NotGiven b es y.1

-- the flat list after a list of calls
unfoldable pub behind : List Fed → Flat → Flat
behind [] f = f
behind (e ∷ es) f = behind es (flat_step e f).1

-- read and view of block b give v
unfoldable pub Gives : ℕ → List ℕ → Flat → Type 0
Gives b v f = (e : Fed) → (e.call ≡ read b) ⊎ (e.call ≡ view b) → accepted (flat_step e f).0 ≡ true → (flat_step e f).0 ≡ bytes v

abbrev pub LastGiven : Type 0
LastGiven =
    (f : Flat) (b : ℕ) (v : List ℕ) (len room : ℕ) →
    let y = flat_step (feed (write b v) len room) f in
    accepted y.0 ≡ true → (es : List Fed) → NotGiven b es y.1 → Gives b v (behind es y.1)

-- a block that was given nothing since the format reads as zeroes; so does one that is new, from the zone's end on that brought it
abbrev pub ZeroAtFirst : Type 0
ZeroAtFirst =
    (f : Flat) (n B T len room : ℕ) →
    let y = flat_step (feed (format n B T) len room) f in
    accepted y.0 ≡ true → (b : ℕ) (es : List Fed) → NotGiven b es y.1 → Gives b (zeros B) (behind es y.1)

-- ---- "A second disk out while the first is not rebuilt refuses all reads until a new format."

-- every read and view of a list is refused, as lost, until a format is accepted
unfoldable pub NoReads : List Fed → Flat → Type 0
NoReads [] f = Unit
NoReads (e ∷ es) f =
    let y = flat_step e f in
    ((b : ℕ) → e.call ≡ read b → y.0 ≡ refused 2)
    × ((b : ℕ) → e.call ≡ view b → y.0 ≡ refused 2)
    × (((n B T : ℕ) → e.call ≡ format n B T → accepted y.0 ≡ false) → NoReads es y.1)

-- the first is out, or being rebuilt and so not rebuilt yet
pub record SecondOut : Type 0 where
  pub while_out : (f : Flat) (first second len room : ℕ) →
      let y = flat_step (feed (out second) len room) f in
      good f.numbers ≡ true → f.numbers.health ≡ Out first → accepted y.0 ≡ true → (es : List Fed) → NoReads es y.1
  pub while_rebuilding : (f : Flat) (first done second len room : ℕ) →
      let y = flat_step (feed (out second) len room) f in
      good f.numbers ≡ true → f.numbers.health ≡ Rebuilding first done → second ≢ first → accepted y.0 ≡ true
      → (es : List Fed) → NoReads es y.1
