-- What a call of a history may be lent, and what stands after it. Document 01: "Each gets the record, and where it takes images
-- those too, as the calls before left them. Format may be lent any images instead; grow is lent those left with any bytes behind
-- them; and any call that is lent images may be lent a length that refusal 7 turns away. After a refused call the next is lent
-- what stood before it. Data, block and scratch are each call's own, with any bytes."
use Rattle.std.specs.Prelude.{ℕ, ◌<◌, ◌≡◌, Bool, true, false, List, length}
use Rattle.state.specs.declared.types.Record.{Record}
use Rattle.state.specs.Good.{good}
use Rattle.state.specs.Bytes.{decode, good_bytes, encode}
use Rattle.calls.specs.Call.{Call, Event, accepted}
use Rattle.calls.specs.Health.{absent}
use Rattle.calls.specs.Images.{disks_of, place_in}
use Rattle.calls.specs.Table.{Takes, nothing, anything, those, terms}
use Rattle.calls.specs.Effect.{Left, called, called_bytes}

-- ---- the record in one of its two forms: what a call on it leaves, which record it is, how a record is written in it, when it is good

pub record Form (R : Type 0) : Type 0 where
  pub call : Event → R → Left R
  pub decoded : R → Record
  pub encoded : Record → R
  pub is_good : R → Bool

-- "exported .. with the record as .. bytes"
abbrev pub as_bytes : Form (List ℕ)
as_bytes = record { call = called_bytes; decoded = decode; encoded = encode; is_good = good_bytes }

-- "Inside the library the record is lent"
abbrev pub as_record : Form Record
as_record = record { call = called; decoded = λ r. r; encoded = λ r. r; is_good = good }

-- what the line controller keeps from call to call: the record, in either form, and the images
pub record Cabinet (R : Type 0) : Type 0 where
  pub rec : R
  pub img : List ℕ

-- ---- what may be lent

-- the images that a call takes: row 7 of its part of the table
abbrev pub takes : Call → Record → Takes
takes c r = (terms c r).takes

-- every place of `left` stands in `lent`, but those where a disk counts as out: "once out (d) is accepted .., disk d may hold any bytes,
-- new ones before each call"; once it is being rebuilt "only in stripes not yet rebuilt" (document 02, (d)); where health is lost, any
-- disk may: no call looks at them
unfoldable pub Keeps : Record → List ℕ → List ℕ → Type 0
Keeps r left lent = (S d : ℕ) → S < r.stripes → d < disks_of r → absent r.health S d ≡ false → place_in r lent S d ≡ place_in r left S d

-- images of the length asked for are those left, with any bytes after them; images of another length are any
abbrev pub Lent : Takes → Record → List ℕ → List ℕ → Type 0
Lent nothing r left lent = Unit
Lent (anything len) r left lent = Unit
Lent (those len) r left lent = length lent ≡ len → Keeps r left lent

unfoldable pub Lends : Event → Record → List ℕ → Type 0
Lends e r left = Lent (takes e.call r) r left e.images

-- ---- one call: it is lent the record of the cabinet; what it leaves, and what then stands in the cabinet

abbrev pub leaves : {R : Type 0} → Form R → Event → Cabinet R → Left R
leaves x e a = x.call e a.rec

abbrev pub images_after : Bool → Takes → List ℕ → List ℕ → List ℕ
images_after false t before left = before
images_after true nothing before left = before
images_after true (anything len) before left = left
images_after true (those len) before left = left

unfoldable pub next : {R : Type 0} → Form R → Event → Cabinet R → Cabinet R
next x e a =
    let y = leaves x e a in
    record { rec = y.state; img = images_after (accepted y.answer) (takes e.call (x.decoded a.rec)) a.img y.images }
