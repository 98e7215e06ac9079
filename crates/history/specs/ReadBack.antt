-- In the mills' words, of the array itself: a block reads as it was last written, as zeroes before that, and once a second disk is out
-- nothing is read until a new format. (Of the flat list `LastGiven`, `ZeroAtFirst` and `SecondOut` of Theorem say the same.)
-- The statements are `ReadsLastGiven`, `ReadsZeroAtFirst` and `ReadsRefused`; `reads-last-given`, `reads-zero-at-first` and `reads-refused`
-- of proofs/ReadBack.antt prove them, and assume nothing.
use Rattle.std.specs.Prelude.{ℕ, ◌≡◌, true, false, ◌≢◌, List, [], ◌∷◌}
use Rattle.blocks.specs.Block.{zeros}
use Rattle.state.specs.declared.types.Health.TheVariants.{Out, Rebuilding}
use Rattle.calls.specs.Call.{format, read, view, write, out, Event, refused, bytes, accepted}
use Rattle.history.specs.Flat.{Flat}
use Rattle.history.specs.Lent.{Form, as_bytes, as_record, Cabinet, leaves, next}
use Rattle.history.specs.Theorem.{opening, Fair}

-- P of each call of a list, with the calls after it and the cabinet before it
unfoldable pub Each : {R : Type 0} → Form R → (Event → List Event → Cabinet R → Type 0) → List Event → Cabinet R → Type 0
Each x P [] a = Unit
Each x P (e ∷ es) a = P e es a × Each x P es (next x e a)

-- of each call of every fair history from an accepted format on, that format too
abbrev pub InFair : {R : Type 0} → Form R → (Event → List Event → Cabinet R → Type 0) → Type 0
InFair {R} x P =
    (a : Cabinet R) (f : Flat) (n B T : ℕ) (img room : List ℕ) → accepted (leaves x (opening n B T img room) a).answer ≡ true
    → (es : List Event) → Fair x (opening n B T img room ∷ es) a f → Each x P (opening n B T img room ∷ es) a

-- ---- "zero at first, of what each block was last given"

-- until block b is given something else, by a format or a write of b that is accepted, each read and view of b that is let through gives v
unfoldable pub ReadsAs : {R : Type 0} → Form R → ℕ → List ℕ → List Event → Cabinet R → Type 0
ReadsAs x b v [] a = Unit
ReadsAs x b v (e ∷ es) a =
    let y = leaves x e a in
    (e.call ≡ read b → accepted y.answer ≡ true → (y.answer ≡ bytes v) × (y.room ≡ v))
    × (e.call ≡ view b → accepted y.answer ≡ true → y.answer ≡ bytes v)
    × (((n B T : ℕ) → e.call ≡ format n B T → accepted y.answer ≡ false)
    → ((w : List ℕ) → e.call ≡ write b w → accepted y.answer ≡ false) → ReadsAs x b v es (next x e a))

-- after every accepted write its block reads as the data
abbrev pub KeepsGiven : {R : Type 0} → Form R → Event → List Event → Cabinet R → Type 0
KeepsGiven x e es a =
    (b : ℕ) (v : List ℕ) → e.call ≡ write b v → accepted (leaves x e a).answer ≡ true → ReadsAs x b v es (next x e a)

abbrev pub ReadsLastGiven : Type 0
ReadsLastGiven = InFair as_bytes (KeepsGiven as_bytes) × InFair as_record (KeepsGiven as_record)

-- after every accepted format every block, those too that a growth brings later, reads as zeroes
abbrev pub ZeroFromFormat : {R : Type 0} → Form R → Event → List Event → Cabinet R → Type 0
ZeroFromFormat x e es a =
    (n B T b : ℕ) → e.call ≡ format n B T → accepted (leaves x e a).answer ≡ true → ReadsAs x b (zeros B) es (next x e a)

abbrev pub ReadsZeroAtFirst : Type 0
ReadsZeroAtFirst = InFair as_bytes (ZeroFromFormat as_bytes) × InFair as_record (ZeroFromFormat as_record)

-- ---- "A second disk out while the first is not rebuilt refuses all reads until a new format."

-- every read and view is refused, as lost, until a format is accepted
unfoldable pub NoReadsOn : {R : Type 0} → Form R → List Event → Cabinet R → Type 0
NoReadsOn x [] a = Unit
NoReadsOn x (e ∷ es) a =
    let y = leaves x e a in
    ((b : ℕ) → e.call ≡ read b → y.answer ≡ refused 2)
    × ((b : ℕ) → e.call ≡ view b → y.answer ≡ refused 2)
    × (((n B T : ℕ) → e.call ≡ format n B T → accepted y.answer ≡ false) → NoReadsOn x es (next x e a))

-- after every accepted out of a second disk; the first is out, or being rebuilt and so not rebuilt yet
abbrev pub LostFromSecond : {R : Type 0} → Form R → Event → List Event → Cabinet R → Type 0
LostFromSecond x e es a =
    let h = (x.decoded a.rec).health in
    ((first second : ℕ) → e.call ≡ out second → h ≡ Out first → accepted (leaves x e a).answer ≡ true → NoReadsOn x es (next x e a))
    × ((first done second : ℕ) → e.call ≡ out second → h ≡ Rebuilding first done → second ≢ first
    → accepted (leaves x e a).answer ≡ true → NoReadsOn x es (next x e a))

abbrev pub ReadsRefused : Type 0
ReadsRefused = InFair as_bytes (LostFromSecond as_bytes) × InFair as_record (LostFromSecond as_record)
