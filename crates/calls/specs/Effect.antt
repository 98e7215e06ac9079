-- What each call answers and stores, and so what it leaves. Document 01, Calls; of begin and continue document 02, (d), of locate (f), of
-- sweep (g).
use Rattle.std.specs.Prelude.{ℕ, zero, suc, ◌+◌, ◌-◌, min, true, false, cond, List, [], ◌∷◌, ◌++◌}
use Rattle.layout.specs.declared.Place.{Place}
use Rattle.layout.specs.declared.Standing.{Standing}
use Rattle.layout.specs.Layout.{total_of, capacity, layout, next_stripe, next_from, next_to}
use Rattle.blocks.specs.Block.{block_at, zeros}
use Rattle.blocks.specs.Xor.{xor_b}
use Rattle.blocks.specs.Stripe.{offset}
use Rattle.state.specs.declared.types.Health.TheVariants.{Rebuilding}
use Rattle.state.specs.declared.types.Record.{Record}
use Rattle.state.specs.Good.{geometry}
use Rattle.state.specs.Bytes.{decode, disk_byte, stripes_done, encode}
use Rattle.calls.specs.Call.{Call, format, read, view, write, grow, advance, out, begin, continue, status, locate, owner, sweep}
use Rattle.calls.specs.Call.{Event, fed, Answer, refused, done, bytes, made, all_sound, unsound_at, figures, placed, owned}
use Rattle.state.specs.Update.{formatted, grown_by, with_moves, with_health}
use Rattle.calls.specs.Health.{absent, after_out, rebuilt_to}
use Rattle.calls.specs.Images.{place_in, others_in, seen, Store, block, header, stored_in, recorded, unless, fill_disk, zero_disks}
use Rattle.calls.specs.Sound.{unsound_stripes}
use Rattle.calls.specs.Table.{idle, refusal_of, refusal_bytes}

-- ---- where block b stands. Document 02, (f): "The place rule, and with it locate, now answers block place, parity place and whether a
-- move now done, of any growth, carried the block itself. Read, view and write use this wider answer."

abbrev pub standing : Record → ℕ → Standing
standing r b = (layout (geometry r)).place b

abbrev pub place_of : Record → ℕ → Place
place_of r b = (standing r b).block

abbrev pub parity_of : Record → ℕ → Place
parity_of r b = (standing r b).parity

-- ---- read and view

-- what is seen at the block's place
abbrev pub block_of : Record → List ℕ → ℕ → List ℕ
block_of r img b = seen r img (place_of r b).stripe (place_of r b).disk

-- "**View**: returns the block as a part of the images, or, if its disk is out, as the lent scratch filled with it. Scratch is
-- else untouched."
pub data View : Type 0 where
  part : (at len : ℕ) → View
  scratch : View

unfoldable pub view_of : Record → ℕ → View
view_of r b =
    let q = place_of r b in
    cond (absent r.health q.stripe q.disk) scratch (part (offset r.block r.stripes q.stripe q.disk) r.block)

unfoldable pub scratch_left : Record → List ℕ → ℕ → List ℕ → List ℕ
scratch_left r img b room =
    let q = place_of r b in
    cond (absent r.health q.stripe q.disk) (others_in r img q.stripe q.disk) room

abbrev pub viewed : View → List ℕ → List ℕ → List ℕ
viewed (part at len) img room = block_at img at len
viewed scratch img room = room

-- ---- write: "the data place takes the data, the parity place its old value xor old block xor data; either is skipped if its
-- disk is out". The parity first, so that the old block is read in its place.

unfoldable pub write_stores : Record → List ℕ → ℕ → List ℕ → List Store
write_stores r img b v =
    let S = (place_of r b).stripe in
    let d = (place_of r b).disk in
    let p = (parity_of r b).disk in
    unless (absent r.health S p) (block S p (xor_b (xor_b (seen r img S p) (seen r img S d)) v))
    ++ unless (absent r.health S d) (block S d v)

-- ---- advance

-- "A move copies the block to its new place, then zeroes the place it left"; then the record with t raised
unfoldable pub move_stores : Record → List ℕ → List Store
move_stores r img =
    let g = geometry r in
    block (next_stripe g) (next_to g) (place_in r img (next_stripe g) (next_from g))
    ∷ block (next_stripe g) (next_from g) (zeros r.block)
    ∷ header (with_moves r (suc r.moves))
    ∷ []

-- "makes moves in order until k are made or none is left", each on the images as they are then
unfoldable pub advance_stores : ℕ → Record → List ℕ → List Store
advance_stores zero r img = []
advance_stores (suc k) r img =
    elim (idle (geometry r)) [
      | true ↦ []
      | false ↦ let ps = move_stores r img in ps ++ advance_stores k (recorded ps r) (stored_in r ps img)
    ]

-- a stripe's parity value after the first i moves: "the bytes at the place where Layout, with the moves done so far, has its
-- parity" (the stores of more moves begin with those of i: `InOrder` of Theorem)
unfoldable pub parity_after : ℕ → Record → List ℕ → ℕ → List ℕ
parity_after i r img S =
    let ps = advance_stores i r img in
    place_in r (stored_in r ps img) S ((layout (geometry (recorded ps r))).parity S)

-- ---- continue

-- "until k are done or none is left": how many stripes it makes
abbrev pub stripes_made : ℕ → Record → ℕ
stripes_made k r = min k (r.stripes - stripes_done r.health)

-- "does stripes in rising order": the disk in each as the xor of the others; then the record, with as many more done (with k = 0 the one
-- that was lent)
unfoldable pub continue_stores : ℕ → Record → List ℕ → List Store
continue_stores k r img =
    let d = disk_byte r.health in
    let first = stripes_done r.health in
    let more = stripes_made k r in
    fill_disk first more d (λ S. others_in r img S d) ++ header (with_health r (rebuilt_to r.stripes d (first + more))) ∷ []

-- ---- sweep

-- of T stripes, and the list of those that are unsound: "the stripe is the head of the list of all unsound stripes, or none if that list is
-- empty"; "the stripes read (its number plus 1, or T where there is none)"
abbrev pub swept_to : ℕ → List ℕ → Answer
swept_to T [] = all_sound T
swept_to T (S ∷ more) = unsound_at S (S + 1)

-- ---- what a call does: it tells something and leaves everything as it was lent; or it answers bytes and fills the lent block or scratch;
-- or it makes stores, in order, into images of `shape`'s stripes and block length

pub data Effect : Type 0 where
  tells : Answer → Effect
  fills : (shown room : List ℕ) → Effect
  stores : Answer → (shape : Record) → List Store → Effect

unfoldable pub effect : Call → Record → Event → Effect
-- "zeroes the images; record whole, m = t = 0"
effect (format n B T) r e = stores done (formatted n B T) (zero_disks B T 0 n ++ header (formatted n B T) ∷ [])
-- "fills a lent block"
effect (read b) r e = fills (block_of r e.images b) (block_of r e.images b)
effect (view b) r e =
    let room = scratch_left r e.images b e.room in
    fills (viewed (view_of r b) e.images room) room
effect (write b v) r e = stores done r (write_stores r e.images b v)
-- "given images of n + m disks, zeroes those behind the first n; sets m"
effect (grow m) r e = stores done r (zero_disks r.block r.stripes r.old m ++ header (grown_by r m) ∷ [])
-- "reports how many, which is t's rise": read off the record that the stores leave
effect (advance k) r e = let ps = advance_stores k r e.images in stores (made ((recorded ps r).moves - r.moves)) r ps
effect (out d) r e = stores done r (header (with_health r (after_out r.health d)) ∷ [])
-- "begin (d), which changes the record only"
effect (begin d) r e = stores done r (header (with_health r (Rebuilding d 0)) ∷ [])
-- "and reports how many": a number of its own, as at T the count is gone from the record left
effect (continue k) r e = stores (made (stripes_made k r)) r (continue_stores k r e.images)
-- "capacity, t, total, health"
effect status r e = tells (figures (capacity (geometry r)) r.moves (total_of (geometry r)) r.health)
-- "the stripe and disk of block b", its parity's, and whether a move carried it
effect (locate b) r e = tells (placed (standing r b))
-- "the block number there, or parity, or blank"
effect (owner S d) r e = tells (owned ((layout (geometry r)).owner S d))
-- "gives the stripe and the stripes read"
effect sweep r e = tells (swept_to r.stripes (unsound_stripes r e.images))

-- what comes of it: the answer, and what is left of the record, the images, and the block or scratch

abbrev pub answer_of : Effect → Answer
answer_of (tells a) = a
answer_of (fills shown room) = bytes shown
answer_of (stores a shape ps) = a

abbrev pub record_left : Effect → Record → Record
record_left (tells a) r = r
record_left (fills shown room) r = r
record_left (stores a shape ps) r = recorded ps r

abbrev pub images_left : Effect → List ℕ → List ℕ
images_left (tells a) img = img
images_left (fills shown room) img = img
images_left (stores a shape ps) img = stored_in shape ps img

abbrev pub room_left : Effect → List ℕ → List ℕ
room_left (tells a) lent = lent
room_left (fills shown room) lent = room
room_left (stores a shape ps) lent = lent

-- ---- what a call leaves: its answer, the record (as a record, or as bytes), the images and the block or scratch

pub record Left (R : Type 0) : Type 0 where
  pub answer : Answer
  pub state : R
  pub images : List ℕ
  pub room : List ℕ

-- an accepted call
abbrev pub act : Event → Record → Left Record
act e r =
    let x = effect e.call r e in
    record { answer = answer_of x; state = record_left x r; images = images_left x e.images; room = room_left x e.room }

-- "changes no byte"
abbrev pub untouched : {R : Type 0} → Event → R → ℕ → Left R
untouched e r k = record { answer = refused k; state = r; images = e.images; room = e.room }

abbrev pub settle : {R : Type 0} → ℕ → (ℕ → Left R) → Left R → Left R
settle zero kept acted = acted
settle (suc k) kept acted = kept (suc k)

-- a call on a record ..
unfoldable pub called : Event → Record → Left Record
called e r = settle (refusal_of r (fed e)) (untouched e r) (act e r)

-- .. and on a record's bytes, which differs from it in refusal 1 alone
abbrev pub sealed : Left Record → Left (List ℕ)
sealed x = record { answer = x.answer; state = encode x.state; images = x.images; room = x.room }

unfoldable pub called_bytes : Event → List ℕ → Left (List ℕ)
called_bytes e b = settle (refusal_bytes b (fed e)) (untouched e b) (sealed (act e (decode b)))
