-- What an accepted call leaves alone, and that its stores stay inside the images it was lent. Document 01, Calls, and demand 1: "every call
-- .. stays inside what it was lent".
-- The statements are `Alone`, `OneMove` and `RecordOnly`; `alone` and `record-only` of proofs/Alone.antt and `one_move` of
-- proofs/OneMove.antt prove them. (A refused call leaves everything alone: `Demand1` of Theorem.)
use Rattle.std.specs.Prelude.{ℕ, ◌+◌, ◌≤◌, ◌<◌, ◌≡◌, true, false, ◌⊎◌, ◌≢◌, List, [], ◌∷◌, length}
use Rattle.layout.specs.Layout.{layout, next_stripe, next_from, next_to}
use Rattle.blocks.specs.Block.{zeros}
use Rattle.blocks.specs.Stripe.{offset}
use Rattle.state.specs.declared.types.Health.TheVariants.{Rebuilding}
use Rattle.state.specs.declared.types.Record.{Record}
use Rattle.state.specs.Good.{geometry, good}
use Rattle.calls.specs.Call.{Call, format, read, view, write, grow, advance, continue, status, locate, owner, Event, on, fed, count}
use Rattle.calls.specs.Health.{absent}
use Rattle.calls.specs.Images.{disks_of, size, place_in, Store, block, header, stored_in}
use Rattle.calls.specs.Table.{idle, refusal_of}
use Rattle.calls.specs.Effect.{place_of, move_stores, Effect, tells, fills, stores, effect, act, called}

-- every block of a list of stores is whole, B bytes, and its place lies within the first `len` bytes
unfoldable pub Inside : ℕ → ℕ → ℕ → List Store → Type 0
Inside len B T [] = Unit
Inside len B T (block S d v ∷ ps) = (length v ≡ B) × (offset B T S d + B ≤ len) × Inside len B T ps
Inside len B T (header x ∷ ps) = Inside len B T ps

-- and so are those that a call makes
abbrev pub StoresInside : ℕ → Effect → Type 0
StoresInside len (tells a) = Unit
StoresInside len (fills shown room) = Unit
StoresInside len (stores a shape ps) = Inside len shape.block shape.stripes ps

-- the calls that fill the lent block or scratch. (A set by its name: what is said of all other calls has one premise, however many they
-- are, and does not follow the definition that it is about.)
pub data FillsRoom : Call → Type 0 where
  read-fills : (b : ℕ) → FillsRoom (read b)
  view-fills : (b : ℕ) → FillsRoom (view b)

-- the calls that store blocks
pub data StoresBlocks : Call → Type 0 where
  format_stores : (n B T : ℕ) → StoresBlocks (format n B T)
  write-stores : (b : ℕ) (v : List ℕ) → StoresBlocks (write b v)
  grow_stores : (m : ℕ) → StoresBlocks (grow m)
  advance-stores : (k : ℕ) → StoresBlocks (advance k)
  continue-stores : (k : ℕ) → StoresBlocks (continue k)

-- the call leaves the bytes of place (S, d)
abbrev pub Stays : Event → Record → ℕ → ℕ → Type 0
Stays e r S d = place_in r (act e r).images S d ≡ place_in r e.images S d

-- what is claimed of one call e on a record r ..
pub record LeavesAlone (e : Event) (r : Record) : Type 0 where
  -- "stays inside what it was lent": each of its stores; and images and room are as long as they were
  pub inside : StoresInside (length e.images) (effect e.call r e)
  pub long : length (act e r).images ≡ length e.images
  pub room_long : length (act e r).room ≡ length e.room
  -- read "fills a lent block", view the scratch; no other call has one ..
  pub room : ¬ FillsRoom e.call → (act e r).room ≡ e.room
  -- .. and view, "if its disk is out, .. the lent scratch filled with it. Scratch is else untouched."
  pub scratch : (b : ℕ) → e.call ≡ view b → absent r.health (place_of r b).stripe (place_of r b).disk ≡ false → (act e r).room ≡ e.room
  -- read, view, out, begin ("changes the record only"), sweep, status, locate and owner leave the images
  pub images : ¬ StoresBlocks e.call → (act e r).images ≡ e.images
  -- write: "the data place takes the data, the parity place its old value xor old block xor data; .. All other bytes stay."
  pub write_others : (b : ℕ) (v : List ℕ) → e.call ≡ write b v → (S d : ℕ) → S < r.stripes → d < disks_of r
      → (S ≡ (place_of r b).stripe → (d ≢ (place_of r b).disk) × (d ≢ (layout (geometry r)).parity S)) → Stays e r S d
  -- ".. either is skipped if its disk is out"
  pub write_absent : (b : ℕ) (v : List ℕ) → e.call ≡ write b v → (S d : ℕ) → S < r.stripes → d < disks_of r
      → absent r.health S d ≡ true → Stays e r S d
  -- grow: "given images of n + m disks, zeroes those behind the first n"
  pub grow_old : (m : ℕ) → e.call ≡ grow m → (S d : ℕ) → S < r.stripes → d < r.old → Stays e r S d
  -- continue "does stripes in rising order until k are done or none is left, and reports how many": it leaves every other disk, and its own
  -- outside these stripes
  pub continue_others : (k o c : ℕ) → e.call ≡ continue k → r.health ≡ Rebuilding o c → (S d : ℕ) → S < r.stripes → d < disks_of r
      → (d ≡ o → (S < c) ⊎ (c + count (act e r).answer ≤ S)) → Stays e r S d

-- .. and it holds of every call that the table lets through, whatever bytes it is lent
abbrev pub Alone : Type 0
Alone = (e : Event) (r : Record) → refusal_of r (fed e) ≡ 0 → LeavesAlone e r

-- ---- a single move of an advance: "A move copies the block to its new place, then zeroes the place it left", and nothing else. (An
-- advance makes one after the other: `InOrder` of Theorem.)

-- the images after the next move
abbrev pub moved_on : Record → List ℕ → List ℕ
moved_on r img = stored_in r (move_stores r img) img

-- what is claimed of the next move of a record r on images img ..
pub record Moves (r : Record) (img : List ℕ) : Type 0 where
  pub copied : let g = geometry r in place_in r (moved_on r img) (next_stripe g) (next_to g) ≡ place_in r img (next_stripe g) (next_from g)
  pub zeroed : let g = geometry r in place_in r (moved_on r img) (next_stripe g) (next_from g) ≡ zeros r.block
  pub others : let g = geometry r in
      (S d : ℕ) → S < r.stripes → d < disks_of r → (S ≡ next_stripe g → (d ≢ next_from g) × (d ≢ next_to g))
      → place_in r (moved_on r img) S d ≡ place_in r img S d

-- .. and it holds of every good record that has a move left, whatever the images of its size hold
abbrev pub OneMove : Type 0
OneMove = (r : Record) (img : List ℕ) → good r ≡ true → idle (geometry r) ≡ false → length img ≡ size r → Moves r img

-- ---- locate and owner: "Both read the record only." So does status: whatever else a call of these were lent, it answers the same

pub record RecordOnly : Type 0 where
  pub of-status : (r : Record) (img img' room room' : List ℕ)
      → (called (on status img room) r).answer ≡ (called (on status img' room') r).answer
  pub of-locate : (r : Record) (b : ℕ) (img img' room room' : List ℕ)
      → (called (on (locate b) img room) r).answer ≡ (called (on (locate b) img' room') r).answer
  pub of_owner : (r : Record) (S d : ℕ) (img img' room room' : List ℕ)
      → (called (on (owner S d) img room) r).answer ≡ (called (on (owner S d) img' room') r).answer
