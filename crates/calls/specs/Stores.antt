-- Stores in bare numbers: what a list of them leaves of images and record, and which stores a call makes, in order. They are said of the
-- call: of a list that it is meant to make a statement would say nothing once the call makes another. (That each move of an
-- advance is made on what the one before left is `InOrder` of Theorem; a continue's stripes in rising order are `InRisingOrder`.)
-- The statements are `Storing` and `StoresInOrder`; `storing` and `stores-in-order` of proofs/Stores.antt prove them.
use Rattle.std.specs.Prelude.{ℕ, zero, suc, ◌+◌, ◌-◌, ◌*◌, ◌≤◌, ◌<◌, min, ◌≡◌, true, false, ◌⊎◌, List, [], ◌∷◌, ◌++◌, length, get_or}
use Rattle.layout.specs.Layout.{layout, next_stripe, next_from, next_to}
use Rattle.blocks.specs.Block.{zeros}
use Rattle.blocks.specs.Xor.{xor_b}
use Rattle.state.specs.declared.types.Health.TheVariants.{Rebuilding}
use Rattle.state.specs.declared.types.Record.{Record}
use Rattle.state.specs.Good.{geometry}
use Rattle.state.specs.Update.{formatted, grown_by, with_moves, with_health}
use Rattle.calls.specs.Call.{format, read, view, write, grow, advance, out, begin, continue, status, locate, owner, sweep}
use Rattle.calls.specs.Call.{Event, on, Answer, done, bytes, made}
use Rattle.calls.specs.Health.{absent}
use Rattle.calls.specs.Images.{disks_of, size, place_in, seen, Store, block, header, stored, stored_in, recorded, unless}
use Rattle.calls.specs.Table.{idle}
use Rattle.calls.specs.Effect.{move_stores, advance_stores, stripes_made, continue_stores, tells, fills, stores, effect, act}
use Rattle.calls.specs.Theorem.{rising}

-- ---- what stores leave

pub record Storing : Type 0 where
  pub none : (B T : ℕ) (img : List ℕ) (r : Record) → (stored B T [] img ≡ img) × (recorded [] r ≡ r)
  -- made in order, each on what those before it left
  pub joined : (B T : ℕ) (ps qs : List Store) (img : List ℕ) (r : Record)
      → (stored B T (ps ++ qs) img ≡ stored B T qs (stored B T ps img)) × (recorded (ps ++ qs) r ≡ recorded qs (recorded ps r))
  -- the whole record, and no byte of the images
  pub of_record : (B T : ℕ) (x r : Record) (img : List ℕ) → (stored B T (header x ∷ []) img ≡ img) × (recorded (header x ∷ []) r ≡ x)
  -- a block v, into place (S, d): its bytes from (d × T + S) × B on, no other byte, and not the record
  pub of_block : (B T S d j : ℕ) (v img : List ℕ) → let at = (d * T + S) * B in
      at + length v ≤ length img → j < length v → get_or (stored B T (block S d v ∷ []) img) (at + j) 0 ≡ get_or v j 0
  pub elsewhere : (B T S d i : ℕ) (v img : List ℕ) → let at = (d * T + S) * B in
      (i < at) ⊎ (at + length v ≤ i) → get_or (stored B T (block S d v ∷ []) img) i 0 ≡ get_or img i 0
  pub not_record : (S d : ℕ) (v : List ℕ) (r : Record) → recorded (block S d v ∷ []) r ≡ r
  pub long : (B T : ℕ) (ps : List Store) (img : List ℕ) → length (stored B T ps img) ≡ length img
  -- in the images of r, which has N = n + m disks and so N × T × B bytes
  pub in_images : (r : Record) (ps : List Store) (img : List ℕ) → stored_in r ps img ≡ stored r.block r.stripes ps img
  pub disks_are : (r : Record) → disks_of r ≡ r.old + r.new
  pub size_is : (r : Record) → size r ≡ (r.old + r.new) * (r.stripes * r.block)
  -- a call that makes stores leaves what they leave; one that tells something leaves all; one that fills the block or scratch all else
  pub of_storing : (e : Event) (r shape : Record) (a : Answer) (ps : List Store) → effect e.call r e ≡ stores a shape ps
      → let left = stored shape.block shape.stripes ps e.images in
      act e r ≡ record { answer = a; state = recorded ps r; images = left; room = e.room }
  pub of_telling : (e : Event) (r : Record) (a : Answer) → effect e.call r e ≡ tells a
      → act e r ≡ record { answer = a; state = r; images = e.images; room = e.room }
  pub of_filling : (e : Event) (r : Record) (shown room : List ℕ) → effect e.call r e ≡ fills shown room
      → act e r ≡ record { answer = bytes shown; state = r; images = e.images; room = room }

-- ---- which stores a call makes

-- one store for each of T stripes of each of k disks, from disk d on, disk by disk
unfoldable pub each_disk : ℕ → ℕ → ℕ → (ℕ → ℕ → Store) → List Store
each_disk T d zero f = []
each_disk T d (suc k) f = rising 0 T (f d) ++ each_disk T (suc d) k f

pub record StoresInOrder : Type 0 where
  -- format: "zeroes the images; record whole, m = t = 0". Its record is last, as document 02, (h), has it of every call but advance.
  pub of_format : (r : Record) (e : Event) (n B T : ℕ) → effect (format n B T) r e
      ≡ stores done (formatted n B T) (each_disk T 0 n (λ d S. block S d (zeros B)) ++ header (formatted n B T) ∷ [])
  -- grow: "zeroes those behind the first n; sets m", likewise
  pub of-grow : (r : Record) (e : Event) (m : ℕ) → effect (grow m) r e
      ≡ stores done r (each_disk r.stripes r.old m (λ d S. block S d (zeros r.block)) ++ header (grown_by r m) ∷ [])
  -- write: "the data place takes the data, the parity place its old value xor old block xor data; either is skipped if its disk is out".
  -- The parity first, and each once.
  pub of_write : (r : Record) (e : Event) (b : ℕ) (v : List ℕ) →
      let x = (layout (geometry r)).place b in
      let S = x.block.stripe in
      let before = seen r e.images S in
      effect (write b v) r e
      ≡ stores done r
      (unless (absent r.health S x.parity.disk)
      (block S x.parity.disk (xor_b (xor_b (before x.parity.disk) (before x.block.disk)) v))
      ++ unless (absent r.health S x.block.disk) (block S x.block.disk v))
  pub skipped : (s : Store) → (unless true s ≡ []) × (unless false s ≡ s ∷ [])
  -- "A move copies the block to its new place, then zeroes the place it left"; then the record with t raised
  pub of_move : (r : Record) (img : List ℕ) → let g = geometry r in
      move_stores r img
      ≡ block (next_stripe g) (next_to g) (place_in r img (next_stripe g) (next_from g))
      ∷ block (next_stripe g) (next_from g) (zeros r.block) ∷ header (with_moves r (suc r.moves)) ∷ []
  -- advance: "makes moves in order until k are made or none is left"
  pub of-advance : (r : Record) (e : Event) (k : ℕ) → let ps = advance_stores k r e.images in
      effect (advance k) r e ≡ stores (made ((recorded ps r).moves - r.moves)) r ps
  pub no_move : (r : Record) (img : List ℕ) → advance_stores 0 r img ≡ []
  pub none_left : (r : Record) (img : List ℕ) (k : ℕ) → idle (geometry r) ≡ true → advance_stores k r img ≡ []
  pub one_move : (r : Record) (img : List ℕ) → idle (geometry r) ≡ false → advance_stores 1 r img ≡ move_stores r img
  -- out and begin: the record that they leave, once
  pub of-out : (r : Record) (e : Event) (d : ℕ) → effect (out d) r e ≡ stores done r (header (act (on (out d) [] []) r).state ∷ [])
  pub of-begin : (r : Record) (e : Event) (d : ℕ) → effect (begin d) r e ≡ stores done r (header (with_health r (Rebuilding d 0)) ∷ [])
  -- read and view fill the block or scratch, status, locate, owner and sweep tell something: they make no store
  pub of_read : (r : Record) (e : Event) (b : ℕ) → (shown : List ℕ) × (room : List ℕ) × (effect (read b) r e ≡ fills shown room)
  pub of_view : (r : Record) (e : Event) (b : ℕ) → (shown : List ℕ) × (room : List ℕ) × (effect (view b) r e ≡ fills shown room)
  pub of-status : (r : Record) (e : Event) → (a : Answer) × (effect status r e ≡ tells a)
  pub of-locate : (r : Record) (e : Event) (b : ℕ) → (a : Answer) × (effect (locate b) r e ≡ tells a)
  pub of_owner : (r : Record) (e : Event) (S d : ℕ) → (a : Answer) × (effect (owner S d) r e ≡ tells a)
  pub of-sweep : (r : Record) (e : Event) → (a : Answer) × (effect sweep r e ≡ tells a)
  -- continue: the stripes that it makes, and the stores of `InRisingOrder`
  pub of-continue : (r : Record) (e : Event) (k : ℕ)
      → effect (continue k) r e ≡ stores (made (stripes_made k r)) r (continue_stores k r e.images)
  pub stripes-made : (r : Record) (k o c : ℕ) → r.health ≡ Rebuilding o c → stripes_made k r ≡ min k (r.stripes - c)
