-- The images of an array: what a call sees of a place, and stores into them.
use Rattle.std.specs.Prelude.{ℕ, zero, suc, ◌+◌, ◌*◌, Bool, true, false, cond, List, [], ◌∷◌, ◌++◌}
use Rattle.blocks.specs.Block.{store, zeros}
use Rattle.blocks.specs.Stripe.{offset, place, others}
use Rattle.state.specs.declared.types.Record.{Record}
use Rattle.calls.specs.Health.{absent}

-- N, all disks of an array, and the length of its images, N × T × B
abbrev pub disks_of : Record → ℕ
disks_of r = r.old + r.new

abbrev pub size : Record → ℕ
size r = disks_of r * (r.stripes * r.block)

-- the same with m new disks
abbrev pub size_with : Record → ℕ → ℕ
size_with r m = (r.old + m) * (r.stripes * r.block)

-- place (S, d), as it stands
abbrev pub place_in : Record → List ℕ → ℕ → ℕ → List ℕ
place_in r img S d = place r.block r.stripes img S d

-- the xor of the other places of its stripe
abbrev pub others_in : Record → List ℕ → ℕ → ℕ → List ℕ
others_in r img S d = others r.block r.stripes img S (disks_of r) d

-- what a call sees of it: "An out disk is never read: its place counts as the xor of the stripe's other places."
unfoldable pub seen : Record → List ℕ → ℕ → ℕ → List ℕ
seen r img S d = cond (absent r.health S d) (others_in r img S d) (place_in r img S d)

-- ---- stores: each of one whole block, into place (S, d), or of the whole record

pub data Store : Type 0 where
  block : (S d : ℕ) → List ℕ → Store
  header : Record → Store

-- what stores, made in order, leave of images with blocks of B bytes and T stripes
unfoldable pub stored : ℕ → ℕ → List Store → List ℕ → List ℕ
stored B T [] img = img
stored B T (block S d v ∷ ps) img = stored B T ps (store img (offset B T S d) v)
stored B T (header x ∷ ps) img = stored B T ps img

-- of the images of r
abbrev pub stored_in : Record → List Store → List ℕ → List ℕ
stored_in r ps img = stored r.block r.stripes ps img

-- and of the record
unfoldable pub recorded : List Store → Record → Record
recorded [] r = r
recorded (block S d v ∷ ps) r = recorded ps r
recorded (header x ∷ ps) r = recorded ps x

-- a store that is skipped
abbrev pub unless : Bool → Store → List Store
unless true x = []
unless false x = x ∷ []

-- k blocks of disk d from stripe S on, each by its stripe, in rising order
unfoldable pub fill_disk : ℕ → ℕ → ℕ → (ℕ → List ℕ) → List Store
fill_disk S zero d f = []
fill_disk S (suc k) d f = fill_disk S k d f ++ (block (S + k) d (f (S + k)) ∷ [])

-- zeroes on `more` disks of T blocks of B bytes, from disk `first` on
unfoldable pub zero_disks : ℕ → ℕ → ℕ → ℕ → List Store
zero_disks B T first zero = []
zero_disks B T first (suc more) = zero_disks B T first more ++ fill_disk 0 T (first + more) (λ S. zeros B)
