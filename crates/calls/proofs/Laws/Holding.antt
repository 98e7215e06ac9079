-- The images of an array hold a list of blocks: what the whole history keeps, and what a call sees then. Assumes nothing.
use Prim.Native.Nat.{ℕ, ◌<◌}
use mathlib.Core.Path.{◌≡◌, sym, ◌∙◌}
use mathlib.Core.Bool.{Bool, true, false, cond}
use mathlib.Core.List.{List, [], map}
use native.Mathlib.Omega.{arith}
use lib.ListN.{length, get_or, get_or-map}
use lib.Seq.{ext_get_or}
use borrow.Author.Tests.{eqb-true}
use Rattle.layout.specs.Layout.{capacity, layout}
use Rattle.layout.proofs.Laws.Layout.{lawful}
use Rattle.blocks.proofs.Laws.Grid.{Grid}
use Rattle.blocks.proofs.Laws.Rows.{rest}
use Rattle.blocks.proofs.Laws.Stripe.{cell, length-place, get_or-place, length-others, get_or-others}
use Rattle.conditions.proofs.Tests.{both}
use Rattle.state.specs.declared.types.Health.TheVariants.{Whole, Out, Lost, Rebuilding}
use Rattle.state.specs.declared.types.Health.{Health}
use Rattle.state.specs.declared.types.Record.{Record}
use Rattle.state.specs.Good.{geometry, GoodRecord}
use Rattle.calls.specs.Call.{Answer}
use Rattle.calls.specs.Health.{is_lost, absent}
use Rattle.calls.specs.Images.{disks_of, size, place_in, others_in, seen}
use Rattle.calls.specs.Effect.{place_of, block_of, Left}
use Rattle.calls.proofs.Laws.Column.{see, fits-data, Agree, Holds, Single, Stored, seen-is, relent}

-- byte j of each block of a list, and of each place of the images
abbrev pub bytes_at : ℕ → List (List ℕ) → List ℕ
bytes_at j bs = map (λ (v : List ℕ). get_or v j 0) bs

abbrev pub cell_in : Record → List ℕ → ℕ → Grid
cell_in r img j = cell r.block r.stripes img j

-- the images of r hold the blocks bs: unless lost, for each byte there is a grid of sound stripes, with the blocks where the layout has them and zeroes on the blanks, that the images are but for the disk that is out
-- (so a write has no cases on health)
pub record Holding (r : Record) (img : List ℕ) (bs : List (List ℕ)) : Type 0 where
  pub limits : GoodRecord r
  pub long : length img ≡ size r
  pub count : length bs ≡ capacity (geometry r)
  pub whole : (b : ℕ) → b < length bs → length (get_or bs b []) ≡ r.block
  pub stored : is_lost r.health ≡ false → (j : ℕ) → j < r.block → Stored (disks_of r) r.stripes (layout (geometry r)).owner (absent r.health) (cell_in r img j) (bytes_at j bs)

-- what a call leaves: its answer, its record, and images that hold bs
pub record Leaves (x : Left Record) (a : Answer) (r : Record) (bs : List (List ℕ)) : Type 0 where
  pub answer : x.answer ≡ a
  pub state : x.state ≡ r
  pub holding : Holding r x.images bs

-- the disks of `left` stand in `lent`, byte for byte, but where a disk counts as out
abbrev pub Kept : Record → List ℕ → List ℕ → Type 0
Kept r left lent = (S d j : ℕ) → S < r.stripes → d < disks_of r → j < r.block → absent r.health S d ≡ false → cell_in r lent j S d ≡ cell_in r left j S d

-- unless lost, at most one disk of a stripe counts as out
pub single : (N T : ℕ) (h : Health) → is_lost h ≡ false → Single N T (absent h)
unfolding Single
single N T Whole nl S d e p q = let z : d ≡ e = cc in z
single N T (Out o) nl S d e p q = eqb-true d o p ∙ sym (eqb-true e o q)
single N T Lost nl S d e p q = let z : d ≡ e = cc in z
single N T (Rebuilding o c) nl S d e p q = eqb-true d o (both _ _ p).0 ∙ sym (eqb-true e o (both _ _ q).0)

-- ---- what is seen of a place, byte by byte

module _ (r : Record) (img : List ℕ) (S d : ℕ) where
  pub length_seen : length img ≡ size r → S < r.stripes → d < disks_of r → length (seen r img S d) ≡ r.block
  unfolding seen
  length_seen z lS ld = go (absent r.health S d)
    where
      go : (b : Bool) → length (cond b (others_in r img S d) (place_in r img S d)) ≡ r.block
      go true = length-others r.block r.stripes img S (disks_of r) d
      go false = length-place r.block r.stripes img S d (disks_of r) lS ld (rw z (omega arith))

  pub get_or-seen : (j : ℕ) → j < r.block → get_or (seen r img S d) j 0 ≡ see (disks_of r) (absent r.health) (cell_in r img j) S d
  unfolding seen
  get_or-seen j lj = go (absent r.health S d)
    where
      go : (b : Bool) → get_or (cond b (others_in r img S d) (place_in r img S d)) j 0 ≡ cond b (rest (disks_of r) d (cell_in r img j S)) (cell_in r img j S d)
      go true = get_or-others r.block r.stripes img S (disks_of r) d j lj
      go false = get_or-place r.block r.stripes img S d j lj

module _ (r : Record) (img : List ℕ) (bs : List (List ℕ)) (h : Holding r img bs) where
  -- ---- where block b stands

  module _ (b : ℕ) (lb : b < capacity (geometry r)) where
    pub stripe_lt : (place_of r b).stripe < r.stripes
    stripe_lt = (lawful (geometry r) h.limits.array).stripe_lt b lb

    pub disk_lt : (place_of r b).disk < disks_of r
    disk_lt = (lawful (geometry r) h.limits.array).disk_lt b lb

    -- what read and view see there
    pub block-is : is_lost r.health ≡ false → block_of r img b ≡ get_or bs b []
    unfolding Holds
    block-is nl =
        let S : ℕ = (place_of r b).stripe in
        let d : ℕ = (place_of r b).disk in
        let len : length (seen r img S d) ≡ r.block = length_seen r img S d h.long stripe_lt disk_lt in
        ext_get_or 0 (seen r img S d) (get_or bs b []) (len ∙ sym (h.whole b (rw h.count lb)))
        (λ j l.
        let lj : j < r.block = rw len at l in
        let s = h.stored nl j lj in
        get_or-seen r img S d j lj
        ∙ seen-is (disks_of r) r.stripes (absent r.health) (cell_in r img j) s.grid (single (disks_of r) r.stripes r.health nl) s.agree s.even S d stripe_lt disk_lt
        ∙ fits-data (bytes_at j bs) ((layout (geometry r)).owner S d) b (s.grid S d) ((lawful (geometry r) h.limits.array).owner-block b lb) (s.holds S d stripe_lt disk_lt)
        ∙ get_or-map (λ (x : List ℕ). get_or x j 0) bs b [])

  -- other images that agree with these but for the disk that is out hold the same blocks
  pub relends : (lent : List ℕ) → length lent ≡ size r → Kept r img lent → Holding r lent bs
  unfolding Agree
  relends lent z k =
      record {
        limits = h.limits;
        long = z;
        count = h.count;
        whole = h.whole;
        stored = λ nl j lj.
            relent (disks_of r) r.stripes (layout (geometry r)).owner (absent r.health) (cell_in r img j) (cell_in r lent j) (bytes_at j bs) (h.stored nl j lj)
            (λ S d lS ld u. k S d j lS ld lj u);
      }
