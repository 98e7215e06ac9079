-- What a write folded into its parity leaves of it. Document 01: "the parity place its old value xor old block xor data". Then, for a block
-- whose disk is out, the same piece by piece, straight from the images (a reconstruct-write); all of them together are `folded_others`.
use Rattle.std.specs.Prelude.{ℕ, zero, suc, ◌+◌, ◌*◌, ◌≤◌, ◌<◌, ◌≡◌, Bool, cond, not, ◌&&◌, List, eqb, length}
use Rattle.parity.specs.declared.types.Gapped.{Gapped}
use Rattle.blocks.specs.Block.{block_at, store, copied_to, zeros, Disjoint}
use Rattle.blocks.specs.Xor.{xor_b}
use Rattle.blocks.specs.Stripe.{offset, place, others}

-- the parity, from offset `parity` on, that a write of b over the block `old` leaves: the old parity, xor the old block, xor the new
abbrev pub folded_over : List ℕ → ℕ → List ℕ → List ℕ → List ℕ
folded_over l parity old b = xor_b (xor_b (block_at l parity (length b)) old) b

-- the same where the old block stands in l, from offset at on
abbrev pub folded : List ℕ → ℕ → ℕ → List ℕ → List ℕ
folded l parity at b = folded_over l parity (block_at l at (length b)) b

-- the images l with n bytes of it stored, from `first` on
abbrev pub part_modified : List ℕ → ℕ → ℕ → List ℕ → ℕ → ℕ → List ℕ
part_modified l parity at b first n = copied_to l (parity + first) (folded l parity at b) first n

-- the parity and the old block, of so many bytes each, lie within the images, and apart
abbrev pub ModifyInside : ℕ → ℕ → ℕ → ℕ → Type 0
ModifyInside parity at bytes images = (parity + bytes ≤ images) × (at + bytes ≤ images) × Disjoint parity bytes at bytes

-- the images with a write of b to place (S, d) folded into the parity, place (S, p): the xor of all but disk d's stands for the old block
abbrev pub folded_others : ℕ → List ℕ → ℕ → ℕ → ℕ → ℕ → List ℕ → List ℕ
folded_others T l S N d p b =
    let at = offset (length b) T S p in
    store l at (folded_over l at (others (length b) T l S N d) b)

-- ---- piece by piece

-- disk d is counted: it is neither of the two gaps
unfoldable pub counted : Gapped → ℕ → Bool
counted g d = not (eqb d g.out) && not (eqb d g.parity)

-- where the stripe's place on disk d begins, and its bytes
abbrev pub start_of : Gapped → ℕ → ℕ
start_of g d = offset g.len g.stripes g.stripe d

abbrev pub place_of : Gapped → List ℕ → ℕ → List ℕ
place_of g l d = place g.len g.stripes l g.stripe d

-- the xor of the places of the first N disks that are counted, and of all that are
abbrev pub gapped_to : Gapped → List ℕ → ℕ → List ℕ
gapped_to g l zero = zeros g.len
gapped_to g l (suc N) = cond (counted g N) (xor_b (gapped_to g l N) (place_of g l N)) (gapped_to g l N)

abbrev pub gapped : Gapped → List ℕ → List ℕ
gapped g l = gapped_to g l g.disks

-- the parity that a write of b leaves
abbrev pub new_parity : Gapped → List ℕ → List ℕ → List ℕ
new_parity g l b = xor_b b (gapped g l)

-- the images l with n bytes of the new parity stored, from at on
abbrev pub part_folded : Gapped → List ℕ → List ℕ → ℕ → ℕ → List ℕ
part_folded g l b at n = copied_to l (start_of g g.parity + at) (new_parity g l b) at n

-- the places lie within images of so many bytes
pub record GappedInside (g : Gapped) (images : ℕ) : Type 0 where
  pub long : 1 ≤ g.len
  pub stripe_lt : g.stripe < g.stripes
  pub parity_lt : g.parity < g.disks
  pub within : g.disks * (g.stripes * g.len) ≤ images

-- and so many bytes are a block
abbrev pub FoldInside : Gapped → ℕ → ℕ → Type 0
FoldInside g images bytes = GappedInside g images × (bytes ≡ g.len)
