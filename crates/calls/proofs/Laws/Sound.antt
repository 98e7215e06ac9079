-- Images that hold a list of blocks have sound stripes, unless lost. Assumes nothing.
use Prim.Native.Nat.{ℕ, zero, suc, ◌≤◌, ◌<◌}
use mathlib.Core.Path.{◌≡◌, sym, ap, ◌∙◌}
use mathlib.Core.Bool.{false}
use mathlib.Core.List.{List}
use native.Mathlib.Omega.{arith}
use lib.ListN.{length, get_or, length-replicate}
use lib.Seq.{ext_get_or}
use Rattle.layout.specs.Layout.{layout}
use Rattle.blocks.specs.Block.{zeros}
use Rattle.blocks.specs.Xor.{xor_all}
use Rattle.blocks.proofs.Laws.Rows.{◌⊕◌, sum, sum-ext}
use Rattle.blocks.proofs.Laws.Xor.{length-xor_b, get_or-xor_b, get_or-zeros, xor_all-snoc}
use Rattle.state.specs.declared.types.Record.{Record}
use Rattle.state.specs.Good.{geometry}
use Rattle.calls.specs.Health.{is_lost, absent}
use Rattle.calls.specs.Images.{disks_of, size, seen}
use Rattle.calls.specs.Sound.{seen_stripe, Sound}
use Rattle.calls.proofs.Laws.Column.{fits-blank, Even, Holds, seen-is}
use Rattle.calls.proofs.Laws.Holding.{Holding, bytes_at, cell_in, single, length_seen, get_or-seen}

-- a block is zeroes if each of its bytes is
pub zeroes : (B : ℕ) (v : List ℕ) → length v ≡ B → ((j : ℕ) → j < B → get_or v j 0 ≡ 0) → v ≡ zeros B
zeroes B v len z = ext_get_or 0 v (zeros B) (len ∙ sym (length-replicate {A = ℕ} B 0)) (λ j l. z j (rw len at l) ∙ sym (get_or-zeros B j))

-- the sum of what is seen of a stripe on its first k disks: its length, and its bytes
module _ (r : Record) (img : List ℕ) (S : ℕ) where
  pub length-all : length img ≡ size r → S < r.stripes → (k : ℕ) → k ≤ disks_of r → length (xor_all r.block (seen_stripe r img S k)) ≡ r.block
  unfolding seen_stripe
  length-all long lS zero l = length-replicate {A = ℕ} r.block 0
  length-all long lS (suc k) l =
      ap length (xor_all-snoc r.block (seen_stripe r img S k) (seen r img S k))
      ∙ length-xor_b (xor_all r.block (seen_stripe r img S k)) (seen r img S k) r.block (length-all long lS k (omega arith))
      (length_seen r img S k long lS (omega arith))

  pub get_or-all : (j k : ℕ) → get_or (xor_all r.block (seen_stripe r img S k)) j 0 ≡ sum k (λ d. get_or (seen r img S d) j 0)
  unfolding seen_stripe sum
  get_or-all j zero = get_or-zeros r.block j
  get_or-all j (suc k) =
      ap (λ (v : List ℕ). get_or v j 0) (xor_all-snoc r.block (seen_stripe r img S k) (seen r img S k))
      ∙ get_or-xor_b (xor_all r.block (seen_stripe r img S k)) (seen r img S k) j ∙ ap (λ (x : ℕ). x ⊕ get_or (seen r img S k) j 0) (get_or-all j k)

module _ (r : Record) (img : List ℕ) (bs : List (List ℕ)) (h : Holding r img bs) (nl : is_lost r.health ≡ false) (S : ℕ) (lS : S < r.stripes) where
  -- what is seen is what the grid holds
  seen-grid : (j : ℕ) (lj : j < r.block) (d : ℕ) → d < disks_of r → get_or (seen r img S d) j 0 ≡ (h.stored nl j lj).grid S d
  seen-grid j lj d ld =
      let s = h.stored nl j lj in
      get_or-seen r img S d j lj
      ∙ seen-is (disks_of r) r.stripes (absent r.health) (cell_in r img j) s.grid (single (disks_of r) r.stripes r.health nl) s.agree s.even S d lS ld

  pub sound : Sound r img S
  unfolding Even Holds
  sound =
      record {
        xor =
            zeroes r.block (xor_all r.block (seen_stripe r img S (disks_of r))) (length-all r img S h.long lS (disks_of r) (omega arith))
            (λ j lj.
            get_or-all r img S j (disks_of r)
            ∙ sum-ext (disks_of r) (λ d. get_or (seen r img S d) j 0) ((h.stored nl j lj).grid S) (λ d ld. seen-grid j lj d ld) ∙ (h.stored nl j lj).even S lS);
        blanks = λ d ld o.
            zeroes r.block (seen r img S d) (length_seen r img S d h.long lS ld)
            (λ j lj. seen-grid j lj d ld ∙ fits-blank (bytes_at j bs) ((layout (geometry r)).owner S d) ((h.stored nl j lj).grid S d) o ((h.stored nl j lj).holds S d lS ld));
      }
