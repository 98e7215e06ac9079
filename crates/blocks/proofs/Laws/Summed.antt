-- Loops over the disks of a stripe that xor their places, all but one disk's: into a block, group by group of disks, and into a part of it, disk by disk. Assumes nothing.
use Prim.Native.Nat.{ℕ, ◌+◌, ◌≤◌, ◌<◌}
use mathlib.Core.Path.{◌≡◌, sym, ap, ap₂, ◌∙◌}
use mathlib.Core.Logic.{◌≢◌, ◌⊎◌, ⊎_elim}
use mathlib.Core.List.{List}
use native.Mathlib.Numerals.{add-one}
use native.Mathlib.Omega.{arith}
use lib.ListN.{length}
use Rattle.blocks.specs.Block.{block_at, zeros}
use Rattle.blocks.specs.Xor.{xor_b}
use Rattle.blocks.specs.Stripe.{offset, place, others}
use Rattle.blocks.specs.declared.types.Group.{Group}
use Rattle.blocks.specs.Sum.{sum_to, PartBegun}
use Rattle.blocks.proofs.Laws.Block.{length-block_at, block_at-within, block_at-zeros}
use Rattle.blocks.proofs.Laws.Xor.{xor_b-comm, xor_b-zeros, block_at-xor_b}
use Rattle.blocks.proofs.Laws.Stripe.{others-in, others-out, length-others}

-- the sum is as long as a block
pub length-sum : (B : ℕ) (l : List ℕ) (x : Group) (k : ℕ) → length (sum_to B l x k) ≡ B
length-sum B l x k = length-others B x.stripes l x.stripe k x.out

-- a part of a block begins with zeroes, into which what is left of the groups before, if there are any, is xored
module _ (x : Group) (l b : List ℕ) (at n : ℕ) (h : PartBegun x l b at n) where
  pub begins_fresh : x.first ≡ 0 → zeros n ≡ block_at (sum_to (length b) l x x.first) at n
  begins_fresh e = rw e (sym (block_at-zeros (length b) at n h.1))

  pub begins_left : x.first ≢ 0 → xor_b (zeros n) (block_at b at n) ≡ block_at (sum_to (length b) l x x.first) at n
  begins_left ne =
      let long : length (block_at b at n) ≡ n = length-block_at b at n h.1 in
      xor_b-comm (zeros n) (block_at b at n) ∙ xor_b-zeros (block_at b at n) n (omega arith) ∙ ⊎_elim (λ e. absurd (ne e)) (λ q. q) h.2

-- after the turns up to disk d b is the xor of the places of the first d disks but `out`; before the first it is anything
pub record Summed (l : List ℕ) (N T S out B : ℕ) (b : List ℕ) (d : ℕ) : Type 0 where
  pub is : (d ≡ 0) ⊎ (b ≡ others B T l S d out)
  pub size : length b ≡ B
  pub within : d ≤ N

-- ---- a part of the block: the n bytes from `at` on

-- after the turns up to disk d the part is that of the xor of the places of the first d disks but `out`
pub record SummedPart (l : List ℕ) (T S out B last at n : ℕ) (b : List ℕ) (d : ℕ) : Type 0 where
  pub is : b ≡ block_at (others B T l S d out) at n
  pub size : length b ≡ n
  pub within : d ≤ last

-- a turn that xors a place in, and one that leaves it out
module _ {l : List ℕ} {T S out B last at n : ℕ} {b b' : List ℕ} {d : ℕ} (lt : d < last) where
  pub part_in : {from : ℕ} → at + n ≤ B → d ≢ out → from ≡ offset B T S d + at → SummedPart l T S out B last at n b d → b' ≡ xor_b b (block_at l from (length b)) → length b' ≡ length b
      → SummedPart l T S out B last at n b' (d + 1)
  part_in h ne p f e k =
      record {
        is =
            e ∙ ap₂ (λ (i m : ℕ). xor_b b (block_at l i m)) p f.size
            ∙ ap₂ xor_b f.is (sym (block_at-within l (offset B T S d) B at n h))
            ∙ sym (block_at-xor_b (others B T l S d out) (place B T l S d) at n)
            ∙ ap (λ (x : List ℕ). block_at x at n) (sym (others-in B T l S d out ne))
            ∙ rw (add-one d);
        size = k ∙ f.size;
        within = omega arith;
      }

  pub part_out : d ≡ out → SummedPart l T S out B last at n b d → b' ≡ b → SummedPart l T S out B last at n b' (d + 1)
  part_out o f e =
      record { is = e ∙ f.is ∙ ap (λ (x : List ℕ). block_at x at n) (sym (others-out B T l S d out o)) ∙ rw (add-one d); size = ap length e ∙ f.size; within = omega arith }
