-- A loop that writes a block upwards, one byte a turn: before it, a turn, after it, and what is read outside of what was written. Assumes nothing.
use Prim.Native.Nat.{ℕ, ◌+◌, ◌≤◌, ◌<◌, zero-le}
use mathlib.Core.Path.{◌≡◌, refl, sym, ap, ap₂, ◌∙◌, subst}
use mathlib.Core.Logic.{◌⊎◌, inl, inr}
use mathlib.Core.List.{List}
use native.Mathlib.Nat.{zero-add}
use native.Mathlib.Numerals.{add-one}
use native.Mathlib.Omega.{arith}
use lib.Bits.{bit_xor}
use lib.ListN.{length, get_or, set, take, length-set}
use lib.Seq.{take-suc, take-add, take_all, length-take-le}
use Rattle.blocks.specs.Block.{store, block_at}
use Rattle.blocks.specs.Xor.{xor_b}
use Rattle.blocks.specs.declared.types.Group.{Group}
use Rattle.blocks.specs.Sum.{Begun}
use Rattle.blocks.proofs.Laws.Block.{length-store, store-nil, store-append, store-snoc, get_or-store-other, block_at-other, store-whole, get_or-block_at, length-block_at}
use Rattle.blocks.proofs.Laws.Xor.{get_or-xor_b, length-xor_b}

-- after i turns l is l₀ with the first i bytes of b, which has n, stored from `at` on
pub record Filled (l₀ : List ℕ) (at : ℕ) (b : List ℕ) (n : ℕ) (l : List ℕ) (i : ℕ) : Type 0 where
  pub is : l ≡ store l₀ at (take i b)
  pub size : length l ≡ length l₀
  pub long : length b ≡ n
  pub within : i ≤ n

pub filled_none : {l : List ℕ} {at : ℕ} {b : List ℕ} {n : ℕ} → length b ≡ n → Filled l at b n l 0
filled_none {l} {at} e = record { is = sym (store-nil l at); size = refl; long = e; within = zero-le }

-- the first i + 1 bytes stored, where the first i are
store-more : (l : List ℕ) (at : ℕ) (b : List ℕ) (i v : ℕ) → i < length b → v ≡ get_or b i 0 → set (store l at (take i b)) (at + i) v ≡ store l at (take (i + 1) b)
store-more l at b i v h e =
    let k : length (take i b) ≡ i = length-take-le i b (omega arith) in
    rw (add-one i, take-suc b i 0 h, store-snoc l at (take i b) (get_or b i 0), k, e)

pub filled_more : {l₀ : List ℕ} {at : ℕ} {b : List ℕ} {n : ℕ} {l : List ℕ} {i v : ℕ} → Filled l₀ at b n l i → i < n → v ≡ get_or b i 0 → Filled l₀ at b n (set l (at + i) v) (i + 1)
filled_more {l₀} {at} {b} {n} {l} {i} {v} f h e =
    record { is = ap (λ (r : List ℕ). set r (at + i) v) f.is ∙ store-more l₀ at b i v (omega arith) e; size = length-set l (at + i) v ∙ f.size; long = f.long; within = omega arith }

-- the same for a loop that writes a whole slice, whose index is i and not `0 + i`
pub filled-more₀ : {l₀ : List ℕ} {b : List ℕ} {n : ℕ} {l : List ℕ} {i v : ℕ} → Filled l₀ 0 b n l i → i < n → v ≡ get_or b i 0 → Filled l₀ 0 b n (set l i v) (i + 1)
filled-more₀ {l₀} {b} {n} {l} {i} {v} f h e = subst (λ (k : ℕ). Filled l₀ 0 b n (set l k v) (i + 1)) (zero-add i) (filled_more f h e)

pub filled_all : {l₀ : List ℕ} {at : ℕ} {b : List ℕ} {n : ℕ} {l : List ℕ} {i : ℕ} → Filled l₀ at b n l i → n ≤ i → l ≡ store l₀ at b
filled_all {l₀} {at} {b} {n} {l} {i} f h = f.is ∙ ap (store l₀ at) (take_all i b (omega arith))

pub filled-all₀ : {l₀ : List ℕ} {b : List ℕ} {n : ℕ} {l : List ℕ} {i : ℕ} → Filled l₀ 0 b n l i → n ≤ i → length l₀ ≡ n → l ≡ b
filled-all₀ {l₀} {b} f h e = filled_all f h ∙ store-whole l₀ b (omega arith)

pub filled-other : {l₀ : List ℕ} {at : ℕ} {b : List ℕ} {n : ℕ} {l : List ℕ} {i : ℕ} → Filled l₀ at b n l i → (j : ℕ) → (j < at) ⊎ (at + i ≤ j) → get_or l j 0 ≡ get_or l₀ j 0
filled-other {l₀} {at} {b} {n} {l} {i} f j h =
    ap (λ (r : List ℕ). get_or r j 0) f.is ∙ get_or-store-other l₀ at (take i b) j 0 (subst (λ (k : ℕ). (j < at) ⊎ (at + k ≤ j)) (sym (length-take-le i b (omega arith))) h)

-- ---- a turn whose byte is the block's

-- an xor out of l into a whole slice
pub xored-out-more : (l : List ℕ) (at : ℕ) {b₀ b : List ℕ} {i : ℕ} → i < length b₀ → Filled b₀ 0 (xor_b b₀ (block_at l at (length b₀))) (length b₀) b i
    → Filled b₀ 0 (xor_b b₀ (block_at l at (length b₀))) (length b₀) (set b i (bit_xor (get_or b i 0) (get_or l (at + i) 0))) (i + 1)
xored-out-more l at {b₀} {b} {i} lt f =
    filled-more₀ f lt (ap₂ bit_xor (filled-other f i (inr (omega arith))) (sym (get_or-block_at l at (length b₀) i lt)) ∙ sym (get_or-xor_b b₀ (block_at l at (length b₀)) i))

-- a fold of two blocks, a and d, into the block at p
pub length-folded : (l : List ℕ) (p : ℕ) (a d : List ℕ) (n : ℕ) → p + n ≤ length l → length a ≡ n → length d ≡ n → length (xor_b (xor_b (block_at l p n) a) d) ≡ n
length-folded l p a d n h ka kd = length-xor_b (xor_b (block_at l p n) a) d n (length-xor_b (block_at l p n) a n (length-block_at l p n h) ka) kd

-- ---- a turn that stores a run of n bytes

-- what it finds there is as it was
pub run-kept : {l₀ b : List ℕ} {k : ℕ} {l : List ℕ} {i : ℕ} → Filled l₀ 0 b k l i → (n : ℕ) → block_at l i n ≡ block_at l₀ i n
run-kept {l₀} {b} {k} {l} {i} f n =
    let m : length (take i b) ≡ i = length-take-le i b (omega arith) in
    ap (λ (r : List ℕ). block_at r i n) f.is ∙ block_at-other l₀ 0 (take i b) i n (inl (omega arith))

pub run_more : {l₀ b : List ℕ} {k : ℕ} {l l' : List ℕ} {i : ℕ} → Filled l₀ 0 b k l i → (n : ℕ) → i + n ≤ k → l' ≡ store l i (block_at b i n) → Filled l₀ 0 b k l' (i + n)
run_more {l₀} {b} {k} {l} {l'} {i} f n h e =
    let m : 0 + length (take i b) ≡ i = rw (zero-add (length (take i b))) (length-take-le i b (omega arith)) in
    record {
      is =
          e ∙ ap₂ (λ (r : List ℕ) (j : ℕ). store r j (block_at b i n)) f.is (sym m)
          ∙ sym (store-append l₀ 0 (take i b) (block_at b i n))
          ∙ ap (store l₀ 0) (sym (take-add i n b));
      size = ap length e ∙ length-store l i (block_at b i n) ∙ f.size;
      long = f.long;
      within = h;
    }

-- and so is what a group of disks begins with
pub begun_kept : {l₀ b : List ℕ} {k : ℕ} {l : List ℕ} {i : ℕ} {o : List ℕ} (x : Group) → Begun x l₀ o → Filled l₀ 0 b k l i → (n : ℕ) → Begun x (block_at l i n) (block_at o i n)
begun_kept x (inl e) f n = inl e
begun_kept {i = i} x (inr q) f n = inr (run-kept f n ∙ ap (λ (r : List ℕ). block_at r i n) q)
