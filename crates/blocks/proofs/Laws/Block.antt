-- A store into a list of bytes: its length, what it leaves as it was, and what is read back. Assumes nothing.
use Prim.Native.Nat.{ℕ, zero, suc, ◌+◌, ◌≤◌, ◌<◌}
use mathlib.Core.Path.{◌≡◌, refl, sym, ap, ◌∙◌}
use mathlib.Core.Logic.{◌⊎◌, inl, inr}
use mathlib.Core.List.{List, [], ◌∷◌, ◌++◌, append-nil}
use native.Mathlib.Nat.{zero-add, suc-add}
use native.Mathlib.Omega.{arith}
use borrow.Rule.Slice.PartMut.{put_mid}
use lib.ListN.{length, get_or, set, take, drop, length-drop, length-replicate, replicate-append-replicate}
use lib.Seq.{length-take-le, get_or-take, get_or-drop, take_all, take-take, take-add, drop-drop}
use Rattle.std.proofs.lemmas.List.{drop_all}
use Rattle.blocks.specs.Block.{block_at, store, copied_to, zeros, Disjoint}

pub length-store : (l : List ℕ) (at : ℕ) (b : List ℕ) → length (store l at b) ≡ length l
length-store [] at b = refl
length-store (x ∷ l) (suc at) b = ap suc (length-store l at b)
length-store (x ∷ l) zero [] = refl
length-store (x ∷ l) zero (y ∷ b) = ap suc (length-store l zero b)

pub store-nil : (l : List ℕ) (at : ℕ) → store l at [] ≡ l
store-nil [] at = refl
store-nil (x ∷ l) (suc at) = rw (store-nil l at)
store-nil (x ∷ l) zero = refl

-- where it fits: what stands before it, the run, and what stands after it
store-parts : (l : List ℕ) (at : ℕ) (b : List ℕ) → at + length b ≤ length l → store l at b ≡ take at l ++ (b ++ drop (length b) (drop at l))
store-parts [] zero [] h = refl
store-parts [] (suc at) b h = absurd (omega arith)
store-parts [] zero (y ∷ b) h = absurd (omega arith)
store-parts (x ∷ l) (suc at) b h = ap (λ (r : List ℕ). x ∷ r) (store-parts l at b (omega arith))
store-parts (x ∷ l) zero [] h = refl
store-parts (x ∷ l) zero (y ∷ b) h = ap (λ (r : List ℕ). y ∷ r) (store-parts l zero b (omega arith))

-- a store of two runs, one after the other
pub store-append : (l : List ℕ) (at : ℕ) (b c : List ℕ) → store l at (b ++ c) ≡ store (store l at b) (at + length b) c
store-append [] at b c = refl
store-append (x ∷ l) (suc at) b c = rw (suc-add, store-append l at b c)
store-append (x ∷ l) zero [] c = refl
store-append (x ∷ l) zero (y ∷ b) c = rw (zero-add, store-append l zero b c, zero-add)

pub store-one : (l : List ℕ) (i v : ℕ) → store l i (v ∷ []) ≡ set l i v
store-one [] i v = refl
store-one (x ∷ l) (suc i) v = rw (store-one l i v)
store-one (x ∷ l) zero v = rw (store-nil l zero)

-- one byte more
pub store-snoc : (l : List ℕ) (at : ℕ) (b : List ℕ) (v : ℕ) → store l at (b ++ (v ∷ [])) ≡ set (store l at b) (at + length b) v
store-snoc l at b v = store-append l at b (v ∷ []) ∙ store-one (store l at b) (at + length b) v

-- two stores, the first of them before the second, change places
pub store_swap : (l : List ℕ) (at : ℕ) (b : List ℕ) (at' : ℕ) (c : List ℕ) → at + length b ≤ at' → store (store l at b) at' c ≡ store (store l at' c) at b
store_swap [] at b at' c h = refl
store_swap (x ∷ l) (suc at) b zero c h = absurd (omega arith)
store_swap (x ∷ l) (suc at) b (suc at') c h = ap (λ (r : List ℕ). x ∷ r) (store_swap l at b at' c (omega arith))
store_swap (x ∷ l) zero [] at' c h = sym (store-nil (store (x ∷ l) at' c) zero)
store_swap (x ∷ l) zero (y ∷ b) zero c h = absurd (omega arith)
store_swap (x ∷ l) zero (y ∷ b) (suc at') c h = ap (λ (r : List ℕ). y ∷ r) (store_swap l zero b at' c (omega arith))

-- after a store all is as it was
pub drop-store : (l : List ℕ) (at : ℕ) (b : List ℕ) (n : ℕ) → at + length b ≤ n → drop n (store l at b) ≡ drop n l
drop-store [] at b n h = refl
drop-store (x ∷ l) (suc at) b zero h = absurd (omega arith)
drop-store (x ∷ l) (suc at) b (suc n) h = drop-store l at b n (omega arith)
drop-store (x ∷ l) zero [] n h = refl
drop-store (x ∷ l) zero (y ∷ b) zero h = absurd (omega arith)
drop-store (x ∷ l) zero (y ∷ b) (suc n) h = drop-store l zero b n (omega arith)

pub get_or-store-other : (l : List ℕ) (at : ℕ) (b : List ℕ) (i d : ℕ) → (i < at) ⊎ (at + length b ≤ i) → get_or (store l at b) i d ≡ get_or l i d
get_or-store-other [] at b i d h = refl
get_or-store-other (x ∷ l) (suc at) b zero d h = refl
get_or-store-other (x ∷ l) (suc at) b (suc i) d (inl h) = get_or-store-other l at b i d (inl (omega arith))
get_or-store-other (x ∷ l) (suc at) b (suc i) d (inr h) = get_or-store-other l at b i d (inr (omega arith))
get_or-store-other (x ∷ l) zero [] i d h = refl
get_or-store-other (x ∷ l) zero (y ∷ b) i d (inl h) = absurd (omega arith)
get_or-store-other (x ∷ l) zero (y ∷ b) zero d (inr h) = absurd (omega arith)
get_or-store-other (x ∷ l) zero (y ∷ b) (suc i) d (inr h) = get_or-store-other l zero b i d (inr (omega arith))

-- a block is read back
pub block_at-store : (l : List ℕ) (at : ℕ) (b : List ℕ) (n : ℕ) → length b ≡ n → at + n ≤ length l → block_at (store l at b) at n ≡ b
block_at-store [] at [] n e h = rw (← e)
block_at-store [] at (y ∷ b) n e h = absurd (omega arith)
block_at-store (x ∷ l) (suc at) b n e h = block_at-store l at b n e (omega arith)
block_at-store (x ∷ l) zero [] n e h = rw (← e)
block_at-store (x ∷ l) zero (y ∷ b) zero e h = absurd (omega arith)
block_at-store (x ∷ l) zero (y ∷ b) (suc n) e h = ap (λ (r : List ℕ). y ∷ r) (block_at-store l zero b n (omega arith) (omega arith))

-- a block before a store
block_at-before : (l : List ℕ) (at : ℕ) (b : List ℕ) (at' n : ℕ) → at' + n ≤ at → block_at (store l at b) at' n ≡ block_at l at' n
block_at-before [] at b at' n h = refl
block_at-before (x ∷ l) zero b at' zero h = refl
block_at-before (x ∷ l) zero b at' (suc n) h = absurd (omega arith)
block_at-before (x ∷ l) (suc at) b (suc at') n h = block_at-before l at b at' n (omega arith)
block_at-before (x ∷ l) (suc at) b zero zero h = refl
block_at-before (x ∷ l) (suc at) b zero (suc n) h = ap (λ (r : List ℕ). x ∷ r) (block_at-before l at b zero n (omega arith))

pub block_at-other : (l : List ℕ) (at : ℕ) (b : List ℕ) (at' n : ℕ) → Disjoint at (length b) at' n → block_at (store l at b) at' n ≡ block_at l at' n
block_at-other l at b at' n (inl h) = ap (take n) (drop-store l at b at' h)
block_at-other l at b at' n (inr h) = block_at-before l at b at' n h

-- a whole list stored over another
pub store-whole : (l b : List ℕ) → length b ≡ length l → store l 0 b ≡ b
store-whole [] [] e = refl
store-whole [] (y ∷ b) e = absurd (omega arith)
store-whole (x ∷ l) [] e = absurd (omega arith)
store-whole (x ∷ l) (y ∷ b) e = ap (λ (r : List ℕ). y ∷ r) (store-whole l b (omega arith))

pub length-block_at : (l : List ℕ) (at n : ℕ) → at + n ≤ length l → length (block_at l at n) ≡ n
length-block_at l at n h = length-take-le n (drop at l) (simp length-drop (omega arith))

-- ---- what the library leaves is a store

-- b written over `l[at..at + n]`
pub put_mid-store : (l : List ℕ) (at n : ℕ) (b : List ℕ) → at + length b ≤ length l → n ≡ length b → put_mid at n l b ≡ store l at b
put_mid-store l at n b h e = rw e (sym (store-parts l at b h))

-- zeroes written over `l[at..at + n]`, whose length is k, up to index i, which is its end
pub put_mid-zeros : (l : List ℕ) (at n k i : ℕ) (b : List ℕ) → at + n ≤ length l → k ≡ n → i ≡ length (block_at l at k) → b ≡ zeros i ++ drop i (block_at l at k)
    → put_mid at k l b ≡ store l at (zeros n)
put_mid-zeros l at n k i b h e f q =
    let long : length (block_at l at k) ≡ n = rw e (length-block_at l at n h) in
    let z : length (zeros n) ≡ n = length-replicate {A = ℕ} n 0 in
    let all : b ≡ zeros n = q ∙ ap (λ (r : List ℕ). zeros i ++ r) (drop_all i (block_at l at k) (omega arith)) ∙ append-nil (zeros i) ∙ ap zeros (f ∙ long) in
    ap (put_mid at k l) all ∙ put_mid-store l at k (zeros n) (omega arith) (omega arith)

-- a copy of `m[from..from + n]` written over `l[at..at + n]`, whose lengths are i and k
pub put_mid-copied : (l : List ℕ) (at : ℕ) (m : List ℕ) (from n i k : ℕ) (b : List ℕ) → from + n ≤ length m → at + n ≤ length l → i ≡ n → k ≡ n → b ≡ block_at m from i
    → put_mid at k l b ≡ copied_to l at m from n
put_mid-copied l at m from n i k b h h' e e' q =
    let long : length (block_at m from n) ≡ n = length-block_at m from n h in
    ap (put_mid at k l) (q ∙ ap (block_at m from) e) ∙ put_mid-store l at k (block_at m from n) (omega arith) (omega arith)

-- ---- what is read

pub get_or-block_at : (l : List ℕ) (at n i : ℕ) → i < n → get_or (block_at l at n) i 0 ≡ get_or l (at + i) 0
get_or-block_at l at n i h = rw (get_or-take, get_or-drop)

-- a whole list is a block
pub block_at-whole : (l : List ℕ) (n : ℕ) → length l ≡ n → block_at l 0 n ≡ l
block_at-whole l n e = take_all n l (omega arith)

-- a part of a block is a part of the list
drop-take : (l : List ℕ) (B at n : ℕ) → at + n ≤ B → take n (drop at (take B l)) ≡ take n (drop at l)
drop-take l zero at zero h = refl
drop-take l zero at (suc n) h = absurd (omega arith)
drop-take [] (suc B) at n h = refl
drop-take (x ∷ l) (suc B) zero n h = take-take n (suc B) (x ∷ l) (omega arith)
drop-take (x ∷ l) (suc B) (suc at) n h = drop-take l B at n (omega arith)

pub block_at-within : (l : List ℕ) (from B at n : ℕ) → at + n ≤ B → block_at (block_at l from B) at n ≡ block_at l (from + at) n
block_at-within l from B at n h = drop-take (drop from l) B at n h ∙ ap (take n) (drop-drop at from l)

take_short : (n : ℕ) (l : List ℕ) → length (take n l) ≤ n
take_short zero l = omega arith
take_short (suc n) [] = omega arith
take_short (suc n) (x ∷ l) = omega (arith, take_short n l)

-- shorter only where the list ends
pub block_at-short : (l : List ℕ) (at n : ℕ) → length (block_at l at n) ≤ n
block_at-short l at n = take_short n (drop at l)

-- the first n of k zeroes are n
pub length-prefix : (n k : ℕ) → n ≤ k → length (take n (zeros k)) ≡ n
length-prefix n k h = length-take-le n (zeros k) (rw (length-replicate {A = ℕ} k 0) h)

-- a part of zeroes
pub block_at-zeros : (k at n : ℕ) → at + n ≤ k → block_at (zeros k) at n ≡ zeros n
block_at-zeros zero at zero h = refl
block_at-zeros zero at (suc n) h = absurd (omega arith)
block_at-zeros (suc k) zero zero h = refl
block_at-zeros (suc k) zero (suc n) h = ap (λ (r : List ℕ). 0 ∷ r) (block_at-zeros k zero n (omega arith))
block_at-zeros (suc k) (suc at) n h = block_at-zeros k at n (omega arith)

-- a block of zeroes is two, one after the other
pub zeros-append : (a b : ℕ) → zeros (a + b) ≡ zeros a ++ zeros b
zeros-append a b = sym (replicate-append-replicate a b 0)

-- a block is its first byte and the rest of it; or two blocks, one after the other
pub block_at-cons : (l : List ℕ) (at n : ℕ) → at < length l → block_at l at (suc n) ≡ get_or l at 0 ∷ block_at l (at + 1) n
block_at-cons [] at n h = absurd (omega arith)
block_at-cons (x ∷ l) zero n h = refl
block_at-cons (x ∷ l) (suc at) n h = rw suc-add (block_at-cons l at n (omega arith))

pub block_at-split : (l : List ℕ) (at m n : ℕ) → block_at l at (m + n) ≡ block_at l at m ++ block_at l (at + m) n
block_at-split l at m n = take-add m n (drop at l) ∙ ap (λ (r : List ℕ). take m (drop at l) ++ take n r) (drop-drop m at l)
