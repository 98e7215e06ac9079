-- The test for a block of zeroes: what it tells, the test of two blocks one after the other, and the loops that make it. Assumes nothing.
use Prim.Native.Nat.{ℕ, zero, suc, ◌+◌, ◌-◌, ◌≤◌, zero-le}
use mathlib.Core.Path.{◌≡◌, refl, sym, ap, ap₂, ◌∙◌}
use mathlib.Core.Bool.{Bool, true, false, ◌&&◌, false≢true, and_assoc, and-true}
use mathlib.Core.List.{List, [], ◌∷◌, ◌++◌}
use native.Mathlib.Nat.{zero-add, suc-add}
use native.Mathlib.Omega.{arith}
use borrow.Author.Tests.{eqb-true, ne_eqb}
use lib.Bits.{bit_or, or_add_and, and_le_r}
use lib.Dec.{eqb}
use lib.ListN.{length}
use Rattle.std.specs.List.{fold}
use Rattle.conditions.proofs.Tests.{both}
use Rattle.blocks.specs.Block.{block_at, zeros, is_zeros}
use Rattle.blocks.proofs.Laws.Block.{length-block_at, block_at-split, block_at-whole}

-- ---- what the test tells

-- a block that passes is the block of zeroes
pub is-zeros : (len : ℕ) (b : List ℕ) → is_zeros len b ≡ true → b ≡ zeros len
is-zeros zero [] e = refl
is-zeros zero (x ∷ b) e = absurd (false≢true e)
is-zeros (suc len) [] e = absurd (false≢true e)
is-zeros (suc len) (x ∷ b) e =
    let h = both (eqb x 0) (is_zeros len b) e in
    ap₂ (λ (y : ℕ) (r : List ℕ). y ∷ r) (eqb-true x 0 h.0) (is-zeros len b h.1)

-- and that one passes
pub zeros-are : (len : ℕ) → is_zeros len (zeros len) ≡ true
zeros-are zero = refl
zeros-are (suc len) = zeros-are len

-- ---- two blocks, one after the other

-- together they are zeroes if both are
pub is_zeros-append : (m n : ℕ) (a b : List ℕ) → length a ≡ m → is_zeros (m + n) (a ++ b) ≡ (is_zeros m a && is_zeros n b)
is_zeros-append zero n [] b e = rw zero-add
is_zeros-append zero n (x ∷ a) b e = absurd (omega arith)
is_zeros-append (suc m) n [] b e = absurd (omega arith)
is_zeros-append (suc m) n (x ∷ a) b e =
    rw suc-add (ap (λ (t : Bool). eqb x 0 && t) (is_zeros-append m n a b (omega arith)) ∙ sym (and_assoc (eqb x 0) (is_zeros m a) (is_zeros n b)))

-- the same of two parts of a list
pub is_zeros-split : (l : List ℕ) (at m n : ℕ) → at + m ≤ length l
    → is_zeros (m + n) (block_at l at (m + n)) ≡ (is_zeros m (block_at l at m) && is_zeros n (block_at l (at + m) n))
is_zeros-split l at m n h = ap (is_zeros (m + n)) (block_at-split l at m n) ∙ is_zeros-append m n (block_at l at m) (block_at l (at + m) n) (length-block_at l at m h)

-- k bytes in two parts, of which the first is zeroes, or is not
module _ (l : List ℕ) (at m n k : ℕ) (e : k ≡ m + n) (h : at + m ≤ length l) where
  parts : is_zeros k (block_at l at k) ≡ (is_zeros m (block_at l at m) && is_zeros n (block_at l (at + m) n))
  parts = rw e (is_zeros-split l at m n h)

  pub zeros-then : is_zeros m (block_at l at m) ≡ true → is_zeros k (block_at l at k) ≡ is_zeros n (block_at l (at + m) n)
  zeros-then z = parts ∙ ap (λ (t : Bool). t && is_zeros n (block_at l (at + m) n)) z

  pub zeros-not : is_zeros m (block_at l at m) ≡ false → is_zeros k (block_at l at k) ≡ false
  zeros-not z = parts ∙ ap (λ (t : Bool). t && is_zeros n (block_at l (at + m) n)) z

-- ---- an or of all bytes

-- the or of two numbers is zero if both are
or-zero : (x v : ℕ) → eqb (bit_or x v) 0 ≡ (eqb x 0 && eqb v 0)
or-zero zero v = refl
or-zero (suc x) v =
    let more : suc x ≤ bit_or (suc x) v = omega (arith, or_add_and (suc x) v, and_le_r (suc x) v) in
    ne_eqb (bit_or (suc x) v) 0 (λ (e : bit_or (suc x) v ≡ 0). omega arith)
    ∙ ap (λ (t : Bool). t && eqb v 0) (sym (ne_eqb (suc x) 0 (λ (e : suc x ≡ 0). omega arith)))

-- that of a list is zero if all of it is
fold-zeros : (l : List ℕ) (x : ℕ) → eqb (fold bit_or x l) 0 ≡ (eqb x 0 && is_zeros (length l) l)
fold-zeros [] x = sym (and-true (eqb x 0))
fold-zeros (v ∷ l) x =
    fold-zeros l (bit_or x v) ∙ ap (λ (t : Bool). t && is_zeros (length l) l) (or-zero x v)
    ∙ and_assoc (eqb x 0) (eqb v 0) (is_zeros (length l) l)

-- x is that of the n bytes of l from `at` on, whose length is k
pub ored-zeros : (l : List ℕ) (at n k x : ℕ) → at + n ≤ length l → k ≡ n → x ≡ fold bit_or 0 (block_at l at k) → eqb x 0 ≡ is_zeros n (block_at l at n)
ored-zeros l at n k x h e q =
    let b : List ℕ = block_at l at n in
    ap (λ (y : ℕ). eqb y 0) (q ∙ ap (λ (j : ℕ). fold bit_or 0 (block_at l at j)) e) ∙ fold-zeros b 0 ∙ ap (λ (j : ℕ). is_zeros j b) (length-block_at l at n h)

-- ---- a loop over the pieces of l, which has n bytes

-- the bytes before `at` are zeroes
pub record ZerosTo (l : List ℕ) (n at : ℕ) : Type 0 where
  pub are : is_zeros at (block_at l 0 at) ≡ true
  pub long : length l ≡ n
  pub within : at ≤ n

-- before the first turn
pub zeros-none : {l : List ℕ} {n : ℕ} → length l ≡ n → ZerosTo l n 0
zeros-none e = record { are = refl; long = e; within = zero-le }

-- of k bytes those from `at` on tell
zeros-on : {l : List ℕ} {n at : ℕ} → ZerosTo l n at → (m k : ℕ) → k ≡ at + m → is_zeros k (block_at l 0 k) ≡ is_zeros m (block_at l at m)
zeros-on {l} {n} {at} f m k e = rw zero-add at (zeros-then l 0 at m k e (omega arith) f.are)

-- a turn: a piece of m bytes that is zeroes
pub zeros-more : {l : List ℕ} {n at : ℕ} → ZerosTo l n at → (m k : ℕ) → k ≡ at + m → k ≤ n → is_zeros m (block_at l at m) ≡ true → ZerosTo l n k
zeros-more f m k e h z = record { are = zeros-on f m k e ∙ z; long = f.long; within = h }

-- after the turns: what is left, from k on, tells of the whole
pub zeros-rest : {l : List ℕ} {n at : ℕ} → ZerosTo l n at → (k : ℕ) → k ≡ at → is_zeros n l ≡ is_zeros (n - k) (block_at l k (n - k))
zeros-rest {l} {n} {at} f k e = rw e (ap (is_zeros n) (sym (block_at-whole l n f.long)) ∙ zeros-on f (n - at) n (omega arith))

-- a piece that is not zeroes: nor is the whole
pub zeros-stop : {l : List ℕ} {n at : ℕ} → ZerosTo l n at → (m : ℕ) → at + m ≤ n → is_zeros m (block_at l at m) ≡ false → is_zeros n l ≡ false
zeros-stop {l} {n} {at} f m h z = zeros-rest f at refl ∙ zeros-not l at m (n - at - m) (n - at) (omega arith) (omega arith) z
