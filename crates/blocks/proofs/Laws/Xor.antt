-- Xor of blocks, byte by byte: associative, commutative, its length and its bytes; the xor of a list of blocks. Assumes nothing.
use Prim.Native.Nat.{ℕ, zero, suc, ◌≤◌}
use mathlib.Core.Path.{◌≡◌, refl, sym, ap, ap₂, ◌∙◌}
use mathlib.Core.List.{List, [], ◌∷◌, ◌++◌}
use native.Mathlib.Omega.{arith}
use lib.Bits.{bit_xor, xor_comm, xor_self, xor_zero_l, xor_zero_r}
use lib.ListN.{length, get_or, take, drop}
pub use Rattle.std.specs.Int.Bits.{xor_assoc}
use Rattle.blocks.specs.Block.{block_at, zeros}
use Rattle.blocks.specs.Xor.{xor_b, xor_all, without}

-- ---- two blocks

pub xor_b-nil : (a : List ℕ) → xor_b a [] ≡ a
xor_b-nil [] = refl
xor_b-nil (x ∷ a) = refl

pub xor_b-comm : (a b : List ℕ) → xor_b a b ≡ xor_b b a
xor_b-comm [] b = sym (xor_b-nil b)
xor_b-comm (x ∷ a) [] = refl
xor_b-comm (x ∷ a) (y ∷ b) = ap₂ (λ (h : ℕ) (t : List ℕ). h ∷ t) (xor_comm x y) (xor_b-comm a b)

pub xor_b-assoc : (a b c : List ℕ) → xor_b (xor_b a b) c ≡ xor_b a (xor_b b c)
xor_b-assoc [] b c = refl
xor_b-assoc (x ∷ a) [] c = refl
xor_b-assoc (x ∷ a) (y ∷ b) [] = refl
xor_b-assoc (x ∷ a) (y ∷ b) (z ∷ c) = ap₂ (λ (h : ℕ) (t : List ℕ). h ∷ t) (xor_assoc x y z) (xor_b-assoc a b c)

-- the shorter of two counts as if zeroes followed it
pub length-xor_b-short : (a b : List ℕ) (n : ℕ) → length a ≡ n → length b ≤ n → length (xor_b a b) ≡ n
length-xor_b-short [] [] n p q = p
length-xor_b-short [] (y ∷ b) n p q = omega arith
length-xor_b-short (x ∷ a) [] n p q = p
length-xor_b-short (x ∷ a) (y ∷ b) zero p q = absurd (omega arith)
length-xor_b-short (x ∷ a) (y ∷ b) (suc n) p q = ap suc (length-xor_b-short a b n (omega arith) (omega arith))

pub length-xor_b : (a b : List ℕ) (n : ℕ) → length a ≡ n → length b ≡ n → length (xor_b a b) ≡ n
length-xor_b a b n p q = length-xor_b-short a b n p (omega arith)

pub get_or-xor_b : (a b : List ℕ) (j : ℕ) → get_or (xor_b a b) j 0 ≡ bit_xor (get_or a j 0) (get_or b j 0)
get_or-xor_b [] b j = refl
get_or-xor_b (x ∷ a) [] j = sym (xor_zero_r (get_or (x ∷ a) j 0))
get_or-xor_b (x ∷ a) (y ∷ b) zero = refl
get_or-xor_b (x ∷ a) (y ∷ b) (suc j) = get_or-xor_b a b j

pub get_or-zeros : (n j : ℕ) → get_or (zeros n) j 0 ≡ 0
get_or-zeros zero j = refl
get_or-zeros (suc n) zero = refl
get_or-zeros (suc n) (suc j) = get_or-zeros n j

take-xor_b : (n : ℕ) (a b : List ℕ) → take n (xor_b a b) ≡ xor_b (take n a) (take n b)
take-xor_b zero a b = refl
take-xor_b (suc n) [] b = refl
take-xor_b (suc n) (x ∷ a) [] = refl
take-xor_b (suc n) (x ∷ a) (y ∷ b) = ap (λ (r : List ℕ). bit_xor x y ∷ r) (take-xor_b n a b)

drop-xor_b : (n : ℕ) (a b : List ℕ) → drop n (xor_b a b) ≡ xor_b (drop n a) (drop n b)
drop-xor_b zero a b = refl
drop-xor_b (suc n) [] b = refl
drop-xor_b (suc n) (x ∷ a) [] = sym (xor_b-nil (drop n a))
drop-xor_b (suc n) (x ∷ a) (y ∷ b) = drop-xor_b n a b

-- a part of the xor is the xor of the parts
pub block_at-xor_b : (a b : List ℕ) (at n : ℕ) → block_at (xor_b a b) at n ≡ xor_b (block_at a at n) (block_at b at n)
block_at-xor_b a b at n = ap (take n) (drop-xor_b at a b) ∙ take-xor_b n (drop at a) (drop at b)

-- xor with zeroes changes nothing
pub xor_b-zeros : (a : List ℕ) (n : ℕ) → n ≤ length a → xor_b a (zeros n) ≡ a
xor_b-zeros a zero h = xor_b-nil a
xor_b-zeros [] (suc n) h = absurd (omega arith)
xor_b-zeros (x ∷ a) (suc n) h = ap₂ (λ (y : ℕ) (r : List ℕ). y ∷ r) (xor_zero_r x) (xor_b-zeros a n (omega arith))

-- what is xored in twice is gone
pub xor_b-cancel : (a b : List ℕ) → length a ≤ length b → xor_b a (xor_b b a) ≡ b
xor_b-cancel [] b h = xor_b-nil b
xor_b-cancel (x ∷ a) [] h = absurd (omega arith)
xor_b-cancel (x ∷ a) (y ∷ b) h =
    ap₂ (λ (z : ℕ) (r : List ℕ). z ∷ r) (ap (bit_xor x) (xor_comm y x) ∙ sym (xor_assoc x x y) ∙ ap (λ (z : ℕ). bit_xor z y) (xor_self x) ∙ xor_zero_l y)
    (xor_b-cancel a b (omega arith))

-- ---- lists of blocks

-- one more at the end
pub xor_all-snoc : (n : ℕ) (xs : List (List ℕ)) (y : List ℕ) → xor_all n (xs ++ (y ∷ [])) ≡ xor_b (xor_all n xs) y
xor_all-snoc n [] y = xor_b-comm y (zeros n)
xor_all-snoc n (x ∷ xs) y = ap (xor_b x) (xor_all-snoc n xs y) ∙ sym (xor_b-assoc x (xor_all n xs) y)

-- ---- a list of blocks that grows at its end, without its i-th

pub without-snoc-same : (xs : List (List ℕ)) (y : List ℕ) (i : ℕ) → i ≡ length xs → without (xs ++ (y ∷ [])) i ≡ without xs i
without-snoc-same [] y zero e = refl
without-snoc-same [] y (suc i) e = absurd (omega arith)
without-snoc-same (x ∷ xs) y zero e = absurd (omega arith)
without-snoc-same (x ∷ xs) y (suc i) e = ap (λ (r : List (List ℕ)). x ∷ r) (without-snoc-same xs y i (omega arith))

pub without-snoc-other : (xs : List (List ℕ)) (y : List ℕ) (i : ℕ) → (length xs ≡ i → ⊥) → without (xs ++ (y ∷ [])) i ≡ without xs i ++ (y ∷ [])
without-snoc-other [] y zero ne = absurd (ne refl)
without-snoc-other [] y (suc i) ne = refl
without-snoc-other (x ∷ xs) y zero ne = refl
without-snoc-other (x ∷ xs) y (suc i) ne = ap (λ (r : List (List ℕ)). x ∷ r) (without-snoc-other xs y i (λ e. ne (ap suc e)))
