-- Bytes that are read, xored and stored side by side: four blocks one after the other are one, and so are four xors and four stores.
-- Assumes nothing.
use Prim.Native.Nat.{ℕ, ◌+◌, ◌*◌, ◌<◌}
use mathlib.Core.Path.{◌≡◌, refl, sym, ap, ap₂, ◌∙◌}
use mathlib.Core.List.{List, [], ◌∷◌, ◌++◌}
use native.Mathlib.Omega.{arith}
use lib.Bits.{bit_xor}
use lib.ListN.{length, get_or}
use Rattle.blocks.specs.Block.{block_at, store}
use Rattle.blocks.specs.Xor.{xor_b}
use Rattle.blocks.proofs.Laws.Block.{store-append, block_at-cons, block_at-split}

-- a block of one byte
pub block_one : (l : List ℕ) (at : ℕ) → at < length l → get_or l at 0 ∷ [] ≡ block_at l at 1
block_one l at h = sym (block_at-cons l at 0 h)

-- ---- four, one after the other

-- n bytes of each
pub blocks-four : (l : List ℕ) (at n : ℕ) → block_at l at n ++ (block_at l (at + n) n ++ (block_at l (at + 2 * n) n ++ block_at l (at + 3 * n) n)) ≡ block_at l at (4 * n)
blocks-four l at n =
    let four : 4 * n ≡ n + (n + (n + n)) = omega arith in
    let e : at + n + n ≡ at + 2 * n = omega arith in
    let f : at + 2 * n + n ≡ at + 3 * n = omega arith in
    sym
    (ap (block_at l at) four ∙ block_at-split l at n (n + (n + n))
    ∙ ap (λ (r : List ℕ). block_at l at n ++ r)
    (block_at-split l (at + n) n (n + n)
    ∙ ap (λ (r : List ℕ). block_at l (at + n) n ++ r)
    (ap (λ (i : ℕ). block_at l i (n + n)) e ∙ block_at-split l (at + 2 * n) n n ∙ ap (λ (i : ℕ). block_at l (at + 2 * n) n ++ block_at l i n) f)))

xor_b-append : (a b c d : List ℕ) → length a ≡ length c → xor_b (a ++ b) (c ++ d) ≡ xor_b a c ++ xor_b b d
xor_b-append [] b [] d h = refl
xor_b-append [] b (y ∷ c) d h = absurd (omega arith)
xor_b-append (x ∷ a) b [] d h = absurd (omega arith)
xor_b-append (x ∷ a) b (y ∷ c) d h = ap (λ (r : List ℕ). bit_xor x y ∷ r) (xor_b-append a b c d (omega arith))

pub xors-four : (a b c d a' b' c' d' : List ℕ) → length a ≡ length a' → length b ≡ length b' → length c ≡ length c'
    → xor_b a a' ++ (xor_b b b' ++ (xor_b c c' ++ xor_b d d')) ≡ xor_b (a ++ (b ++ (c ++ d))) (a' ++ (b' ++ (c' ++ d')))
xors-four a b c d a' b' c' d' p q r =
    sym
    (xor_b-append a (b ++ (c ++ d)) a' (b' ++ (c' ++ d')) p
    ∙ ap (λ (x : List ℕ). xor_b a a' ++ x)
    (xor_b-append b (c ++ d) b' (c' ++ d') q ∙ ap (λ (x : List ℕ). xor_b b b' ++ x) (xor_b-append c d c' d' r)))

-- four stores, each after the one before
pub stores-four : (l : List ℕ) {l₁ l₂ l₃ l₄ : List ℕ} (at : ℕ) {i j m : ℕ} (a b c d : List ℕ) → l₁ ≡ store l at a → l₂ ≡ store l₁ i b → l₃ ≡ store l₂ j c → l₄ ≡ store l₃ m d
    → i ≡ at + length a → j ≡ i + length b → m ≡ j + length c → l₄ ≡ store l at (a ++ (b ++ (c ++ d)))
stores-four l {l₁} {l₂} {l₃} {l₄} at {i} {j} {m} a b c d p q r s e f g =
    s ∙ ap₂ (λ (x : List ℕ) (k : ℕ). store x k d) r g ∙ sym (store-append l₂ j c d)
    ∙ ap₂ (λ (x : List ℕ) (k : ℕ). store x k (c ++ d)) q f
    ∙ sym (store-append l₁ i b (c ++ d))
    ∙ ap₂ (λ (x : List ℕ) (k : ℕ). store x k (b ++ (c ++ d))) p e
    ∙ sym (store-append l at a (b ++ (c ++ d)))
