-- The places of the images: where they lie, one byte of each, a store into one, and the xor over a stripe byte by byte. Assumes nothing.
use Prim.Native.Nat.{ℕ, zero, suc, ◌+◌, ◌*◌, ◌≤◌, ◌<◌}
use mathlib.Core.Path.{◌≡◌, refl, sym, ap, ap₂, ◌∙◌, subst}
use mathlib.Core.Logic.{◌≢◌, ◌⊎◌, inl, inr, ⊎_elim}
use mathlib.Core.List.{List, [], ◌∷◌}
use native.Mathlib.Decide.{ℕ_discrete, dec_lt}
use native.Mathlib.Nat.{mul-le-mul_right}
use native.Mathlib.Omega.{arith}
use lib.ListN.{length, get_or, length-append, length-replicate}
use Rattle.blocks.specs.Block.{store, Disjoint}
use Rattle.blocks.specs.Xor.{xor_b, xor_all, without}
use Rattle.blocks.specs.Stripe.{offset, place, stripe, others}
use Rattle.blocks.proofs.Laws.Block.{get_or-store-other, block_at-store, block_at-other, length-block_at, get_or-block_at, block_at-short}
use Rattle.blocks.proofs.Laws.Xor.{get_or-xor_b, get_or-zeros, length-xor_b-short, xor_all-snoc, without-snoc-same, without-snoc-other}
use Rattle.blocks.proofs.Laws.Rows.{put, put_same, put_other, ◌⊕◌, sum, rest, zero-r}
use Rattle.blocks.proofs.Laws.Grid.{store_at, store_at-same, store_at-row, store_at-far}

-- byte j of place (S, d)
abbrev pub cell : ℕ → ℕ → List ℕ → ℕ → ℕ → ℕ → ℕ
cell B T l j S d = get_or l (offset B T S d + j) 0

-- ---- where places lie

-- a place lies within the images
pub place-in : (B T S d N : ℕ) → S < T → d < N → offset B T S d + B ≤ N * (T * B)
place-in B T S d N hs hd =
    let row : suc d * T ≤ N * T = mul-le-mul_right T hd in
    let next : suc (d * T + S) ≤ N * T = omega arith in
    omega (arith, mul-le-mul_right B next)

-- two places have no byte in common
pub places-apart : (B T S d S' d' : ℕ) → S < T → S' < T → (S' ≢ S) ⊎ (d' ≢ d) → Disjoint (offset B T S d) B (offset B T S' d') B
places-apart B T S d S' d' hs hs' ne = go (dec_lt (d' * T + S') (d * T + S)) (dec_lt (d * T + S) (d' * T + S'))
  where
    same-disk : d * T + S ≡ d' * T + S' → Dec (d < d') → Dec (d' < d) → d' ≡ d
    same-disk q (yes h) y = absurd (omega (arith, mul-le-mul_right T h))
    same-disk q (no h) (yes h') = absurd (omega (arith, mul-le-mul_right T h'))
    same-disk q (no h) (no h') = omega arith

    never : d * T + S ≡ d' * T + S' → (S' ≢ S) ⊎ (d' ≢ d) → ⊥
    never q (inl n) =
        let m : d' ≡ d = same-disk q (dec_lt d d') (dec_lt d' d) in
        let x : d * T + S ≡ d * T + S' = q ∙ ap (λ (k : ℕ). k * T + S') m in
        n (omega arith)
    never q (inr n) = n (same-disk q (dec_lt d d') (dec_lt d' d))

    go : Dec (d' * T + S' < d * T + S) → Dec (d * T + S < d' * T + S') → Disjoint (offset B T S d) B (offset B T S' d') B
    go (yes h) y = inr (omega (arith, mul-le-mul_right B h))
    go (no h) (yes h') = inl (omega (arith, mul-le-mul_right B h'))
    go (no h) (no h') = absurd (never (omega arith) ne)

-- no byte of one is in the other
pub byte-apart : (B T S d S' d' j : ℕ) → S < T → S' < T → j < B → (S' ≢ S) ⊎ (d' ≢ d)
    → (offset B T S' d' + j < offset B T S d) ⊎ (offset B T S d + B ≤ offset B T S' d' + j)
byte-apart B T S d S' d' j hs hs' hj ne = go (places-apart B T S d S' d' hs hs' ne)
  where
    go : Disjoint (offset B T S d) B (offset B T S' d') B → (offset B T S' d' + j < offset B T S d) ⊎ (offset B T S d + B ≤ offset B T S' d' + j)
    go (inl h) = inr (omega arith)
    go (inr h) = inl (omega arith)

-- ---- a place

pub length-place : (B T : ℕ) (l : List ℕ) (S d N : ℕ) → S < T → d < N → N * (T * B) ≤ length l → length (place B T l S d) ≡ B
length-place B T l S d N hs hd room = length-block_at l (offset B T S d) B (omega (arith, place-in B T S d N hs hd))

pub get_or-place : (B T : ℕ) (l : List ℕ) (S d j : ℕ) → j < B → get_or (place B T l S d) j 0 ≡ cell B T l j S d
get_or-place B T l S d j hj = get_or-block_at l (offset B T S d) B j hj

-- a store into another place leaves it
pub place-store-other : (B T : ℕ) (l : List ℕ) (S d S' d' : ℕ) (v : List ℕ) → S < T → S' < T → (S' ≢ S) ⊎ (d' ≢ d) → length v ≡ B
    → place B T (store l (offset B T S' d') v) S d ≡ place B T l S d
place-store-other B T l S d S' d' v hs hs' ne full =
    block_at-other l (offset B T S' d') v (offset B T S d) B
    (subst (λ (n : ℕ). Disjoint (offset B T S' d') n (offset B T S d) B) (sym full) (⊎_elim inr inl (places-apart B T S d S' d' hs hs' ne)))

-- a block stored into place (S, d) is that place of the grid of bytes j replaced
pub cell-store : (B T N : ℕ) (l : List ℕ) (S d : ℕ) (v : List ℕ) (j S' d' : ℕ) → length l ≡ N * (T * B) → S < T → d < N → length v ≡ B → j < B → S' < T
    → cell B T (store l (offset B T S d) v) j S' d' ≡ store_at (cell B T l j) S d (get_or v j 0) S' d'
cell-store B T N l S d v j S' d' size hs hd full hj hs' = go (ℕ_discrete S' S) (ℕ_discrete d' d)
  where
    far : (S' ≢ S) ⊎ (d' ≢ d) → cell B T (store l (offset B T S d) v) j S' d' ≡ cell B T l j S' d'
    far ne =
        get_or-store-other l (offset B T S d) v (offset B T S' d' + j) 0
        (subst (λ (n : ℕ). (offset B T S' d' + j < offset B T S d) ⊎ (offset B T S d + n ≤ offset B T S' d' + j)) (sym full) (byte-apart B T S d S' d' j hs hs' hj ne))

    here : cell B T (store l (offset B T S d) v) j S d ≡ get_or v j 0
    here =
        sym (get_or-place B T (store l (offset B T S d) v) S d j hj)
        ∙ ap (λ (b : List ℕ). get_or b j 0) (block_at-store l (offset B T S d) v B full (rw size (place-in B T S d N hs hd)))

    go : Dec (S' ≡ S) → Dec (d' ≡ d) → cell B T (store l (offset B T S d) v) j S' d' ≡ store_at (cell B T l j) S d (get_or v j 0) S' d'
    go (yes p) (yes p') = rw (p, p') (here ∙ sym (store_at-same (cell B T l j) S d (get_or v j 0)))
    go (yes p) (no n) = far (inr n) ∙ rw (p, store_at-row (cell B T l j) S d (get_or v j 0) d' n)
    go (no n) x = far (inl n) ∙ sym (store_at-far (cell B T l j) S d (get_or v j 0) S' d' n)

-- ---- the xor over a stripe

pub length-stripe : (B T : ℕ) (l : List ℕ) (S N : ℕ) → length (stripe B T l S N) ≡ N
length-stripe B T l S zero = refl
length-stripe B T l S (suc N) = length-append (stripe B T l S N) (place B T l S N ∷ []) ∙ ap (λ (k : ℕ). k + 1) (length-stripe B T l S N) ∙ omega arith

-- one disk more: its place is xored in, or it is the one left out
pub others-in : (B T : ℕ) (l : List ℕ) (S N d : ℕ) → N ≢ d → others B T l S (suc N) d ≡ xor_b (others B T l S N d) (place B T l S N)
others-in B T l S N d ne =
    ap (xor_all B) (without-snoc-other (stripe B T l S N) (place B T l S N) d (λ q. ne (sym (length-stripe B T l S N) ∙ q)))
    ∙ xor_all-snoc B (without (stripe B T l S N) d) (place B T l S N)

pub others-out : (B T : ℕ) (l : List ℕ) (S N d : ℕ) → N ≡ d → others B T l S (suc N) d ≡ others B T l S N d
others-out B T l S N d e = ap (xor_all B) (without-snoc-same (stripe B T l S N) (place B T l S N) d (sym e ∙ sym (length-stripe B T l S N)))

-- if d is none of the N disks, none is left out
pub others-all : (B T : ℕ) (l : List ℕ) (S N d : ℕ) → N ≤ d → others B T l S N d ≡ xor_all B (stripe B T l S N)
others-all B T l S zero d h = refl
others-all B T l S (suc N) d h =
    others-in B T l S N d (λ e. absurd (omega arith))
    ∙ ap (λ (b : List ℕ). xor_b b (place B T l S N)) (others-all B T l S N d (omega arith))
    ∙ sym (xor_all-snoc B (stripe B T l S N) (place B T l S N))

pub length-others : (B T : ℕ) (l : List ℕ) (S N d : ℕ) → length (others B T l S N d) ≡ B
length-others B T l S zero d = length-replicate B 0
length-others B T l S (suc N) d =
    let ih : length (others B T l S N d) ≡ B = length-others B T l S N d in
    elim (ℕ_discrete N d) [
      | yes e ↦ ap length (others-out B T l S N d e) ∙ ih
      | no ne ↦ ap length (others-in B T l S N d ne) ∙ length-xor_b-short (others B T l S N d) (place B T l S N) B ih (block_at-short l (offset B T S N) B)
    ]

-- of all but disk d's, byte by byte
pub get_or-others : (B T : ℕ) (l : List ℕ) (S N d j : ℕ) → j < B → get_or (others B T l S N d) j 0 ≡ rest N d (cell B T l j S)
unfolding rest sum
get_or-others B T l S zero d j hj = get_or-zeros B j
get_or-others B T l S (suc N) d j hj = go (ℕ_discrete N d) (get_or-others B T l S N d j hj)
  where
    f : ℕ → ℕ
    f = cell B T l j S

    go : Dec (N ≡ d) → get_or (others B T l S N d) j 0 ≡ sum N (put f d 0) → get_or (others B T l S (suc N) d) j 0 ≡ sum N (put f d 0) ⊕ put f d 0 N
    go (yes e) ih =
        ap (λ (b : List ℕ). get_or b j 0) (others-out B T l S N d e) ∙ ih
        ∙ rw (← e, put_same f N 0) (sym (zero-r (sum N (put f N 0))))
    go (no ne) ih =
        ap (λ (b : List ℕ). get_or b j 0) (others-in B T l S N d ne) ∙ get_or-xor_b (others B T l S N d) (place B T l S N) j
        ∙ ap₂ ◌⊕◌ ih (get_or-place B T l S N j hj ∙ sym (put_other f d 0 N ne))

-- a store into another stripe, or into disk d itself, leaves the xor of all but disk d's
pub others-store : (B T : ℕ) (l : List ℕ) (S N d S' d' : ℕ) (v : List ℕ) → S < T → S' < T → (S' ≢ S) ⊎ (d' ≡ d) → length v ≡ B
    → others B T (store l (offset B T S' d') v) S N d ≡ others B T l S N d
others-store B T l S zero d S' d' v hs hs' o full = refl
others-store B T l S (suc N) d S' d' v hs hs' o full = go (ℕ_discrete N d) (others-store B T l S N d S' d' v hs hs' o full)
  where
    l' : List ℕ
    l' = store l (offset B T S' d') v

    away : N ≢ d → (S' ≢ S) ⊎ (d' ≡ d) → (S' ≢ S) ⊎ (d' ≢ N)
    away ne (inl n) = inl n
    away ne (inr e) = inr (λ q. ne (sym q ∙ e))

    go : Dec (N ≡ d) → others B T l' S N d ≡ others B T l S N d → others B T l' S (suc N) d ≡ others B T l S (suc N) d
    go (yes e) ih = others-out B T l' S N d e ∙ ih ∙ sym (others-out B T l S N d e)
    go (no ne) ih =
        others-in B T l' S N d ne ∙ ap₂ xor_b ih (place-store-other B T l S N S' d' v hs hs' (away ne o) full)
        ∙ sym (others-in B T l S N d ne)
