-- A write folded into the parity straight from the places of all disks but two: a loop over the disks; that what is stored so far does not change what is still to be read; and that the old parity cancels. Assumes nothing.
use Prim.Native.Nat.{ℕ, zero, suc, ◌+◌, ◌≤◌, ◌<◌, zero-le}
use mathlib.Core.Path.{◌≡◌, refl, sym, ap, ap₂, ◌∙◌}
use mathlib.Core.Bool.{Bool, true, false, not, ◌&&◌}
use mathlib.Core.Logic.{◌≢◌, inl, inr}
use mathlib.Core.List.{List}
use native.Mathlib.Decide.{ℕ_discrete}
use native.Mathlib.Numerals.{add-one}
use native.Mathlib.Omega.{arith}
use borrow.Author.Tests.{eq-eqb, ne_eqb}
use lib.Dec.{eqb}
use lib.ListN.{length, length-replicate}
use Rattle.parity.specs.declared.types.Gapped.{Gapped}
use Rattle.blocks.specs.Block.{block_at, store, Disjoint}
use Rattle.blocks.specs.Xor.{xor_b}
use Rattle.blocks.specs.Stripe.{others}
use Rattle.parity.specs.Fold.{counted, start_of, place_of, gapped_to, gapped, new_parity, FoldInside}
use Rattle.blocks.proofs.Laws.Block.{block_at-within, block_at-zeros, block_at-other, block_at-short}
use Rattle.blocks.proofs.Laws.Xor.{xor_b-comm, xor_b-assoc, xor_b-zeros, xor_b-cancel, block_at-xor_b, length-xor_b, length-xor_b-short}
use Rattle.blocks.proofs.Laws.Stripe.{places-apart, others-in, others-out, length-others}
use Rattle.parity.proofs.Laws.Replace.{Steady, Replaced, replaced-more, replaced-all}

-- ---- which disks are counted

neither : (p q : Bool) → p ≡ false → q ≡ false → not p && not q ≡ true
neither p q h k = rw (h, k)

first_of : (p q : Bool) → p ≡ true → not p && not q ≡ false
first_of p q h = rw h

second-of : (p q : Bool) → q ≡ true → not p && not q ≡ false
second-of true q h = refl
second-of false q h = rw h

module _ (g : Gapped) (d : ℕ) where
  counted-in : d ≢ g.out → d ≢ g.parity → counted g d ≡ true
  unfolding counted
  counted-in h k = neither (eqb d g.out) (eqb d g.parity) (ne_eqb d g.out h) (ne_eqb d g.parity k)

  counted-out : d ≡ g.out → counted g d ≡ false
  unfolding counted
  counted-out e = first_of (eqb d g.out) (eqb d g.parity) (eq-eqb d g.out e)

  counted-parity : d ≡ g.parity → counted g d ≡ false
  unfolding counted
  counted-parity e = second-of (eqb d g.out) (eqb d g.parity) (eq-eqb d g.parity e)

-- one disk more: its place is xored in, or it is a gap
module _ (g : Gapped) (l : List ℕ) (d : ℕ) where
  gapped-in : counted g d ≡ true → gapped_to g l (suc d) ≡ xor_b (gapped_to g l d) (place_of g l d)
  gapped-in e = rw e

  gapped-over : counted g d ≡ false → gapped_to g l (suc d) ≡ gapped_to g l d
  gapped-over e = rw e

-- ---- a loop over the disks

-- after the turns up to disk d, b is x and, from at on, n bytes of each place that is counted
pub record Gathered (g : Gapped) (l : List ℕ) (at n : ℕ) (x b : List ℕ) (d : ℕ) : Type 0 where
  pub is : b ≡ xor_b x (block_at (gapped_to g l d) at n)
  pub within : d ≤ g.disks

pub gathered_none : (g : Gapped) (l : List ℕ) (at n : ℕ) (x : List ℕ) → at + n ≤ g.len → n ≤ length x → Gathered g l at n x x 0
gathered_none g l at n x h k = record { is = sym (ap (xor_b x) (block_at-zeros g.len at n h) ∙ xor_b-zeros x n k); within = zero-le }

module _ {g : Gapped} {l : List ℕ} {at n : ℕ} {x b b' : List ℕ} {d : ℕ} (lt : d < g.disks) where
  pub gathered-in : {from : ℕ} → at + n ≤ g.len → counted g d ≡ true → from ≡ start_of g d + at → Gathered g l at n x b d → b' ≡ xor_b b (block_at l from n)
      → Gathered g l at n x b' (d + 1)
  gathered-in {from} h e p f q =
      let s : List ℕ = gapped_to g l d in
      let y : List ℕ = place_of g l d in
      record {
        is =
            q ∙ ap₂ (λ (u : List ℕ) (i : ℕ). xor_b u (block_at l i n)) f.is p
            ∙ ap (xor_b (xor_b x (block_at s at n))) (sym (block_at-within l (start_of g d) g.len at n h))
            ∙ xor_b-assoc x (block_at s at n) (block_at y at n)
            ∙ ap (xor_b x) (sym (block_at-xor_b s y at n) ∙ ap (λ (r : List ℕ). block_at r at n) (sym (gapped-in g l d e)))
            ∙ rw (add-one d);
        within = omega arith;
      }

  pub gathered-over : counted g d ≡ false → Gathered g l at n x b d → b' ≡ b → Gathered g l at n x b' (d + 1)
  gathered-over e f q =
      record { is = q ∙ f.is ∙ ap (λ (r : List ℕ). xor_b x (block_at r at n)) (sym (gapped-over g l d e)) ∙ rw (add-one d); within = omega arith }

-- ---- the old parity cancels

module _ (g : Gapped) (l : List ℕ) where
  -- the places of the first N disks but `out`
  abbrev rest : ℕ → List ℕ
  rest N = others g.len g.stripes l g.stripe N g.out

  -- up to the parity's disk the sum is that of all disks but `out`
  gapped-before : (N : ℕ) → N ≤ g.parity → gapped_to g l N ≡ rest N
  gapped-before zero h = refl
  gapped-before (suc N) h =
      let ih : gapped_to g l N ≡ rest N = gapped-before N (omega arith) in
      elim (ℕ_discrete N g.out) [
        | yes e ↦ gapped-over g l N (counted-out g N e) ∙ ih ∙ sym (others-out g.len g.stripes l g.stripe N g.out e)
        | no ne ↦
            gapped-in g l N (counted-in g N ne (λ e. absurd (omega arith))) ∙ ap (λ (r : List ℕ). xor_b r (place_of g l N)) ih
            ∙ sym (others-in g.len g.stripes l g.stripe N g.out ne)
      ]

  -- after it the old parity is xored in once more
  gapped-is : (N : ℕ) → g.out ≢ g.parity → g.parity < N → gapped_to g l N ≡ xor_b (place_of g l g.parity) (rest N)
  gapped-is zero apart h = absurd (omega arith)
  gapped-is (suc N) apart h = go (λ k. gapped-is N apart k) (ℕ_discrete N g.parity) (ℕ_discrete N g.out)
    where
      P : List ℕ
      P = place_of g l g.parity

      short : length P ≤ length (rest N)
      short = rw (length-others g.len g.stripes l g.stripe N g.out) (block_at-short l (start_of g g.parity) g.len)

      kept : N ≢ g.out → xor_b (rest N) (place_of g l N) ≡ rest (suc N)
      kept ne = sym (others-in g.len g.stripes l g.stripe N g.out ne)

      go : (g.parity < N → gapped_to g l N ≡ xor_b P (rest N)) → Dec (N ≡ g.parity) → Dec (N ≡ g.out) → gapped_to g l (suc N) ≡ xor_b P (rest (suc N))
      go ih (yes p) (yes e) = absurd (apart (sym e ∙ p))
      go ih (yes p) (no ne) =
          gapped-over g l N (counted-parity g N p) ∙ gapped-before N (omega arith) ∙ sym (xor_b-cancel P (rest N) short)
          ∙ ap (λ (d : ℕ). xor_b P (xor_b (rest N) (place_of g l d))) (sym p)
          ∙ ap (xor_b P) (kept ne)
      go ih (no np) (yes e) =
          gapped-over g l N (counted-out g N e) ∙ ih (omega arith)
          ∙ ap (xor_b P) (sym (others-out g.len g.stripes l g.stripe N g.out e))
      go ih (no np) (no ne) =
          gapped-in g l N (counted-in g N ne np) ∙ ap (λ (r : List ℕ). xor_b r (place_of g l N)) (ih (omega arith))
          ∙ xor_b-assoc P (rest N) (place_of g l N)
          ∙ ap (xor_b P) (kept ne)

  -- so the new parity is the old one, xor what stands for the old block, xor the bytes
  new_is : (b : List ℕ) → g.out ≢ g.parity → g.parity < g.disks → new_parity g l b ≡ xor_b (xor_b (place_of g l g.parity) (rest g.disks)) b
  new_is b apart h = xor_b-comm b (gapped g l) ∙ ap (λ (r : List ℕ). xor_b r b) (gapped-is g.disks apart h)

-- ---- the fold, piece by piece

length-gapped : (g : Gapped) (l : List ℕ) (N : ℕ) → length (gapped_to g l N) ≡ g.len
length-gapped g l zero = length-replicate g.len 0
length-gapped g l (suc N) = go (counted g N) refl (length-gapped g l N)
  where
    go : (c : Bool) → counted g N ≡ c → length (gapped_to g l N) ≡ g.len → length (gapped_to g l (suc N)) ≡ g.len
    go true q ih = ap length (gapped-in g l N q) ∙ length-xor_b-short (gapped_to g l N) (place_of g l N) g.len ih (block_at-short l (start_of g N) g.len)
    go false q ih = ap length (gapped-over g l N q) ∙ ih

length-new : (g : Gapped) (l b : List ℕ) → length b ≡ g.len → length (new_parity g l b) ≡ g.len
length-new g l b e = length-xor_b b (gapped g l) g.len e (length-gapped g l g.disks)

-- bytes stored within the parity's place are not among those that are counted
gapped-kept : (g : Gapped) (l : List ℕ) (at : ℕ) (v : List ℕ) (N : ℕ) → g.stripe < g.stripes → at + length v ≤ g.len
    → gapped_to g (store l (start_of g g.parity + at) v) N ≡ gapped_to g l N
gapped-kept g l at v zero hs h = refl
gapped-kept g l at v (suc N) hs h = go (gapped-kept g l at v N hs h) (ℕ_discrete N g.out) (ℕ_discrete N g.parity)
  where
    l' : List ℕ
    l' = store l (start_of g g.parity + at) v

    inside : Disjoint (start_of g g.parity) g.len (start_of g N) g.len → Disjoint (start_of g g.parity + at) (length v) (start_of g N) g.len
    inside (inl k) = inl (omega arith)
    inside (inr k) = inr (omega arith)

    same : N ≢ g.parity → place_of g l' N ≡ place_of g l N
    same ne =
        block_at-other l (start_of g g.parity + at) v (start_of g N) g.len
        (inside (places-apart g.len g.stripes g.stripe g.parity g.stripe N hs hs (inr ne)))

    over : counted g N ≡ false → gapped_to g l' N ≡ gapped_to g l N → gapped_to g l' (suc N) ≡ gapped_to g l (suc N)
    over q ih = gapped-over g l' N q ∙ ih ∙ sym (gapped-over g l N q)

    go : gapped_to g l' N ≡ gapped_to g l N → Dec (N ≡ g.out) → Dec (N ≡ g.parity) → gapped_to g l' (suc N) ≡ gapped_to g l (suc N)
    go ih (yes e) y = over (counted-out g N e) ih
    go ih (no ne) (yes p) = over (counted-parity g N p) ih
    go ih (no ne) (no np) =
        let q : counted g N ≡ true = counted-in g N ne np in
        gapped-in g l' N q ∙ ap₂ xor_b ih (same np) ∙ sym (gapped-in g l N q)

-- from `first` to before at the new parity is stored in l, which was l₀
abbrev pub Reconstructed : Gapped → List ℕ → List ℕ → ℕ → List ℕ → ℕ → Type 0
Reconstructed g b = Replaced (λ (r : List ℕ). new_parity g r b) (start_of g g.parity) g.len

module _ {g : Gapped} (b : List ℕ) {images : ℕ} (w : FoldInside g images (length b)) where
  pub others-steady : (l : List ℕ) → Steady (λ (r : List ℕ). new_parity g r b) (start_of g g.parity) g.len l
  others-steady l =
      record {
        long = length-new g l b w.1;
        kept =
            λ first v m h.
            ap (λ (r : List ℕ). block_at (xor_b b r) (first + length v) m)
            (gapped-kept g l first v g.disks w.0.stripe_lt (omega arith));
      }

  -- a turn: n bytes s, which are those of b from at on, x, and of the places counted
  pub others-more : {l₀ : List ℕ} {first : ℕ} {l l' : List ℕ} {at to : ℕ} {x s : List ℕ} → Reconstructed g b l₀ first l at → (n : ℕ)
      → at + n ≤ g.len → x ≡ block_at b at n → s ≡ xor_b x (block_at (gapped g l) at n) → to ≡ start_of g g.parity
      → l' ≡ store l (to + at) s → Reconstructed g b l₀ first l' (at + n)
  others-more {l₀} {first} {l} {l'} {at} {to} {x} {s} f n h e p t q =
      replaced-more (others-steady l₀) f n h
      (p ∙ ap (λ (r : List ℕ). xor_b r (block_at (gapped g l) at n)) e ∙ sym (block_at-xor_b b (gapped g l) at n))
      (q ∙ ap (λ (i : ℕ). store l (i + at) s) t)

  -- all of it
  pub others-all : {l₀ l : List ℕ} {at : ℕ} → g.out ≢ g.parity → Reconstructed g b l₀ 0 l at → g.len ≤ at
      → l ≡ store l₀ (start_of g g.parity) (xor_b (xor_b (place_of g l₀ g.parity) (rest g l₀ g.disks)) b)
  others-all {l₀} apart f k =
      replaced-all (others-steady l₀) f k ∙ ap (store l₀ (start_of g g.parity)) (new_is g l₀ b apart w.0.parity_lt)
