-- A write folded into the parity over its old block, which lies apart from it and so is read as it was. Assumes nothing.
use Prim.Native.Nat.{ℕ, ◌+◌, ◌≤◌}
use mathlib.Core.Path.{◌≡◌, refl, sym, ap, ap₂, ◌∙◌}
use mathlib.Core.Logic.{inl, inr}
use mathlib.Core.List.{List}
use native.Mathlib.Omega.{arith}
use lib.ListN.{length}
use Rattle.blocks.specs.Block.{block_at, store, Disjoint}
use Rattle.blocks.specs.Xor.{xor_b}
use Rattle.blocks.proofs.Laws.Block.{block_at-within, block_at-other, length-block_at}
use Rattle.blocks.proofs.Laws.Xor.{block_at-xor_b}
use Rattle.blocks.proofs.Laws.Fill.{length-folded}
use Rattle.parity.specs.Fold.{folded, ModifyInside}
use Rattle.parity.proofs.Laws.Replace.{Steady, Replaced, replaced-more}

-- from `first` to before i the new parity is stored in l, which was l₀
abbrev pub Modified : ℕ → ℕ → List ℕ → List ℕ → ℕ → List ℕ → ℕ → Type 0
Modified parity at b = Replaced (λ (r : List ℕ). folded r parity at b) parity (length b)

-- bytes stored in the parity are not among those of the old block
apart : {parity at len : ℕ} → Disjoint parity len at len → (first v n : ℕ) → first + v + n ≤ len
    → Disjoint (parity + first) v (at + (first + v)) n
apart (inl h) first v n k = inl (omega arith)
apart (inr h) first v n k = inr (omega arith)

module _ (parity at : ℕ) (b : List ℕ) where
  -- a part of the new parity is made of the same part of each block
  folded-part : (l : List ℕ) (i n : ℕ) → i + n ≤ length b
      → block_at (folded l parity at b) i n ≡ xor_b (xor_b (block_at l (parity + i) n) (block_at l (at + i) n)) (block_at b i n)
  folded-part l i n h =
      let p : List ℕ = block_at l parity (length b) in
      let o : List ℕ = block_at l at (length b) in
      block_at-xor_b (xor_b p o) b i n
      ∙ ap (λ (r : List ℕ). xor_b r (block_at b i n))
      (block_at-xor_b p o i n ∙ ap₂ xor_b (block_at-within l parity (length b) i n h) (block_at-within l at (length b) i n h))

  module _ (l₀ : List ℕ) (w : ModifyInside parity at (length b) (length l₀)) where
    pub modify-steady : Steady (λ (r : List ℕ). folded r parity at b) parity (length b) l₀
    modify-steady =
        record {
          long = length-folded l₀ parity (block_at l₀ at (length b)) b (length b) w.0 (length-block_at l₀ at (length b) w.1) refl;
          kept =
              λ first v n h.
              let i : ℕ = first + length v in
              let l : List ℕ = store l₀ (parity + first) v in
              let par : block_at l (parity + i) n ≡ block_at l₀ (parity + i) n =
              block_at-other l₀ (parity + first) v (parity + i) n (inl (omega arith)) in
              let old : block_at l (at + i) n ≡ block_at l₀ (at + i) n =
              block_at-other l₀ (parity + first) v (at + i) n (apart w.2 first (length v) n h) in
              folded-part l i n h ∙ ap₂ (λ (x y : List ℕ). xor_b (xor_b x y) (block_at b i n)) par old ∙ sym (folded-part l₀ i n h);
        }

    -- a turn: n bytes s, the xor of x of the parity, y of the old block and z of b
    pub modified-more : {first : ℕ} {l l' : List ℕ} {i : ℕ} {x y z s : List ℕ} → Modified parity at b l₀ first l i → (n : ℕ)
        → i + n ≤ length b → x ≡ block_at l (parity + i) n → y ≡ block_at l (at + i) n → z ≡ block_at b i n → s ≡ xor_b (xor_b x y) z
        → l' ≡ store l (parity + i) s → Modified parity at b l₀ first l' (i + n)
    modified-more {l = l} {i = i} f n h ex ey ez es q =
        replaced-more modify-steady f n h (es ∙ ap₂ xor_b (ap₂ xor_b ex ey) ez ∙ sym (folded-part l i n h)) q
