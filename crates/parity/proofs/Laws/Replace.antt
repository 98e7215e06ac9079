-- A new parity stored part by part, in parts of any width: what is stored so far, one part more, and all of it. Assumes nothing.
use Prim.Native.Nat.{ℕ, ◌+◌, ◌-◌, ◌≤◌}
use mathlib.Core.Path.{◌≡◌, refl, sym, ap, ap₂, ◌∙◌}
use mathlib.Core.List.{List}
use native.Mathlib.Nat.{add-zero}
use native.Mathlib.Omega.{arith}
use lib.ListN.{length}
use lib.Seq.{take_all}
use Rattle.blocks.specs.Block.{block_at, store, copied_to}
use Rattle.blocks.proofs.Laws.Block.{block_at-split, length-block_at, length-store, store-nil, store-append}

-- F l₀, the parity that the images l₀ are to have from `to` on, has n bytes; bytes stored there do not change those that are to follow them
pub record Steady (F : List ℕ → List ℕ) (to n : ℕ) (l₀ : List ℕ) : Type 0 where
  pub long : length (F l₀) ≡ n
  pub kept : (first : ℕ) (v : List ℕ) (m : ℕ) → first + length v + m ≤ n
      → block_at (F (store l₀ (to + first) v)) (first + length v) m ≡ block_at (F l₀) (first + length v) m

-- from `first` to before at the new parity is stored in l, which was l₀
pub record Replaced (F : List ℕ → List ℕ) (to n : ℕ) (l₀ : List ℕ) (first : ℕ) (l : List ℕ) (at : ℕ) : Type 0 where
  pub is : l ≡ copied_to l₀ (to + first) (F l₀) first (at - first)
  pub size : length l ≡ length l₀
  pub behind : first ≤ at
  pub within : at ≤ n

module _ {F : List ℕ → List ℕ} {to n : ℕ} where
  pub replaced-none : {l : List ℕ} {first : ℕ} → first ≤ n → Replaced F to n l first l first
  replaced-none {l} {first} h =
      let e : first - first ≡ 0 = omega arith in
      record {
        is = sym (ap (λ (m : ℕ). copied_to l (to + first) (F l) first m) e ∙ store-nil l (to + first));
        size = refl;
        behind = omega arith;
        within = h;
      }

  module _ {l₀ : List ℕ} (w : Steady F to n l₀) where
    -- a part more, from at to before end
    pub replaced-on : {first : ℕ} {l l' : List ℕ} {at : ℕ} → Replaced F to n l₀ first l at → (end : ℕ) → at ≤ end → end ≤ n
        → l' ≡ copied_to l (to + at) (F l) at (end - at) → Replaced F to n l₀ first l' end
    replaced-on {first} {l} {l'} {at} f end h k q =
        let p : List ℕ = F l₀ in
        let m : ℕ = end - at in
        let v : List ℕ = block_at p first (at - first) in
        let size : length v ≡ at - first = length-block_at p first (at - first) (omega (arith, w.long, f.behind, f.within)) in
        let reach : at ≡ first + length v = omega (arith, f.behind) in
        let room : first + length v + m ≤ n = omega arith in
        let flat : to + (first + length v) ≡ to + first + length v = omega arith in
        let sum : at - first + m ≡ end - first = omega (arith, f.behind) in
        record {
          is =
              q ∙ ap₂ (λ (r : List ℕ) (i : ℕ). copied_to r (to + i) (F r) i m) f.is reach
              ∙ ap₂ (store (store l₀ (to + first) v)) flat (w.kept first v m room ∙ ap (λ (i : ℕ). block_at p (first + i) m) size)
              ∙ sym (store-append l₀ (to + first) v (block_at p (first + (at - first)) m))
              ∙ ap (store l₀ (to + first)) (sym (block_at-split p first (at - first) m) ∙ ap (block_at p first) sum);
          size = ap length q ∙ length-store l (to + at) (block_at (F l) at m) ∙ f.size;
          behind = omega (arith, f.behind);
          within = k;
        }

    -- a turn: s, m bytes of it, stored
    pub replaced-more : {first : ℕ} {l l' : List ℕ} {at : ℕ} {s : List ℕ} → Replaced F to n l₀ first l at → (m : ℕ) → at + m ≤ n
        → s ≡ block_at (F l) at m → l' ≡ store l (to + at) s → Replaced F to n l₀ first l' (at + m)
    replaced-more {first} {l} {l'} {at} f m h e q =
        let c : m ≡ at + m - at = omega arith in
        replaced-on f (at + m) (omega arith) h (q ∙ ap (store l (to + at)) (e ∙ ap (block_at (F l) at) c))

    -- all of it
    pub replaced-all : {l : List ℕ} {at : ℕ} → Replaced F to n l₀ 0 l at → n ≤ at → l ≡ store l₀ to (F l₀)
    replaced-all {l} {at} f h = f.is ∙ ap₂ (store l₀) (add-zero to) (take_all (at - 0) (F l₀) (omega (arith, w.long)))
