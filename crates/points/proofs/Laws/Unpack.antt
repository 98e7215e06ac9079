-- The loops of the way back: before them, a turn, after them. Assumes nothing.
use Prim.Native.Nat.{ℕ, ◌+◌, ◌*◌, ◌%◌, ◌<◌, ◌≤◌}
use mathlib.Core.Path.{◌≡◌, refl, sym, ap, ap₂, ◌∙◌, subst}
use mathlib.Core.Logic.{inr}
use mathlib.Core.List.{List}
use native.Mathlib.Omega.{arith}
use lib.ListN.{length, get_or, drop}
use Rattle.blocks.specs.Number.{two}
use Rattle.blocks.proofs.Laws.Fill.{Filled, filled_none, filled-more₀, filled-other, filled-all₀}
use Rattle.points.specs.Points.{low, high, half, points_of, from_sides, plus, sums_from, sums, bytes_of, unpacked}
use Rattle.points.specs.Part.{with_point, EvenAndAlike}
use Rattle.points.proofs.Laws.Ways.{points-bytes, length-points, length-bytes, length-sums, length-from-sides}
use Rattle.points.proofs.Laws.Elements.{get_or-points, get_or-from-sides, get_or-low, get_or-high, sum-at, sums-rest}

-- ---- points stored one by one

-- t is t₀ with the first i points of ps
abbrev pub Stored : List ℕ → List ℕ → List ℕ → ℕ → Type 0
Stored ps t₀ t i = Filled t₀ 0 (bytes_of ps) (length t₀) t (2 * i)

stored-none : (ps t : List ℕ) → 2 * length ps ≡ length t → Stored ps t t 0
stored-none ps t e = filled_none (length-bytes ps ∙ e)

stored_more : (ps : List ℕ) (i : ℕ) {t₀ t t' : List ℕ} {r : ℕ} → 2 * i + 1 < length t₀ → r ≡ get_or ps i 0 → t' ≡ with_point t i r → Stored ps t₀ t i → Stored ps t₀ t' (i + 1)
stored_more ps i {t₀} {t} {t'} {r} h e q f =
    let s : 2 * i + 1 + 1 ≡ 2 * (i + 1) = omega arith in
    let first = filled-more₀ f (omega arith) (ap low e ∙ sym (get_or-low ps i)) in
    let second = filled-more₀ first h (ap high e ∙ sym (get_or-high ps i)) in
    subst (λ (x : List ℕ). Filled t₀ 0 (bytes_of ps) (length t₀) x (2 * (i + 1))) (sym q) (subst (λ (j : ℕ). Filled t₀ 0 (bytes_of ps) (length t₀) (with_point t i r) j) s second)

pub stored-all : (ps : List ℕ) (i : ℕ) {t₀ t : List ℕ} → length t₀ ≤ 2 * i → Stored ps t₀ t i → t ≡ bytes_of ps
stored-all ps i h f = filled-all₀ f h refl

-- ---- joined from the two sides

module _ (l t₀ : List ℕ) (a : EvenAndAlike l t₀) where
  pub joining-none : Stored (from_sides l) t₀ t₀ 0
  joining-none = stored-none (from_sides l) t₀ (omega (arith, length-from-sides l a.0, a.0, a.1))

  pub joining-more : {t t' : List ℕ} {i r : ℕ} → i < half l → r ≡ two (get_or l i 0) (get_or l (half l + i) 0) → t' ≡ with_point t i r → Stored (from_sides l) t₀ t i → Stored (from_sides l) t₀ t' (i + 1)
  joining-more {i = i} h e q f = stored_more (from_sides l) i (omega (arith, a.1)) (e ∙ sym (get_or-from-sides l i a.0 h)) q f

-- ---- added up in place

-- the last of the i points is p
pub record Adding (l t : List ℕ) (p i : ℕ) : Type 0 where
  pub stored : Stored (sums (points_of l)) l t i
  pub rest : drop i (sums (points_of l)) ≡ sums_from p (drop i (points_of l))

module _ (l : List ℕ) (even : length l % 2 ≡ 0) where
  pub adding-none : Adding l l 0 0
  adding-none = record { stored = stored-none (sums (points_of l)) l (omega (arith, length-sums 0 (points_of l), length-points l)); rest = refl }

  -- what is still to be added is as it was
  waits : {t : List ℕ} {p i : ℕ} → i < half l → Adding l t p i → get_or (points_of t) i 0 ≡ get_or (points_of l) i 0
  waits {t} {p} {i} h f =
      get_or-points t i (omega (arith, f.stored.size))
      ∙ ap₂ two (filled-other f.stored (2 * i) (inr (omega arith))) (filled-other f.stored (2 * i + 1) (inr (omega arith)))
      ∙ sym (get_or-points l i (omega arith))

  pub adding-more : {t t' : List ℕ} {p d r i : ℕ} → i < half l → d ≡ get_or (points_of t) i 0 → r ≡ plus p d → t' ≡ with_point t i r → Adding l t p i → Adding l t' r (i + 1)
  adding-more {t} {t'} {p} {d} {r} {i} h e q w f =
      let ds : List ℕ = points_of l in
      let k : i < length ds = omega (arith, length-points l) in
      let n : plus p (get_or ds i 0) ≡ r = ap (plus p) (sym (e ∙ waits h f)) ∙ sym q in
      record {
        stored = stored_more (sums ds) i (omega arith) (sym (sum-at 0 p i ds k f.rest ∙ n)) w f.stored;
        rest = sums-rest 0 p i ds k f.rest ∙ ap (λ (x : ℕ). sums_from x (drop (i + 1) ds)) n;
      }

-- ---- the whole way

module _ (l : List ℕ) {t₁ : List ℕ} (e : t₁ ≡ bytes_of (from_sides l)) where
  pub joined-even : length t₁ % 2 ≡ 0
  joined-even = let n : length t₁ ≡ 2 * length (from_sides l) = ap length e ∙ length-bytes (from_sides l) in omega arith

  pub unpacked-by : {t₂ : List ℕ} → t₂ ≡ bytes_of (sums (points_of t₁)) → t₂ ≡ unpacked l
  unpacked-by f = f ∙ ap (λ (x : List ℕ). bytes_of (sums (points_of x))) e ∙ ap (λ (x : List ℕ). bytes_of (sums x)) (points-bytes (from_sides l))
