-- The conditions of the table's rows, as facts; and the number given, by them. Assumes nothing.
use Prim.Native.Nat.{ℕ, ◌≤◌}
use mathlib.Core.Path.{◌≡◌, refl, sym, ap, ◌∙◌}
use mathlib.Core.Bool.{Bool, true, false, true≢false, not, cond, ◌&&◌, ◌||◌}
use mathlib.Core.Logic.{◌⊎◌, inl, inr, ◌≢◌, ◌↔◌}
use mathlib.Core.List.{List, [], ◌∷◌}
use native.Mathlib.Decide.{ℕ_discrete}
use native.Mathlib.Omega.{arith}
use lib.Dec.{eqb, ltb}
use borrow.Author.Tests.{not-true, not-false, eqb-true, eqb-false, ltb-true, lt-ltb}
use Rattle.layout.specs.declared.Geometry.{Geometry}
use Rattle.layout.specs.Layout.{total_of}
use Rattle.layout.proofs.Laws.Basics.{le-or-lt}
use Rattle.state.specs.declared.types.Health.TheVariants.{Whole, Out, Lost, Rebuilding}
use Rattle.state.specs.declared.types.Health.{Health}
use Rattle.state.specs.declared.types.Record.{Record}
use Rattle.state.specs.Good.{within, old_good, block_good, stripes_good, good, GoodRecord}
use Rattle.state.proofs.Laws.Good.{within-true, true-within, limits, within-limits}
use Rattle.calls.specs.Health.{is_lost, is_degraded, is_out, is_rebuilding}
use Rattle.calls.specs.Table.{Row, word, idle, formable}
use Rattle.calls.specs.Numbered.{Reason, Gives, Outside, Rebuilds}
use Rattle.calls.proofs.Laws.Health.{which, not-out, rebuilt, not-rebuilt}
use Rattle.calls.proofs.Laws.Table.{some-new, not-total, none_left}

-- b tells whether A holds
pub record Tells (b : Bool) (A : Type 0) : Type 0 where
  pub yes : b ≡ true → A
  pub no : b ≡ false → A → ⊥

-- so it is true exactly if A holds
pub exactly : (b : Bool) {A : Type 0} → Tells b A → (b ≡ true) ↔ A
exactly true t = (t.yes, λ a. refl)
exactly false t = (t.yes, λ a. absurd (t.no refl a))

-- each row has its reason's number, and tells whether that holds, if no lower one does
unfoldable pub Told : List Row → List Reason → Type 0
Told [] [] = Unit
Told [] (y ∷ ys) = ⊥
Told (x ∷ xs) [] = ⊥
Told (x ∷ xs) (y ∷ ys) = (x.0 ≡ y.0) × Tells x.1 y.1 × (x.1 ≡ false → Told xs ys)

pub gives : (rows : List Row) (reasons : List Reason) → Told rows reasons → Gives (word rows) reasons
unfolding Told Gives
gives [] [] t = refl
gives [] (y ∷ ys) t = absurd t
gives (x ∷ xs) [] t = absurd t
gives (x ∷ xs) (y ∷ ys) (e, d, rest) = go x.1 refl (λ q. gives xs ys (rest q))
  where
    go : (b : Bool) → x.1 ≡ b → (x.1 ≡ false → Gives (word xs) ys) → Gives (cond b x.0 (word xs)) (y ∷ ys)
    go true q f = inl (d.yes q, e)
    go false q f = inr (d.no q, f q)

-- ---- one by one

pub differ : (a b : ℕ) → Tells (not (eqb a b)) (a ≢ b)
differ a b = record { yes = λ e. eqb-false a b (not-true _ e); no = λ e n. n (eqb-true a b (not-false _ e)) }

pub past : (x end : ℕ) → Tells (not (ltb x end)) (end ≤ x)
past x end = record {
  yes = λ e. elim (le-or-lt end x) [ inl l ↦ l | inr l ↦ absurd (true≢false (sym (lt-ltb x end l) ∙ not-true _ e)) ];
  no = λ e l. omega (arith, ltb-true x end (not-false _ e), l);
}

pub outside : (low x high : ℕ) → Tells (not (within low x high)) (Outside low x high)
outside low x high = record {
  yes = λ e. elim (le-or-lt low x) [
    | inr l ↦ inl l
    | inl l ↦ elim (le-or-lt x high) [ inr h ↦ inr h | inl h ↦ absurd (true≢false (sym (true-within low x high l h) ∙ not-true _ e)) ]
  ];
  no = λ e o. let (l, h) = within-true low x high (not-false _ e) in elim o [ inl p ↦ omega (arith, l, p) | inr p ↦ omega (arith, h, p) ];
}

pub not_good : (r : Record) → Tells (not (good r)) (GoodRecord r → ⊥)
not_good r = record {
  yes = λ e g. true≢false (sym (within-limits r g) ∙ not-true _ e);
  no = λ e n. n (limits r (not-false _ e));
}

pub is-lost : (h : Health) → Tells (is_lost h) (h ≡ Lost)
is-lost Whole = record { yes = λ e. let z : Whole ≡ Lost = cc in z; no = λ e q. let w : ◌≡◌ {A = ℕ} 0 1 = cc in omega arith }
is-lost (Out o) = record { yes = λ e. let z : Out o ≡ Lost = cc in z; no = λ e q. let w : ◌≡◌ {A = ℕ} 0 1 = cc in omega arith }
is-lost (Rebuilding o c) = record { yes = λ e. let z : Rebuilding o c ≡ Lost = cc in z; no = λ e q. let w : ◌≡◌ {A = ℕ} 0 1 = cc in omega arith }
is-lost Lost = record { yes = λ e. refl; no = λ e q. let w : ◌≡◌ {A = ℕ} 0 1 = cc in omega arith }

pub is-degraded : (h : Health) → is_lost h ≡ false → Tells (is_degraded h) (((o : ℕ) × (h ≡ Out o)) ⊎ Rebuilds h)
is-degraded Whole nl = record {
  yes = λ e. absurd (let w : ◌≡◌ {A = ℕ} 0 1 = cc in omega arith);
  no = λ e x. elim x [ inl (o, q) ↦ let w : ◌≡◌ {A = ℕ} 0 1 = cc in omega arith | inr (o, c, q) ↦ let w : ◌≡◌ {A = ℕ} 0 1 = cc in omega arith ];
}
is-degraded (Out o) nl = record { yes = λ e. inl (o, refl); no = λ e q. let w : ◌≡◌ {A = ℕ} 0 1 = cc in omega arith }
is-degraded Lost nl = absurd (let w : ◌≡◌ {A = ℕ} 0 1 = cc in omega arith)
is-degraded (Rebuilding o c) nl = record { yes = λ e. inr (o, c, refl); no = λ e q. let w : ◌≡◌ {A = ℕ} 0 1 = cc in omega arith }

pub none-rebuilt : (h : Health) → Tells (not (is_rebuilding h)) (¬ Rebuilds h)
none-rebuilt h = record { yes = λ e (o, c, q). not-rebuilt h (not-true _ e) o c q; no = λ e n. n (rebuilt h (not-false _ e)) }

pub is-idle : (g : Geometry) → Tells (idle g) ((g.new ≡ 0) ⊎ (g.moves ≡ total_of g))
is-idle g = record {
  yes = λ e. elim (ℕ_discrete g.new 0) [ yes z ↦ inl z | no z ↦ inr (none_left g z e) ];
  no = λ e o. elim o [ inl z ↦ some-new g e z | inr z ↦ not-total g e z ];
}

is-out : (h : Health) (d : ℕ) → is_lost h ≡ false → Tells (is_out h d) (h ≡ Out d)
is-out h d nl = record { yes = which h d nl; no = not-out h d }

pub is-other : (h : Health) (d : ℕ) → is_lost h ≡ false → Tells (not (is_out h d)) (h ≢ Out d)
is-other h d nl = record { yes = λ e. not-out h d (not-true _ e); no = λ e n. n (which h d nl (not-false _ e)) }

-- ---- one of two

either : {A B : Type 0} (a b : Bool) → Tells a A → Tells b B → Tells (a || b) (A ⊎ B)
either true b p q = record { yes = λ e. inl (p.yes refl); no = λ e o. let w : ◌≡◌ {A = ℕ} 0 1 = cc in omega arith }
either false b p q = record { yes = λ e. inr (q.yes e); no = λ e o. elim o [ inl x ↦ p.no refl x | inr y ↦ q.no e y ] }

not-both : {A B : Type 0} (a b : Bool) → Tells (not a) A → Tells (not b) B → Tells (not (a && b)) (A ⊎ B)
not-both true b p q = record { yes = λ e. inr (q.yes e); no = λ e o. elim o [ inl x ↦ p.no refl x | inr y ↦ q.no e y ] }
not-both false b p q = record { yes = λ e. inl (p.yes refl); no = λ e o. let w : ◌≡◌ {A = ℕ} 0 1 = cc in omega arith }

pub unformable : (n B T : ℕ) → Tells (not (formable n B T)) (Outside 3 n 16 ⊎ (Outside 1 B 4096 ⊎ Outside 1 T 1048576))
unfolding formable
unformable n B T = not-both (old_good n) (block_good B && stripes_good T) (outside 3 n 16) (not-both (block_good B) (stripes_good T) (outside 1 B 4096) (outside 1 T 1048576))

inside : (low x high : ℕ) → (Outside low x high → ⊥) → (low ≤ x) × (x ≤ high)
inside low x high f =
    let lo : low ≤ x = elim (le-or-lt low x) [ inl l ↦ l | inr l ↦ absurd (f (inl l)) ] in
    let hi : x ≤ high = elim (le-or-lt x high) [ inl l ↦ l | inr l ↦ absurd (f (inr l)) ] in
    (lo, hi)

pub form-facts : (n B T : ℕ) → formable n B T ≡ true → (3 ≤ n) × (n ≤ 16) × (1 ≤ B) × (B ≤ 4096) × (1 ≤ T) × (T ≤ 1048576)
form-facts n B T e =
    let f = (unformable n B T).no (ap not e) in
    let (n_low, n_high) = inside 3 n 16 (λ o. f (inl o)) in
    let (B-low, B-high) = inside 1 B 4096 (λ o. f (inr (inl o))) in
    let (T-low, T-high) = inside 1 T 1048576 (λ o. f (inr (inr o))) in
    (n_low, n_high, B-low, B-high, T-low, T-high)

pub out-or-past : (h : Health) (d N : ℕ) → is_lost h ≡ false → Tells (not (ltb d N) || is_out h d) ((N ≤ d) ⊎ (h ≡ Out d))
out-or-past h d N nl = either (not (ltb d N)) (is_out h d) (past d N) (is-out h d nl)
