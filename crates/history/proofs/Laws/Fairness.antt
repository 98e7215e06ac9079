-- That a history is fair, by a test that can be computed: `fair`. Assumes nothing.
use Prim.Native.Nat.{ℕ, zero, suc, ◌<◌}
use mathlib.Core.Path.{◌≡◌, refl, ap, ap₂, ◌∙◌, subst}
use mathlib.Core.Bool.{Bool, true, false, not, ◌&&◌, ◌||◌}
use mathlib.Core.List.{List, [], ◌∷◌}
use native.Mathlib.Decide.{ℕ_discrete}
use native.Mathlib.Omega.{arith}
use lib.Dec.{eqb}
use lib.ListN.{length}
use borrow.Author.Tests.{eqb-true, eq-eqb}
use Rattle.state.specs.declared.types.Record.{Record}
use Rattle.conditions.proofs.Tests.{both, second}
use Rattle.calls.specs.Call.{Event, fed}
use Rattle.calls.specs.Health.{absent}
use Rattle.calls.specs.Images.{disks_of, place_in}
use Rattle.calls.specs.Table.{Takes, nothing, anything, those}
use Rattle.history.specs.Flat.{Flat, flat_step}
use Rattle.history.specs.Lent.{Form, Cabinet, takes, Keeps, Lends, next}
use Rattle.history.specs.Theorem.{Fair}
use Rattle.history.proofs.Laws.Lending.{by-asked}

-- ---- tests

unfoldable pub same : List ℕ → List ℕ → Bool
same [] [] = true
same [] (y ∷ b) = false
same (x ∷ a) [] = false
same (x ∷ a) (y ∷ b) = eqb x y && same a b

-- of all numbers below a bound
unfoldable pub below : ℕ → (ℕ → Bool) → Bool
below zero f = true
below (suc n) f = f n && below n f

unfoldable pub keeps : Record → List ℕ → List ℕ → Bool
keeps r left lent = below r.stripes (λ S. below (disks_of r) (λ d. absent r.health S d || same (place_in r lent S d) (place_in r left S d)))

unfoldable pub lends : Takes → Record → List ℕ → List ℕ → Bool
lends nothing r left lent = true
lends (anything len) r left lent = true
lends (those len) r left lent = not (eqb (length lent) len) || keeps r left lent

unfoldable pub fairly : {R : Type 0} → Form R → List Event → Cabinet R → Flat → Bool
fairly x [] a f = true
fairly x (e ∷ es) a f = lends (takes e.call f.numbers) f.numbers a.img e.images && fairly x es (next x e a) (flat_step (fed e) f).1

-- ---- and what they show

is_same : (a b : List ℕ) → same a b ≡ true → a ≡ b
unfolding same
is_same [] [] q = refl
is_same [] (y ∷ b) q = absurd (let w : ◌≡◌ {A = ℕ} 0 1 = cc in omega arith)
is_same (x ∷ a) [] q = absurd (let w : ◌≡◌ {A = ℕ} 0 1 = cc in omega arith)
is_same (x ∷ a) (y ∷ b) q = let z = both (eqb x y) (same a b) q in ap₂ (λ (u : ℕ) (v : List ℕ). u ∷ v) (eqb-true x y z.0) (is_same a b z.1)

each_below : (n : ℕ) (f : ℕ → Bool) → below n f ≡ true → (i : ℕ) → i < n → f i ≡ true
unfolding below
each_below zero f q i l = absurd (omega arith)
each_below (suc n) f q i l =
    let z = both (f n) (below n f) q in
    elim (ℕ_discrete i n) [ yes e ↦ ap f e ∙ z.0 | no ne ↦ each_below n f z.1 i (omega arith) ]

is-kept : (r : Record) (left lent : List ℕ) → keeps r left lent ≡ true → Keeps r left lent
unfolding keeps Keeps
is-kept r left lent q S d lS ld u =
    let z = each_below r.stripes (λ s. below (disks_of r) (λ e. absent r.health s e || same (place_in r lent s e) (place_in r left s e))) q S lS in
    let y = each_below (disks_of r) (λ e. absent r.health S e || same (place_in r lent S e) (place_in r left S e)) z d ld in
    is_same (place_in r lent S d) (place_in r left S d) (second (absent r.health S d) (same (place_in r lent S d) (place_in r left S d)) y u)

may-lend : (e : Event) (r : Record) (left : List ℕ) → lends (takes e.call r) r left e.images ≡ true → Lends e r left
unfolding lends
may-lend e r left p =
    by-asked e r left
    (λ len q z.
    let p' : lends (those len) r left e.images ≡ true = subst (λ (t : Takes). lends t r left e.images ≡ true) q p in
    is-kept r left e.images (second (not (eqb (length e.images) len)) (keeps r left e.images) p' (ap not (eq-eqb (length e.images) len z))))

pub fair : {R : Type 0} (x : Form R) (es : List Event) (a : Cabinet R) (f : Flat) → fairly x es a f ≡ true → Fair x es a f
unfolding fairly Fair
fair x [] a f q = tt
fair x (e ∷ es) a f q =
    let z = both (lends (takes e.call f.numbers) f.numbers a.img e.images) (fairly x es (next x e a) (flat_step (fed e) f).1) q in
    (may-lend e f.numbers a.img z.0, fair x es (next x e a) (flat_step (fed e) f).1 z.1)
