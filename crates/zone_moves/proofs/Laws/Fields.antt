-- The tests of a line and what each says. Assumes nothing.
use Prim.Native.Nat.{ℕ, ◌+◌, ◌-◌, ◌*◌, ◌≤◌}
use mathlib.Core.Path.{◌≡◌, refl, ap, subst⁻¹, ◌∙◌}
use mathlib.Core.Bool.{Bool, true, false, ◌&&◌, and-eq-true_iff}
use mathlib.Core.List.{List}
use mathlib.Core.Logic.{◌⊎◌, inl, inr}
use native.Mathlib.Decide.{ℕ_discrete}
use native.Mathlib.Omega.{arith}
use lib.Dec.{leb, ltb}
use lib.ListN.{get_or}
use borrow.Author.Tests.{ltb-true, leb-true, le-leb, lt-ltb, eq-eqb, ne_eqb}
use Rattle.zone_moves.specs.declared.parse.Field.TheVariants.{Number, Bad}
use Rattle.zone_moves.specs.declared.parse.Field.{Field}
use Rattle.zone_moves.specs.declared.parse.Request.TheVariants.{Zone, Refused}
use Rattle.zone_moves.specs.declared.parse.Request.{Request}
use Rattle.zone_moves.specs.Request.{is_digit, in_limits, Limited, field_of, field_at, request_of, ask_old, ask_new, ask_zone}

-- both halves of a test that holds
pub both : (a b : Bool) → (a && b) ≡ true → (a ≡ true) × (b ≡ true)
both a b e = (and-eq-true_iff a b).0 e

-- a test holds, or it does not
truth : (t : Bool) → (t ≡ true) ⊎ (t ≡ false)
truth true = inl refl
truth false = inr refl

-- ---- a digit

pub record Digit (b : ℕ) : Type 0 where
  pub low : 48 ≤ b
  pub high : b ≤ 57

pub is-a-digit : {b : ℕ} → is_digit b ≡ true → Digit b
unfolding is_digit
is-a-digit {b} e = let h = both (leb 48 b) (leb b 57) e in record { low = leb-true 48 b h.0; high = leb-true b 57 h.1 }

pub digit-passes : {b : ℕ} → Digit b → is_digit b ≡ true
unfolding is_digit
digit-passes {b} d = simp (le-leb 48 b d.low, le-leb b 57 d.high)

-- ---- the limits

pub limited : (n m z : ℕ) → in_limits n m z ≡ true → Limited n m z
unfolding in_limits
limited n m z e =
    let a = both (leb 3 n && leb n 16 && leb 1 m && leb m 16) (ltb z n) e in
    let b = both (leb 3 n && leb n 16 && leb 1 m) (leb m 16) a.0 in
    let c = both (leb 3 n && leb n 16) (leb 1 m) b.0 in
    let d = both (leb 3 n) (leb n 16) c.0 in
    record { disks = record { n_low = leb-true 3 n d.0; n_high = leb-true n 16 d.1; m_high = leb-true m 16 b.1 }; new = leb-true 1 m c.1; zone = ltb-true z n a.1 }

pub limits-pass : {n m z : ℕ} → Limited n m z → in_limits n m z ≡ true
unfolding in_limits
limits-pass {n} {m} {z} l = simp (le-leb 3 n l.disks.n_low, le-leb n 16 l.disks.n_high, le-leb 1 m l.new, le-leb m 16 l.disks.m_high, lt-ltb z n l.zone)

-- ---- a field

module _ (a b c at stop : ℕ) where
  -- one digit
  pub field-one : is_digit a ≡ true → b ≡ stop → field_of a b c at stop ≡ Number (a - 48) (at + 2)
  unfolding field_of
  field-one d e = simp (d, eq-eqb b stop e)

  -- two digits, of which the first is not `0`
  pub field-two : is_digit a ≡ true → (b ≡ stop → ⊥) → (a ≡ 48 → ⊥) → is_digit b ≡ true → c ≡ stop → field_of a b c at stop ≡ Number (10 * (a - 48) + (b - 48)) (at + 3)
  unfolding field_of
  field-two d ne nz d' e = simp (d, ne_eqb b stop ne, ne_eqb a 48 nz, d', eq-eqb c stop e)

  -- no digit
  pub field-none : is_digit a ≡ false → field_of a b c at stop ≡ Bad
  unfolding field_of
  field-none d = simp d

  -- a leading zero; no second digit; no `stop` after the second
  pub field-zero : is_digit a ≡ true → (b ≡ stop → ⊥) → a ≡ 48 → field_of a b c at stop ≡ Bad
  unfolding field_of
  field-zero d ne z = simp (d, ne_eqb b stop ne, eq-eqb a 48 z)

  pub field-mixed : is_digit a ≡ true → (b ≡ stop → ⊥) → (a ≡ 48 → ⊥) → is_digit b ≡ false → field_of a b c at stop ≡ Bad
  unfolding field_of
  field-mixed d ne nz d' = simp (d, ne_eqb b stop ne, ne_eqb a 48 nz, d')

  pub field-long : is_digit a ≡ true → (b ≡ stop → ⊥) → (a ≡ 48 → ⊥) → is_digit b ≡ true → (c ≡ stop → ⊥) → field_of a b c at stop ≡ Bad
  unfolding field_of
  field-long d ne nz d' e = simp (d, ne_eqb b stop ne, ne_eqb a 48 nz, d', ne_eqb c stop e)

-- the cases of a field
pub data Seen (a b c at stop : ℕ) : Field → Type 0 where
  one : Digit a → b ≡ stop → Seen a b c at stop (Number (a - 48) (at + 2))
  two : Digit a → (a ≡ 48 → ⊥) → Digit b → c ≡ stop → Seen a b c at stop (Number (10 * (a - 48) + (b - 48)) (at + 3))
  none : Seen a b c at stop Bad

pub look : (a b c at stop : ℕ) → Seen a b c at stop (field_of a b c at stop)
look a b c at stop =
    elim (truth (is_digit a)) [
      | inr d ↦ subst⁻¹ (Seen a b c at stop) (field-none a b c at stop d) none
      | inl d ↦ elim (ℕ_discrete b stop) [
        | yes e ↦ subst⁻¹ (Seen a b c at stop) (field-one a b c at stop d e) (one (is-a-digit d) e)
        | no ne ↦ elim (ℕ_discrete a 48) [
          | yes z ↦ subst⁻¹ (Seen a b c at stop) (field-zero a b c at stop d ne z) none
          | no nz ↦ elim (truth (is_digit b)) [
            | inr d' ↦ subst⁻¹ (Seen a b c at stop) (field-mixed a b c at stop d ne nz d') none
            | inl d' ↦ elim (ℕ_discrete c stop) [
              | yes e ↦ subst⁻¹ (Seen a b c at stop) (field-two a b c at stop d ne nz d' e) (two (is-a-digit d) nz (is-a-digit d') e)
              | no e ↦ subst⁻¹ (Seen a b c at stop) (field-long a b c at stop d ne nz d' e) none
            ]
          ]
        ]
      ]
    ]

-- a field ends at k or before it
pub data Ends (k : ℕ) : Field → Type 0 where
  ends : {v : ℕ} (next : ℕ) → next ≤ k → Ends k (Number v next)
  nowhere : Ends k Bad

seen-ends : {a b c at stop : ℕ} {f : Field} (k : ℕ) → at + 3 ≤ k → Seen a b c at stop f → Ends k f
seen-ends {at = at} k h (one d e) = ends (at + 2) (omega arith)
seen-ends {at = at} k h (two d nz d' e) = ends (at + 3) (omega arith)
seen-ends k h none = nowhere

pub field-ends : (s : List ℕ) (at stop k : ℕ) → at + 3 ≤ k → Ends k (field_at s at stop)
unfolding field_at
field-ends s at stop k h = seen-ends k h (look (get_or s at 0) (get_or s (at + 1) 0) (get_or s (at + 2) 0) at stop)

pub ends_there : {k v next : ℕ} {f : Field} → Ends k f → f ≡ Number v next → next ≤ k
ends_there {k} {v} {next} (ends x h) e = let q : x ≡ next = cc in omega arith
ends_there nowhere e = let z : ◌≡◌ {A = ℕ} 0 1 = cc in absurd (omega arith)

-- ---- a line

module _ (s : List ℕ) where
  pub old-bad : field_at s 0 32 ≡ Bad → request_of s ≡ Refused
  unfolding request_of ask_old
  old-bad e = ap (ask_old s) e

  pub old-read : {n a : ℕ} → field_at s 0 32 ≡ Number n a → request_of s ≡ ask_new s n (field_at s a 32)
  unfolding request_of ask_old
  old-read e = ap (ask_old s) e

  pub new-bad : {n a : ℕ} → field_at s 0 32 ≡ Number n a → field_at s a 32 ≡ Bad → request_of s ≡ Refused
  unfolding ask_new
  new-bad {n} e h = old-read e ∙ ap (ask_new s n) h

  pub new-read : {n a m b : ℕ} → field_at s 0 32 ≡ Number n a → field_at s a 32 ≡ Number m b → request_of s ≡ ask_zone n m (field_at s b 10)
  unfolding ask_new
  new-read {n} e h = old-read e ∙ ap (ask_new s n) h

  pub zone-bad : {n a m b : ℕ} → field_at s 0 32 ≡ Number n a → field_at s a 32 ≡ Number m b → field_at s b 10 ≡ Bad → request_of s ≡ Refused
  unfolding ask_zone
  zone-bad {n} {a} {m} e h k = new-read e h ∙ ap (ask_zone n m) k

  pub zone-out : {n a m b z c : ℕ} → field_at s 0 32 ≡ Number n a → field_at s a 32 ≡ Number m b → field_at s b 10 ≡ Number z c → in_limits n m z ≡ false → request_of s ≡ Refused
  unfolding ask_zone
  zone-out {n} {a} {m} e h k l = new-read e h ∙ ap (ask_zone n m) k ∙ simp l

  pub zone-asked : {n a m b z c : ℕ} → field_at s 0 32 ≡ Number n a → field_at s a 32 ≡ Number m b → field_at s b 10 ≡ Number z c → in_limits n m z ≡ true → request_of s ≡ Zone n m z
  unfolding ask_zone
  zone-asked {n} {a} {m} e h k l = new-read e h ∙ ap (ask_zone n m) k ∙ simp l

-- the cases of a line
data Is (f : Field) : Type 0 where
  number : (v next : ℕ) → f ≡ Number v next → Is f
  bad : f ≡ Bad → Is f

is : (f : Field) → Is f
is (Number v next) = number v next refl
is Bad = bad refl

pub data Line (s : List ℕ) : Request → Type 0 where
  asks : (n a m b z c : ℕ) → field_at s 0 32 ≡ Number n a → field_at s a 32 ≡ Number m b → field_at s b 10 ≡ Number z c → in_limits n m z ≡ true → Line s (Zone n m z)
  other : Line s Refused

pub look-line : (s : List ℕ) → Line s (request_of s)
look-line s =
    elim (is (field_at s 0 32)) [
      | bad e ↦ subst⁻¹ (Line s) (old-bad s e) other
      | number n a e ↦ elim (is (field_at s a 32)) [
        | bad h ↦ subst⁻¹ (Line s) (new-bad s e h) other
        | number m b h ↦ elim (is (field_at s b 10)) [
          | bad k ↦ subst⁻¹ (Line s) (zone-bad s e h k) other
          | number z c k ↦ elim (truth (in_limits n m z)) [
            | inr l ↦ subst⁻¹ (Line s) (zone-out s e h k l) other
            | inl l ↦ subst⁻¹ (Line s) (zone-asked s e h k l) (asks n a m b z c e h k l)
          ]
        ]
      ]
    ]
