-- Fields and text: what stands in a list where a field is read, and what is read where a field stands. Assumes nothing.
use Prim.Native.Nat.{ℕ, ◌+◌, ◌-◌, ◌*◌, ◌/◌, ◌%◌, ◌≤◌, ◌<◌}
use mathlib.Core.Path.{◌≡◌, sym, ap, ◌∙◌}
use mathlib.Core.List.{List, [], ◌∷◌, ◌++◌}
use mathlib.Core.Logic.{inl, inr}
use native.Mathlib.Nat.{add-zero}
use native.Mathlib.Numerals.{add-one}
use native.Mathlib.Omega.{arith}
use lib.ListN.{length, get_or, drop, get_or-eq_default}
use lib.Seq.{drop-cons, drop-drop, drop-append_seam, get_or-drop}
use Rattle.zone_moves.specs.declared.parse.Field.TheVariants.{Number}
use Rattle.zone_moves.specs.declared.parse.Field.{Field}
use Rattle.zone_moves.specs.Request.{field_of, field_at}
use Rattle.zone_moves.specs.Listing.{column}
use Rattle.zone_moves.proofs.Laws.Digits.{decimal-one, decimal-two}
use Rattle.zone_moves.proofs.Laws.Fields.{Digit, digit-passes, field-one, field-two, Seen, one, two, none, look}
use Rattle.layout.proofs.Laws.Basics.{le-or-lt}

-- ---- a number as text

column-one : (v stop : ℕ) → v < 10 → column v stop ≡ (48 + v) ∷ stop ∷ []
unfolding column
column-one v stop h = ap (λ (l : List ℕ). l ++ (stop ∷ [])) (decimal-one v h)

column-two : (v stop : ℕ) → 10 ≤ v → v < 100 → column v stop ≡ (48 + v / 10) ∷ (48 + v % 10) ∷ stop ∷ []
unfolding column
column-two v stop h k = ap (λ (l : List ℕ). l ++ (stop ∷ [])) (decimal-two v h k)

-- ---- where a field is read, it stands

-- what is not 0 stands within the list
inside : (s : List ℕ) (i : ℕ) → 0 < get_or s i 0 → i < length s
inside s i h = elim (le-or-lt (length s) i) [ inl k ↦ let e : get_or s i 0 ≡ 0 = get_or-eq_default s 0 k in absurd (omega arith) | inr k ↦ k ]

drop-byte : (s : List ℕ) (i : ℕ) → 0 < get_or s i 0 → drop i s ≡ get_or s i 0 ∷ drop (i + 1) s
drop-byte s i h = drop-cons s i 0 (inside s i h) ∙ rw (add-one i)

module _ (s : List ℕ) (at stop : ℕ) (p : 0 < stop) where
  text-one : Digit (get_or s at 0) → get_or s (at + 1) 0 ≡ stop → drop at s ≡ column (get_or s at 0 - 48) stop ++ drop (at + 2) s
  text-one d e =
      let x : 48 + (get_or s at 0 - 48) ≡ get_or s at 0 = omega arith in
      let y : at + 1 + 1 ≡ at + 2 = omega arith in
      drop-byte s at (omega arith)
      ∙ ap (λ (l : List ℕ). get_or s at 0 ∷ l) (drop-byte s (at + 1) (omega arith))
      ∙ (cc)
      ∙ sym (ap (λ (l : List ℕ). l ++ drop (at + 2) s) (column-one (get_or s at 0 - 48) stop (omega arith)))

  text-two : Digit (get_or s at 0) → (get_or s at 0 ≡ 48 → ⊥) → Digit (get_or s (at + 1) 0) → get_or s (at + 2) 0 ≡ stop
      → drop at s ≡ column (10 * (get_or s at 0 - 48) + (get_or s (at + 1) 0 - 48)) stop ++ drop (at + 3) s
  text-two d nz d' e =
      let v : ℕ = 10 * (get_or s at 0 - 48) + (get_or s (at + 1) 0 - 48) in
      let x : 48 + v / 10 ≡ get_or s at 0 = omega arith in
      let x' : 48 + v % 10 ≡ get_or s (at + 1) 0 = omega arith in
      let y : at + 1 + 1 ≡ at + 2 = omega arith in
      let y' : at + 2 + 1 ≡ at + 3 = omega arith in
      drop-byte s at (omega arith)
      ∙ ap (λ (l : List ℕ). get_or s at 0 ∷ l) (drop-byte s (at + 1) (omega arith))
      ∙ ap (λ (k : ℕ). get_or s at 0 ∷ get_or s (at + 1) 0 ∷ drop k s) y
      ∙ ap (λ (l : List ℕ). get_or s at 0 ∷ get_or s (at + 1) 0 ∷ l) (drop-byte s (at + 2) (omega arith))
      ∙ (cc)
      ∙ sym (ap (λ (l : List ℕ). l ++ drop (at + 3) s) (column-two v stop (omega arith) (omega arith)))

  seen-text : {v next : ℕ} {f : Field} → Seen (get_or s at 0) (get_or s (at + 1) 0) (get_or s (at + 2) 0) at stop f → f ≡ Number v next → drop at s ≡ column v stop ++ drop next s
  seen-text {v} {next} (one d e) q =
      let x : v ≡ get_or s at 0 - 48 = cc in
      let y : next ≡ at + 2 = cc in
      rw (x, y) (text-one d e)
  seen-text {v} {next} (two d nz d' e) q =
      let x : v ≡ 10 * (get_or s at 0 - 48) + (get_or s (at + 1) 0 - 48) = cc in
      let y : next ≡ at + 3 = cc in
      rw (x, y) (text-two d nz d' e)
  seen-text none q = let i : ◌≡◌ {A = ℕ} 0 1 = cc in absurd (omega arith)

  pub field-text : {v next : ℕ} → field_at s at stop ≡ Number v next → drop at s ≡ column v stop ++ drop next s
  unfolding field_at
  field-text e = seen-text (look (get_or s at 0) (get_or s (at + 1) 0) (get_or s (at + 2) 0) at stop) e

-- ---- where a field stands, it is read

module _ (a b c at stop v : ℕ) where
  says-one : v < 10 → a ≡ 48 + v → b ≡ stop → field_of a b c at stop ≡ Number v (at + 2)
  says-one h e k =
      let x : a - 48 ≡ v = omega arith in
      field-one a b c at stop (digit-passes (record { low = omega arith; high = omega arith })) k ∙ ap (λ (n : ℕ). Number n (at + 2)) x

  says_two : stop < 48 → 10 ≤ v → v < 100 → a ≡ 48 + v / 10 → b ≡ 48 + v % 10 → c ≡ stop → field_of a b c at stop ≡ Number v (at + 3)
  says_two p g h e k t =
      let x : 10 * (a - 48) + (b - 48) ≡ v = omega arith in
      field-two a b c at stop (digit-passes (record { low = omega arith; high = omega arith })) (λ i. omega arith) (λ i. omega arith)
      (digit-passes (record { low = omega arith; high = omega arith }))
      t
      ∙ ap (λ (n : ℕ). Number n (at + 3)) x

-- a byte of a text that stands at a position
byte : (s : List ℕ) (at i : ℕ) {t : List ℕ} → drop at s ≡ t → get_or s (at + i) 0 ≡ get_or t i 0
byte s at i e = sym (get_or-drop at s i 0) ∙ ap (λ (l : List ℕ). get_or l i 0) e

pub field-reads : (s : List ℕ) (at v stop : ℕ) (rest : List ℕ) → v < 100 → stop < 48 → drop at s ≡ column v stop ++ rest → field_at s at stop ≡ Number v (at + length (column v stop))
unfolding field_at
field-reads s at v stop rest h p e =
    elim (le-or-lt 10 v) [
      | inl k ↦
          let f : drop at s ≡ (48 + v / 10) ∷ (48 + v % 10) ∷ stop ∷ rest = e ∙ ap (λ (l : List ℕ). l ++ rest) (column-two v stop k h) in
          let z : get_or s at 0 ≡ 48 + v / 10 = ap (λ (i : ℕ). get_or s i 0) (sym (add-zero at)) ∙ byte s at 0 f in
          says_two (get_or s at 0) (get_or s (at + 1) 0) (get_or s (at + 2) 0) at stop v p k h z (byte s at 1 f) (byte s at 2 f)
          ∙ ap (λ (l : List ℕ). Number v (at + length l)) (sym (column-two v stop k h))
      | inr k ↦
          let f : drop at s ≡ (48 + v) ∷ stop ∷ rest = e ∙ ap (λ (l : List ℕ). l ++ rest) (column-one v stop k) in
          let z : get_or s at 0 ≡ 48 + v = ap (λ (i : ℕ). get_or s i 0) (sym (add-zero at)) ∙ byte s at 0 f in
          says-one (get_or s at 0) (get_or s (at + 1) 0) (get_or s (at + 2) 0) at stop v k z (byte s at 1 f) ∙ ap (λ (l : List ℕ). Number v (at + length l)) (sym (column-one v stop k))
    ]

-- the rest after a text that stands at a position
pub drop_more : (s : List ℕ) (at : ℕ) (t rest : List ℕ) → drop at s ≡ t ++ rest → drop (at + length t) s ≡ rest
drop_more s at t rest e = sym (drop-drop (length t) at s) ∙ ap (drop (length t)) e ∙ drop-append_seam t rest
