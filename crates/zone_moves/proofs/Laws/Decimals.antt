-- What the digits of a number say. Assumes nothing.
use Prim.Native.Nat.{ℕ, zero, suc, ◌+◌, ◌-◌, ◌*◌, ◌/◌, ◌%◌, ◌<◌}
use mathlib.Core.Path.{◌≡◌, refl, sym, subst⁻¹, ◌∙◌}
use mathlib.Core.List.{List, [], ◌∷◌, ◌++◌}
use mathlib.Core.Logic.{inl, inr}
use native.Mathlib.Omega.{arith}
use lib.ListN.{length, get_or, length-append, get_or-append}
use lib.Seq.{get_or_at}
use Rattle.zone_moves.specs.Decimal.{digit, spell, decimal}
use Rattle.zone_moves.specs.Exact.{said, Spelled}
use Rattle.zone_moves.proofs.Laws.Digits.{spell_one, spell-more}
use Rattle.layout.proofs.Laws.Basics.{le-or-lt}

-- the power of ten
unfoldable tens : ℕ → ℕ
tens zero = 1
tens (suc w) = 10 * tens w

-- a digit more
said_more : (x : ℕ) (ds : List ℕ) (d : ℕ) → said x (ds ++ (d ∷ [])) ≡ 10 * said x ds + (d - 48)
unfolding said
said_more x [] d = refl
said_more x (e ∷ ds) d = said_more (10 * x + (e - 48)) ds d

said-one : (d : ℕ) → said 0 (d ∷ []) ≡ d - 48
unfolding said
said-one d = omega arith

said-alone : (ds : List ℕ) → length ds ≡ 1 → said 0 ds ≡ get_or ds 0 0 - 48
said-alone [] e = absurd (omega arith)
said-alone (d ∷ []) e = said-one d
said-alone (d ∷ d' ∷ ds) e = absurd (omega arith)

one-spelled : (x : ℕ) → x < 10 → Spelled x (digit x ∷ [])
one-spelled x h = record {
  some = omega arith;
  bytes = λ j k. let e : j ≡ 0 = omega arith in rw e (omega arith, omega arith);
  says = said-one (digit x) ∙ omega arith;
  no_zero = λ e. refl;
}

more-spelled : (x : ℕ) (ds : List ℕ) (d : ℕ) → 0 < x → d < 10 → Spelled x ds → Spelled (10 * x + d) (ds ++ (digit d ∷ []))
more-spelled x ds d p h s = record {
  some = omega (arith, length-append ds (digit d ∷ []));
  bytes = λ j k. elim (le-or-lt (length ds) j) [
    | inl l ↦
        let e : get_or (ds ++ (digit d ∷ [])) j 0 ≡ digit d = get_or_at ds (digit d) [] 0 j (omega (arith, length-append ds (digit d ∷ []))) in
        (omega arith, omega arith)
    | inr l ↦ rw (get_or-append ds (digit d ∷ []) 0 j l) (s.bytes j l)
  ];
  says = said_more 0 ds (digit d) ∙ omega (arith, s.says);
  no_zero = λ e.
      let f : get_or ds 0 0 ≡ 48 = sym (get_or-append ds (digit d ∷ []) 0 0 s.some) ∙ e in
      absurd (omega (arith, said-alone ds (s.no_zero f), s.says));
}

-- x below 10 to the power of w + 1
spell-spelled : (w x : ℕ) → x < tens (suc w) → Spelled x (spell (suc w) x)
unfolding tens
spell-spelled zero x h = subst⁻¹ (Spelled x) (spell_one zero x (omega arith)) (one-spelled x (omega arith))
spell-spelled (suc w) x h = elim (le-or-lt 10 x) [
  | inr k ↦ subst⁻¹ (Spelled x) (spell_one (suc w) x k) (one-spelled x k)
  | inl k ↦
      let e : x ≡ 10 * (x / 10) + x % 10 = omega arith in
      subst⁻¹ (Spelled x) (spell-more (suc w) x k)
      (subst⁻¹ (λ (y : ℕ). Spelled y (spell (suc w) (x / 10) ++ (digit (x % 10) ∷ []))) e
      (more-spelled (x / 10) (spell (suc w) (x / 10)) (x % 10) (omega arith) (omega arith) (spell-spelled w (x / 10) (omega arith))))
]

pub spelled : (x : ℕ) → x < 100000000000000000000 → Spelled x (decimal x)
unfolding tens decimal
spelled x h = spell-spelled 19 x h
