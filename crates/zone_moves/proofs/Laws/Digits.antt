-- Numbers below 10,000 as text. Assumes nothing.
use Prim.Native.Nat.{ℕ, suc, ◌+◌, ◌/◌, ◌%◌, ◌≤◌, ◌<◌}
use mathlib.Core.Path.{◌≡◌, sym, ap, ◌∙◌}
use mathlib.Core.List.{List, [], ◌∷◌, ◌++◌}
use mathlib.Core.Logic.{inl, inr}
use native.Mathlib.Omega.{arith}
use lib.ListN.{length, length-append}
use borrow.Author.Tests.{lt-ltb, le-ltb}
use Rattle.zone_moves.specs.Decimal.{digit, spell, decimal}
use Rattle.zone_moves.specs.Listing.{column}
use Rattle.layout.proofs.Laws.Basics.{le-or-lt}

pub spell_one : (w x : ℕ) → x < 10 → spell (suc w) x ≡ digit x ∷ []
unfolding spell
spell_one w x h = simp (lt-ltb x 10 h)

pub spell-more : (w x : ℕ) → 10 ≤ x → spell (suc w) x ≡ spell w (x / 10) ++ (digit (x % 10) ∷ [])
unfolding spell
spell-more w x h = simp (le-ltb x 10 h)

spell-two : (w x : ℕ) → 10 ≤ x → x < 100 → spell (suc (suc w)) x ≡ digit (x / 10) ∷ digit (x % 10) ∷ []
spell-two w x h k = spell-more (suc w) x h ∙ ap (λ (l : List ℕ). l ++ (digit (x % 10) ∷ [])) (spell_one w (x / 10) (omega arith))

-- as many digits as there are, whatever there is room for
spell-small : (v w x : ℕ) → x < 100 → spell (suc (suc v)) x ≡ spell (suc (suc w)) x
spell-small v w x h =
    elim (le-or-lt 10 x) [ inl k ↦ spell-two v x k h ∙ sym (spell-two w x k h) | inr k ↦ spell_one (suc v) x k ∙ sym (spell_one (suc w) x k) ]

pub decimal-one : (x : ℕ) → x < 10 → decimal x ≡ digit x ∷ []
unfolding decimal
decimal-one x h = spell_one _ x h

pub decimal-two : (x : ℕ) → 10 ≤ x → x < 100 → decimal x ≡ digit (x / 10) ∷ digit (x % 10) ∷ []
unfolding decimal
decimal-two x h k = spell-two _ x h k

pub decimal-four : (x : ℕ) → 100 ≤ x → x < 10000 → decimal x ≡ decimal (x / 100) ++ (digit (x / 10 % 10) ∷ []) ++ (digit (x % 10) ∷ [])
unfolding decimal
decimal-four x h k =
    let e : x / 10 / 10 ≡ x / 100 = omega arith in
    spell-more 19 x (omega arith)
    ∙ ap (λ (l : List ℕ). l ++ (digit (x % 10) ∷ []))
    (spell-more 18 (x / 10) (omega arith)
    ∙ ap (λ (l : List ℕ). l ++ (digit (x / 10 % 10) ∷ [])) (ap (spell 18) e ∙ spell-small 16 18 (x / 100) (omega arith)))

-- ---- how long they are

pub length-one : (x : ℕ) → x < 10 → length (decimal x) ≡ 1
length-one x h = ap length (decimal-one x h)

pub length_two : (x : ℕ) → 10 ≤ x → x < 100 → length (decimal x) ≡ 2
length_two x h k = ap length (decimal-two x h k)

pub length-small : (x : ℕ) → x < 100 → length (decimal x) ≤ 2
length-small x h = elim (le-or-lt 10 x) [ inl k ↦ omega (arith, length_two x k h) | inr k ↦ omega (arith, length-one x k) ]

pub length-four : (x : ℕ) → 100 ≤ x → x < 10000 → length (decimal x) ≡ length (decimal (x / 100)) + 2
length-four x h k = ap length (decimal-four x h k) ∙ simp length-append (omega arith)

pub length_most : (x : ℕ) → x < 10000 → length (decimal x) ≤ 4
length_most x h = elim (le-or-lt 100 x) [ inl k ↦ omega (arith, length-four x k h, length-small (x / 100) (omega arith)) | inr k ↦ omega (arith, length-small x k) ]

pub length-column : (x stop : ℕ) → length (column x stop) ≡ length (decimal x) + 1
unfolding column
length-column x stop = length-append (decimal x) (stop ∷ [])
