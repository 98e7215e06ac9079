-- An answer's number, and the rows with which many calls start: 1, 2 and 7. Assumes nothing.
use Prim.Native.Nat.{ℕ}
use mathlib.Core.Path.{◌≡◌, refl, sym, ◌∙◌}
use mathlib.Core.Bool.{Bool, true, false, not}
use Rattle.std.proofs.lemmas.Bool.{false≢true}
use mathlib.Core.Logic.{◌≢◌}
use mathlib.Core.List.{List, [], ◌∷◌, ◌++◌}
use native.Mathlib.Omega.{arith}
use borrow.Author.Tests.{not-false}
use Rattle.std.specs.Prelude.{Result, Ok, Err, IsErr}
use Rattle.state.specs.declared.types.Record.{Record}
use Rattle.state.specs.Good.{good, GoodRecord}
use Rattle.state.proofs.Laws.Good.{limits}
use Rattle.calls.specs.Images.{size}
use Rattle.calls.specs.Table.{Row, lost, images, disk, word, kept_lent}
use Rattle.refusals.specs.declared.types.Refusal.{Refusal}
use Rattle.refusals.specs.Answers.{refusal_number, number_of}
use Rattle.refusals.proofs.Theorem.{one-number}
use Rattle.calls.proofs.Laws.Table.{passes, stops, given, skipped, lent-on}

-- the number of an answer
pub ok-number : {T : Type 0} {x : Result T Refusal} {y : T} → x ≡ Ok y → number_of x ≡ 0
ok-number q = rw q refl

pub above-0 : (e : Refusal) → refusal_number e ≢ 0
above-0 e z = omega (arith, one-number e, z)

pub err-number : {T : Type 0} (x : Result T Refusal) → IsErr x → number_of x ≢ 0
err-number (Err e) l z = above-0 e z
err-number (Ok y) l z = absurd (false≢true l)

-- where 1, 2 and 7 are passed the record is good
pub ready-lent : (r : Record) (len : ℕ) {k : ℕ} → k ≡ word (kept_lent r len) → k ≡ 0 → GoodRecord r
ready-lent r len e z =
    limits r (not-false _ (passes (not (good r)) 0 (word (lost r ∷ images (size r) len ∷ [])) (sym e ∙ z)).0)

-- 1, 2 and 7, and then 10 if the disk is wrong
module _ (r : Record) (len : ℕ) (wrong : Bool) {k : ℕ} (e : k ≡ word (kept_lent r len)) where
  abbrev rows : List Row
  rows = kept_lent r len ++ (disk wrong ∷ [])

  pub lent-stopped : k ≢ 0 → k ≡ word rows
  lent-stopped nz = stops (kept_lent r len) (disk wrong ∷ []) e nz

  pub lent-wrong : k ≡ 0 → wrong ≡ true → 10 ≡ word rows
  lent-wrong z w = sym (lent-on r (disk wrong ∷ []) len e z ∙ given 10 [] w)

  pub lent-right : k ≡ 0 → wrong ≡ false → 0 ≡ word rows
  lent-right z w = sym (lent-on r (disk wrong ∷ []) len e z ∙ skipped 10 [] w)
