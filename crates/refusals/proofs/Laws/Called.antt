-- What a call leaves, by the number that the table gives it. Assumes nothing.
use Prim.Native.Nat.{ℕ, zero, suc}
use mathlib.Core.Path.{◌≡◌, refl, sym}
use mathlib.Core.Logic.{◌≢◌}
use Rattle.std.specs.Prelude.{Result, Ok, Err, IsErr}
use Rattle.std.proofs.lemmas.Bool.{false≢true}
use Rattle.layout.specs.declared.Role.{Role}
use Rattle.layout.specs.declared.Standing.{Standing}
use Rattle.state.specs.declared.types.Record.{Record}
use Rattle.calls.specs.Call.{Event, fed, refused}
use Rattle.calls.specs.Table.{refusal_of}
use Rattle.calls.specs.Effect.{act, untouched, called}
use Rattle.refusals.specs.declared.types.Refusal.{Refusal}
use Rattle.refusals.specs.declared.types.Progress.{Progress}
use Rattle.refusals.specs.declared.types.Figures.{Figures}
use Rattle.refusals.specs.declared.types.Swept.{Swept}
use Rattle.refusals.specs.Answers.{number_of, changed_answer, changed_record, counted_answer, counted_record}
use Rattle.refusals.specs.Answers.{report_answer, located_answer, owned_answer, swept_answer}
use Rattle.refusals.proofs.Laws.Ready.{err-number}

module _ (e : Event) (r : Record) where
  pub called-refused : (k : ℕ) → refusal_of r (fed e) ≡ k → k ≢ 0 → called e r ≡ untouched e r k
  unfolding called
  called-refused zero q nz = absurd (nz refl)
  called-refused (suc k) q nz = rw q refl

  pub called-done : refusal_of r (fed e) ≡ 0 → called e r ≡ act e r
  unfolding called
  called-done q = rw q refl

  -- a call that was stopped by the error of the table
  pub called-stopped : {T : Type 0} (x : Result T Refusal) → IsErr x → number_of x ≡ refusal_of r (fed e)
      → called e r ≡ untouched e r (number_of x)
  called-stopped x l n = called-refused (number_of x) (sym n) (err-number x l)

-- what an error is as an answer
pub err-changed : (x : Result Record Refusal) → IsErr x → changed_answer x ≡ refused (number_of x)
err-changed (Err e) l = refl
err-changed (Ok y) l = absurd (false≢true l)

pub err-unchanged : (r : Record) (x : Result Record Refusal) → IsErr x → changed_record r x ≡ r
err-unchanged r (Err e) l = refl
err-unchanged r (Ok y) l = absurd (false≢true l)

pub err-counted : (x : Result Progress Refusal) → IsErr x → counted_answer x ≡ refused (number_of x)
err-counted (Err e) l = refl
err-counted (Ok y) l = absurd (false≢true l)

pub err-uncounted : (r : Record) (x : Result Progress Refusal) → IsErr x → counted_record r x ≡ r
err-uncounted r (Err e) l = refl
err-uncounted r (Ok y) l = absurd (false≢true l)

pub err-report : (x : Result Figures Refusal) → IsErr x → report_answer x ≡ refused (number_of x)
err-report (Err e) l = refl
err-report (Ok y) l = absurd (false≢true l)

pub err-located : (x : Result Standing Refusal) → IsErr x → located_answer x ≡ refused (number_of x)
err-located (Err e) l = refl
err-located (Ok y) l = absurd (false≢true l)

pub err-owned : (x : Result Role Refusal) → IsErr x → owned_answer x ≡ refused (number_of x)
err-owned (Err e) l = refl
err-owned (Ok y) l = absurd (false≢true l)

pub err-swept : (x : Result Swept Refusal) → IsErr x → swept_answer x ≡ refused (number_of x)
err-swept (Err e) l = refl
err-swept (Ok y) l = absurd (false≢true l)
