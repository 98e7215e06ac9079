-- What a call that may change the record leaves, from its answer. Assumes nothing.
use Prim.Native.Nat.{ℕ}
use mathlib.Core.Path.{◌≡◌, sym, ap, ◌∙◌}
use mathlib.Core.List.{List, [], ◌∷◌}
use Rattle.std.specs.Prelude.{Result, Ok, Err}
use Rattle.state.specs.declared.types.Record.{Record}
use Rattle.state.specs.Bytes.{encode}
use Rattle.refusals.specs.declared.types.Progress.{Progress}
use Rattle.refusals.specs.declared.types.Refusal.{Refusal}
use Rattle.refusals.specs.Answers.{number_of, changed_answer, changed_record, counted_answer, counted_record}
use Rattle.refusals.proofs.Laws.Ready.{above-0}
use Rattle.calls.specs.Call.{number, count, beside}
use Rattle.calls.specs.Effect.{Left}
use Rattle.calls.proofs.Laws.OnBytes.{Seals}
use Rattle.pbm.specs.Closing.{bytes_left, bytes_counted}

module _ {b : List ℕ} {X : Left (List ℕ)} {Y : Left Record} (s : Seals b X Y) where
  pub numbered : {k : ℕ} → k ≡ number Y.answer → k ≡ number X.answer
  numbered q = q ∙ ap number (sym s.answer)

  -- the code has the record before as r
  pub closed : (r : Record) (x : Result Record Refusal) → changed_answer x ≡ Y.answer → changed_record r x ≡ Y.state
      → (number_of x ≡ number X.answer) × (bytes_left x b ≡ X.state)
  closed r (Ok y) q e = (numbered (ap number q), ap encode e ∙ sym (s.written (sym (ap number q))))
  closed r (Err f) q e = (numbered (ap number q), sym (s.kept (λ z. above-0 f (ap number q ∙ z))))

  pub closed_counted : (r : Record) (x : Result Progress Refusal) → counted_answer x ≡ Y.answer → counted_record r x ≡ Y.state
      → (number_of x ≡ number X.answer) × ((count (counted_answer x) ∷ []) ≡ beside 1 X.answer) × (bytes_counted x b ≡ X.state)
  closed_counted r (Ok y) q e = (numbered (ap number q), ap (beside 1) (q ∙ sym s.answer), ap encode e ∙ sym (s.written (sym (ap number q))))
  closed_counted r (Err f) q e =
      (numbered (ap number q), ap (beside 1) (q ∙ sym s.answer), sym (s.kept (λ z. above-0 f (ap number q ∙ z))))
