-- Demand 1, as far as the definitions go: `demand1`; `in_order`, `in-rising-order`, `in-steps`, `on_bytes`, `settles` and `values`. Assumes
-- nothing.
use Prim.Native.Nat.{ℕ, zero, suc}
use mathlib.Core.Path.{◌≡◌, refl, ap}
use mathlib.Core.Bool.{false}
use mathlib.Core.Logic.{◌↔◌, ◌≢◌}
use mathlib.Core.List.{List, []}
use native.Mathlib.Omega.{arith}
use lib.ListN.{length, replicate}
use Rattle.state.specs.Bytes.{decode}
use Rattle.state.specs.declared.types.Record.{Record}
use Rattle.calls.specs.Call.{Event, fed, refused, accepted, number, shown, beside}
use Rattle.calls.specs.Table.{word, refusal_of, rows_bytes, refusal_bytes}
use Rattle.calls.specs.Effect.{Left, act, untouched, settle, called, sealed, called_bytes}
use Rattle.calls.specs.Theorem.{Given, Answered, Demand1, InOrder, InRisingOrder, InSteps, OnBytes, Settles, Values}
use Rattle.calls.proofs.Laws.Rows.{rises, given}
use Rattle.calls.proofs.Laws.Advance.{advance-split}
use Rattle.calls.proofs.Laws.Rebuild.{risen, in_two}
use Rattle.calls.proofs.Laws.OnBytes as bytes
use Rattle.calls.proofs.Laws.Acting.{zero-done, is-refused}
use Rattle.calls.proofs.Laws.Kinds.{facts, numbered}

module _ (e : Event) (b : List ℕ) where
  abbrev X : ℕ → Left (List ℕ)
  X n = settle n (untouched e b) (sealed (act e (decode b)))

  number_is : number (called_bytes e b).answer ≡ refusal_bytes b (fed e)
  unfolding called_bytes
  number_is = go (refusal_bytes b (fed e))
    where
      go : (n : ℕ) → number (X n).answer ≡ n
      go zero = numbered (decode b) e e.call
      go (suc n) = refl

  kept : accepted (called_bytes e b).answer ≡ false → ((called_bytes e b).state ≡ b) × ((called_bytes e b).images ≡ e.images) × ((called_bytes e b).room ≡ e.room)
  unfolding called_bytes
  kept = go (refusal_bytes b (fed e))
    where
      go : (n : ℕ) → accepted (X n).answer ≡ false → ((X n).state ≡ b) × ((X n).images ≡ e.images) × ((X n).room ≡ e.room)
      go zero u = absurd (let y = (facts (decode b) e e.call).accepts in let w : ◌≡◌ {A = ℕ} 0 1 = cc in omega arith)
      go (suc n) u = (refl, refl, refl)

  zeros : (w : ℕ) → accepted (called_bytes e b).answer ≡ false → (beside w (called_bytes e b).answer ≡ replicate w 0) × (shown (called_bytes e b).answer ≡ [])
  unfolding called_bytes
  zeros w = go (refusal_bytes b (fed e))
    where
      go : (n : ℕ) → accepted (X n).answer ≡ false → (beside w (X n).answer ≡ replicate w 0) × (shown (X n).answer ≡ [])
      go zero u = absurd (let y = (facts (decode b) e e.call).accepts in let v : ◌≡◌ {A = ℕ} 0 1 = cc in omega arith)
      go (suc n) u = (refl, refl)

  not_done : (accepted (called_bytes e b).answer ≡ false) ↔ (refusal_bytes b (fed e) ≢ 0)
  unfolding called_bytes
  not_done = go (refusal_bytes b (fed e))
    where
      go : (n : ℕ) → (accepted (X n).answer ≡ false) ↔ (n ≢ 0)
      go zero = ((λ u. absurd (let y = (facts (decode b) e e.call).accepts in let w : ◌≡◌ {A = ℕ} 0 1 = cc in omega arith)), λ ne. absurd (ne refl))
      go (suc n) = ((λ u z. omega arith), λ ne. refl)

  word_is : refusal_bytes b (fed e) ≡ word (rows_bytes b (fed e))
  unfolding refusal_bytes
  word_is = refl

  table_is : Given (rows_bytes b (fed e))
  unfolding rows_bytes
  table_is = given (rows_bytes b (fed e)) (rises e.call _ _ _ _ (length e.images) (length e.room))

  answered : Answered e b
  answered = record { number_is = number_is; word_is = word_is; table_is = table_is; zeros = zeros; untouched = kept; refused = not_done }

pub demand1 : Demand1
demand1 = answered

pub in_order : InOrder
in_order = advance-split

pub in-steps : InSteps
in-steps i k o c r img h l = in_two i k o c r img h l

pub in-rising-order : InRisingOrder
in-rising-order k o c r img h = risen r img o c h k

pub on_bytes : OnBytes
on_bytes = bytes.on_bytes

-- ---- what the number makes of a call

settled : {R : Type 0} (n : ℕ) (kept : ℕ → Left R) (acted : Left R) → n ≡ 0 → settle n kept acted ≡ acted
settled n kept acted q = ap (λ (k : ℕ). settle k kept acted) q

module _ (e : Event) (r : Record) where
  turned-away : refusal_of r (fed e) ≢ 0
      → ((called e r).answer ≡ refused (refusal_of r (fed e))) × ((called e r).state ≡ r) × ((called e r).images ≡ e.images) × ((called e r).room ≡ e.room)
  unfolding called
  turned-away = go (refusal_of r (fed e))
    where
      Y : ℕ → Left Record
      Y n = settle n (untouched e r) (act e r)

      go : (n : ℕ) → n ≢ 0 → ((Y n).answer ≡ refused n) × ((Y n).state ≡ r) × ((Y n).images ≡ e.images) × ((Y n).room ≡ e.room)
      go zero ne = absurd (ne refl)
      go (suc n) ne = (refl, refl, refl, refl)

pub settles : Settles
unfolding called called_bytes
settles =
    record {
      fed_is = λ e. refl;
      lent = λ c img room. (refl, refl, refl);
      lengths = λ c len room. (refl, refl, refl);
      let_through = λ e r q. settled (refusal_of r (fed e)) (untouched e r) (act e r) q;
      bytes_through = λ e b q. settled (refusal_bytes b (fed e)) (untouched e b) (sealed (act e (decode b))) q;
      written = λ x. (refl, refl, refl, refl);
      turned-away = turned-away;
    }

pub values : Values
values =
    record {
      refusals = λ w k. (refl, refl, refl);
      accepts = zero-done;
      only_refused = λ a. (is-refused a, λ h. ap accepted h.1);
      counts = λ w k. (refl, refl, refl);
      sweeps = λ w S x. (refl, refl);
      statuses = λ w c t total h. refl;
      places = λ w x. ((λ e. rw e refl), (λ e. rw e refl));
      owners = λ w b. (refl, refl, refl);
      views = λ w v. (refl, refl, refl);
    }
