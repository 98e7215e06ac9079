-- A fair history from an accepted format on, call by call: `run`. Assumes nothing.
use Prim.Native.Nat.{ℕ}
use mathlib.Core.Path.{◌≡◌, sym, ap, ◌∙◌}
use mathlib.Core.List.{List, [], ◌∷◌}
use mathlib.Core.Bool.{Bool, true}
use native.Mathlib.Omega.{arith}
use Rattle.state.specs.declared.types.Record.{Record}
use Rattle.state.specs.Good.{good}
use Rattle.calls.specs.Call.{Event, fed, accepted}
use Rattle.calls.specs.Table.{looks}
use Rattle.history.specs.Flat.{Flat, flat_step}
use Rattle.history.specs.Lent.{Form, Cabinet, leaves, next}
use Rattle.history.specs.Theorem.{tally, Claim, Claims, opening, Demand3On, Fair}

-- the flat list accepts what the array does
pub accepts : {R : Type 0} {x : Form R} {e : Event} {a : Cabinet R} {f : Flat} {sum : ℕ} {t : Bool} → Claim x e a f sum
    → accepted (leaves x e a).answer ≡ t → accepted (flat_step (fed e) f).0 ≡ t
accepts c u = ap accepted (sym c.answer) ∙ u

-- the record of the cabinet is the flat list's, and good
pub record Known {R : Type 0} (x : Form R) (a : Cabinet R) (f : Flat) : Type 0 where
  pub is : x.decoded a.rec ≡ f.numbers
  pub is-good : good f.numbers ≡ true

-- a call is claimed, and knows the record if it looks at it; then the calls after it
pub data Run {R : Type 0} (x : Form R) : List Event → Cabinet R → Flat → Type 0 where
  ended : {a : Cabinet R} {f : Flat} → Run x [] a f
  goes : {e : Event} {es : List Event} {a : Cabinet R} {f : Flat} {sum : ℕ} → Claim x e a f sum → (looks e.call ≡ true → Known x a f)
      → Run x es (next x e a) (flat_step (fed e) f).1 → Run x (e ∷ es) a f

abbrev pub RunsOn : {R : Type 0} → Form R → Type 0
RunsOn {R} x =
    (a : Cabinet R) (f : Flat) (n B T : ℕ) (img room : List ℕ) → accepted (leaves x (opening n B T img room) a).answer ≡ true
    → (es : List Event) → Fair x (opening n B T img room ∷ es) a f → Run x (opening n B T img room ∷ es) a f

-- does the first call look at the record?
abbrev looks_first : List Event → Bool
looks_first [] = true
looks_first (e ∷ es) = looks e.call

module _ {R : Type 0} (x : Form R) (back : (r : Record) → x.decoded (x.encoded r) ≡ r) (same : (r : Record) → x.is_good (x.encoded r) ≡ good r) where
  left : (e : Event) (a : Cabinet R) (f : Flat) (sum : ℕ) → Claim x e a f sum → Known x (next x e a) (flat_step (fed e) f).1
  unfolding next
  left e a f sum c =
      record { is = ap x.decoded c.fields ∙ back _; is-good = sym (same _) ∙ ap x.is_good (sym c.fields) ∙ c.good_left }

  runs : (es : List Event) (a : Cabinet R) (f : Flat) (sum : ℕ) → Claims x es a f sum → Fair x es a f → (looks_first es ≡ true → Known x a f) → Run x es a f
  unfolding Claims Fair
  runs [] a f sum c l k = ended
  runs (e ∷ es) a f sum c l k =
      let after : ℕ = tally e.call (leaves x e a).answer sum in
      let z = c l.0 in
      goes z.0 k (runs es (next x e a) (flat_step (fed e) f).1 after z.1 l.1 (λ q. left e a f after z.0))

  -- a format does not look at the record
  pub run : Demand3On x → RunsOn x
  run d a f n B T img room u es l =
      runs (opening n B T img room ∷ es) a f 0 (d a f 0 n B T img room u es) l (λ q. absurd (let w : ◌≡◌ {A = ℕ} 0 1 = cc in omega arith))
