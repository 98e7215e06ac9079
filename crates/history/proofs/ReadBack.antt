-- What a fair history reads: `reads-last-given`, `reads-zero-at-first` and `reads-refused`, from what is proved of the flat list. Assumes
-- nothing.
use Prim.Native.Nat.{ℕ}
use mathlib.Core.Path.{◌≡◌, sym, ap, ◌∙◌, subst}
use mathlib.Core.Logic.{inl, inr}
use mathlib.Core.List.{List, [], ◌∷◌, map}
use mathlib.Core.Bool.{true}
use lib.ListN.{length}
use Rattle.blocks.specs.Block.{zeros}
use Rattle.state.specs.declared.types.Health.{Health}
use Rattle.state.specs.declared.types.Record.{Record}
use Rattle.calls.specs.Call.{Call, format, write, out, Event, Fed, feed, fed, accepted, shown}
use Rattle.calls.specs.Table.{looks}
use Rattle.history.specs.Flat.{Flat, flat_step}
use Rattle.history.specs.Lent.{Form, as_bytes, as_record, Cabinet, leaves, next}
use Rattle.history.specs.Theorem.{Claim, opening, NotGiven, behind, Gives, NoReads}
use Rattle.history.specs.ReadBack.{Each, InFair, ReadsAs, KeepsGiven, ReadsLastGiven, ZeroFromFormat, ReadsZeroAtFirst, NoReadsOn, LostFromSecond, ReadsRefused}
use Rattle.history.proofs.Laws.Run.{accepts, Known, Run, ended, goes, RunsOn}
use Rattle.history.proofs.Theorem.{run-bytes, run-records, last-given, zero-at-first, second_out}

-- block b of the flat list stays v until it is given something else
abbrev Stays : ℕ → List ℕ → Flat → Type 0
Stays b v f = (es : List Fed) → NotGiven b es f → Gives b v (behind es f)

-- ---- from the flat list to the array

module _ {R : Type 0} (x : Form R) where
  reads_as : (b : ℕ) (v : List ℕ) (es : List Event) (a : Cabinet R) (f : Flat) → Run x es a f → Stays b v f → ReadsAs x b v es a
  unfolding ReadsAs NotGiven Gives behind
  reads_as b v [] a f ended g = tt
  reads_as b v (e ∷ es) a f (goes c k l) g = (
    λ q u. let z = c.answer ∙ g [] tt (fed e) (inl q) (accepts c u) in (z, ap shown (sym (c.filled b q u) ∙ z)),
    λ q u. c.answer ∙ g [] tt (fed e) (inr q) (accepts c u),
    λ nf nw.
        reads_as b v es (next x e a) (flat_step (fed e) f).1 l
        (λ ds ng. g (fed e ∷ ds) ((λ n B T q. accepts c (nf n B T q)), (λ w q. accepts c (nw w q)), ng)),
  )

  no-reads-on : (es : List Event) (a : Cabinet R) (f : Flat) → Run x es a f → NoReads (map fed es) f → NoReadsOn x es a
  unfolding NoReads NoReadsOn
  no-reads-on [] a f ended g = tt
  no-reads-on (e ∷ es) a f (goes c k l) g = (
    λ b q. c.answer ∙ g.0 b q,
    λ b q. c.answer ∙ g.1 b q,
    λ nf. no-reads-on es (next x e a) (flat_step (fed e) f).1 l (g.2 (λ n B T q. accepts c (nf n B T q))),
  )

  -- what holds of the flat list after an accepted call c
  after_call : (P : Flat → Type 0) (e : Event) (a : Cabinet R) (f : Flat) (sum : ℕ) (c : Call) →
      let y = flat_step (feed c (length e.images) (length e.room)) f in
      Claim x e a f sum → e.call ≡ c → (accepted y.0 ≡ true → P y.1) → accepted (leaves x e a).answer ≡ true → P (flat_step (fed e) f).1
  after_call P e a f sum c claimed q p u =
      subst (λ (c : Call). let y = flat_step (feed c (length e.images) (length e.room)) f in accepted y.0 ≡ true → P y.1) (sym q) p
      (accepts claimed u)

  -- ---- after one call

  keeps_given : (e : Event) (es : List Event) (a : Cabinet R) (f : Flat) → Run x (e ∷ es) a f → KeepsGiven x e es a
  keeps_given e es a f (goes c k l) b v q u =
      reads_as b v es (next x e a) (flat_step (fed e) f).1 l
      (after_call (Stays b v) e a f _ (write b v) c q (last-given f b v (length e.images) (length e.room)) u)

  zero-from-format : (e : Event) (es : List Event) (a : Cabinet R) (f : Flat) → Run x (e ∷ es) a f → ZeroFromFormat x e es a
  zero-from-format e es a f (goes c k l) n B T b q u =
      reads_as b (zeros B) es (next x e a) (flat_step (fed e) f).1 l
      (after_call (Stays b (zeros B)) e a f _ (format n B T) c q (λ w. zero-at-first f n B T (length e.images) (length e.room) w b) u)

  lost-from-second : (e : Event) (es : List Event) (a : Cabinet R) (f : Flat) → Run x (e ∷ es) a f → LostFromSecond x e es a
  lost-from-second e es a f (goes c k l) = (
    λ first second q h u.
        let z = k (ap looks q) in
        lost second q u (second_out.while_out f first second len room z.is-good (health z h)),
    λ first done second q h ne u.
        let z = k (ap looks q) in
        lost second q u (second_out.while_rebuilding f first done second len room z.is-good (health z h) ne),
  )
    where
      len : ℕ
      len = length e.images

      room : ℕ
      room = length e.room

      health : Known x a f → {h : Health} → (x.decoded a.rec).health ≡ h → f.numbers.health ≡ h
      health z q = ap (λ (r : Record). r.health) (sym z.is) ∙ q

      lost : (second : ℕ) → e.call ≡ out second → accepted (leaves x e a).answer ≡ true →
          let y = flat_step (feed (out second) len room) f in
          (accepted y.0 ≡ true → (es : List Fed) → NoReads es y.1) → NoReadsOn x es (next x e a)
      lost second q u p =
          no-reads-on es (next x e a) (flat_step (fed e) f).1 l
          (after_call (NoReads (map fed es)) e a f _ (out second) c q (λ w. p w (map fed es)) u)

-- ---- of each call, on bytes and on records

each : {R : Type 0} (x : Form R) (P : Event → List Event → Cabinet R → Type 0)
    → ((e : Event) (es : List Event) (a : Cabinet R) (f : Flat) → Run x (e ∷ es) a f → P e es a)
    → (es : List Event) (a : Cabinet R) (f : Flat) → Run x es a f → Each x P es a
unfolding Each
each x P p [] a f ended = tt
each x P p (e ∷ es) a f (goes c k l) = (p e es a f (goes c k l), each x P p es (next x e a) (flat_step (fed e) f).1 l)

in-fair : {R : Type 0} (x : Form R) (P : Event → List Event → Cabinet R → Type 0) → RunsOn x
    → ((e : Event) (es : List Event) (a : Cabinet R) (f : Flat) → Run x (e ∷ es) a f → P e es a) → InFair x P
in-fair x P run p a f n B T img room u es l = each x P p (opening n B T img room ∷ es) a f (run a f n B T img room u es l)

pub reads-last-given : ReadsLastGiven
reads-last-given = (in-fair as_bytes _ run-bytes (keeps_given as_bytes), in-fair as_record _ run-records (keeps_given as_record))

pub reads-zero-at-first : ReadsZeroAtFirst
reads-zero-at-first = (in-fair as_bytes _ run-bytes (zero-from-format as_bytes), in-fair as_record _ run-records (zero-from-format as_record))

pub reads-refused : ReadsRefused
reads-refused = (in-fair as_bytes _ run-bytes (lost-from-second as_bytes), in-fair as_record _ run-records (lost-from-second as_record))
