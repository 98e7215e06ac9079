-- A call on a record's bytes is the call on the record. Assumes nothing.
use Prim.Native.Nat.{ℕ, zero, suc}
use mathlib.Core.Path.{◌≡◌, refl, ap₂}
use mathlib.Core.Bool.{Bool, true, false, cond, not, ◌||◌}
use mathlib.Core.Logic.{◌≢◌}
use mathlib.Core.List.{List}
use native.Mathlib.Omega.{arith}
use lib.ListN.{length}
use borrow.Author.Tests.{eq-eqb, ne_eqb}
use Rattle.layout.specs.Layout.{capacity}
use Rattle.state.specs.declared.types.Record.{Record}
use Rattle.state.specs.Good.{geometry, good}
use Rattle.state.specs.Bytes.{record_length, decode, plain, good_bytes, encode}
use Rattle.state.specs.Update.{formatted}
use Rattle.state.proofs.Laws.Bytes.{decode-encode, length-encode, plain-encode}
use Rattle.calls.specs.Call.{Call, format, Event, on, Fed, feed, fed, number}
use Rattle.calls.specs.Images.{zero_disks}
use Rattle.calls.specs.Table.{looks, terms, later_rows, table, word, refusal, rows_bytes, refusal_bytes}
use Rattle.calls.specs.Effect.{effect, Left, act, untouched, settle, called, sealed, called_bytes}
use Rattle.calls.proofs.Laws.Stores.{recorded-last}
use Rattle.calls.proofs.Laws.Acting.{zero-done}
use Rattle.calls.proofs.Laws.Kinds.{facts}

pub good-encode : (r : Record) → good_bytes (encode r) ≡ good r
good-encode r = rw (plain-encode r, decode-encode r)

pub refusal-encode : (r : Record) (e : Fed) → refusal_bytes (encode r) e ≡ refusal r (capacity (geometry r)) e
unfolding refusal_bytes rows_bytes refusal
refusal-encode r e = rw (length-encode r, good-encode r, decode-encode r)

pub on_bytes : (e : Event) (r : Record) → called_bytes e (encode r) ≡ sealed (called e r)
unfolding called_bytes called
on_bytes e r = rw (refusal-encode r (fed e), decode-encode r) (go (refusal r (capacity (geometry r)) (fed e)))
  where
    go : (n : ℕ) → settle n (untouched e (encode r)) (sealed (act e r)) ≡ sealed (settle n (untouched e r) (act e r))
    go zero = refl
    go (suc n) = refl

-- ---- the same by the bytes lent, for a call that decodes them

-- row 1, whatever the call
module _ (bad : Bool) (r : Record) (cap len room : ℕ) (c : Call) where
  short-first : word (table c true bad r cap len room) ≡ 1
  unfolding table
  short-first = go (looks c)
    where
      go : (l : Bool) → ◌≡◌ {A = ℕ} (cond (cond l (true || bad) true) 1 (word (later_rows c r cap len room))) 1
      go true = refl
      go false = refl

  bad-first : looks c ≡ true → bad ≡ true → word (table c false bad r cap len room) ≡ 1
  unfolding table
  bad-first l q = rw (l, q) refl

-- bytes that are not so many, or that no record is written as
pub bytes-short : (e : Event) (b : List ℕ) → length b ≢ record_length → called_bytes e b ≡ untouched e b 1
unfolding called_bytes refusal_bytes rows_bytes
bytes-short e b h = rw (ne_eqb _ _ h, short-first (not (good_bytes b)) (decode b) (capacity (geometry (decode b))) (length e.images) (length e.room) e.call) refl

pub bytes-damaged : (e : Event) (b : List ℕ) → length b ≡ record_length → looks e.call ≡ true → plain b ≡ false → called_bytes e b ≡ untouched e b 1
unfolding called_bytes refusal_bytes rows_bytes
bytes-damaged e b long l p =
    rw (eq-eqb _ _ long, bad-first (not (good_bytes b)) (decode b) (capacity (geometry (decode b))) (length e.images) (length e.room) e.call l (rw p refl)) refl

-- what a call on bytes b leaves, beside the same call on a record
pub record Seals (b : List ℕ) (x : Left (List ℕ)) (y : Left Record) : Type 0 where
  pub answer : x.answer ≡ y.answer
  pub images : x.images ≡ y.images
  pub room : x.room ≡ y.room
  pub kept : number y.answer ≢ 0 → x.state ≡ b
  pub written : number y.answer ≡ 0 → x.state ≡ encode y.state

seals : (e : Event) (b : List ℕ) (r : Record) (n : ℕ) → Seals b (settle n (untouched e b) (sealed (act e r))) (settle n (untouched e r) (act e r))
seals e b r zero =
    let accepts : number (act e r).answer ≡ 0 = zero-done (act e r).answer (facts r e e.call).accepts in
    record { answer = refl; images = refl; room = refl; kept = λ q. absurd (q accepts); written = λ q. refl }
seals e b r (suc n) = record { answer = refl; images = refl; room = refl; kept = λ q. refl; written = λ q. absurd (omega (arith, q)) }

-- bytes that a record is written as
module _ (e : Event) (b : List ℕ) (long : length b ≡ record_length) (p : plain b ≡ true) where
  agrees : refusal_bytes b (fed e) ≡ refusal (decode b) (capacity (geometry (decode b))) (fed e)
  unfolding refusal_bytes rows_bytes refusal
  agrees = rw (long, p) refl

  pub record-seals : Seals b (called_bytes e b) (called e (decode b))
  unfolding called called_bytes
  record-seals = rw agrees (seals e b (decode b) (refusal (decode b) (capacity (geometry (decode b))) (fed e)))

-- format, lent any bytes of its length: as on any record

pub format-encode : (n B T len room c : ℕ) (b : List ℕ) (r : Record) → length b ≡ record_length
    → refusal_bytes b (feed (format n B T) len room) ≡ refusal r c (feed (format n B T) len room)
unfolding refusal_bytes rows_bytes refusal table later_rows terms
format-encode n B T len room c b r long = rw long refl

module _ (n B T : ℕ) (img room b : List ℕ) (r : Record) (long : length b ≡ record_length) where
  abbrev e : Event
  e = on (format n B T) img room

  acts-as-on : act e (decode b) ≡ act e r
  unfolding effect
  acts-as-on = rw (recorded-last (zero_disks B T 0 n) (formatted n B T) (decode b), recorded-last (zero_disks B T 0 n) (formatted n B T) r) refl

  settles : called_bytes e b ≡ settle (refusal r (capacity (geometry r)) (fed e)) (untouched e b) (sealed (act e r))
  unfolding called_bytes
  settles = ap₂ (λ (k : ℕ) (x : Left Record). settle k (untouched e b) (sealed x)) (format-encode n B T (length img) (length room) (capacity (geometry r)) b r long) acts-as-on

  pub format-seals : Seals b (called_bytes e b) (called e r)
  unfolding called
  format-seals = rw settles (seals e b r (refusal r (capacity (geometry r)) (fed e)))
