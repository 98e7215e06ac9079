-- Demand 3 of calls on a record, from that of calls on its bytes: `on-records`. Assumes nothing.
use Prim.Native.Nat.{ℕ}
use mathlib.Core.Path.{◌≡◌, refl, sym, ap, ◌∙◌}
use mathlib.Core.List.{List, [], ◌∷◌}
use Rattle.state.specs.declared.types.Record.{Record}
use Rattle.state.specs.Bytes.{decode, encode}
use Rattle.state.proofs.Laws.Bytes.{decode-encode}
use Rattle.calls.specs.Call.{Event, fed}
use Rattle.calls.specs.Effect.{sealed}
use Rattle.calls.proofs.Laws.OnBytes.{good-encode, on_bytes}
use Rattle.history.specs.Flat.{Flat, flat_step}
use Rattle.history.specs.Lent.{as_bytes, as_record, Cabinet, leaves, next}
use Rattle.history.specs.Theorem.{tally, Claim, Claims, opening, Demand3On}

-- a cabinet with its record as bytes
abbrev in_bytes : Cabinet Record → Cabinet (List ℕ)
in_bytes a = record { rec = encode a.rec; img = a.img }

-- and back
out_of_bytes : Cabinet (List ℕ) → Cabinet Record
out_of_bytes a = record { rec = decode a.rec; img = a.img }

back : (a : Cabinet Record) → out_of_bytes (in_bytes a) ≡ a
unfolding out_of_bytes
back a = rw (decode-encode a.rec) refl

same-record : {r s : Record} → encode r ≡ encode s → r ≡ s
same-record {r} {s} p = sym (decode-encode r) ∙ ap decode p ∙ decode-encode s

module _ (e : Event) (a : Cabinet Record) where
  left_is : leaves as_bytes e (in_bytes a) ≡ sealed (leaves as_record e a)
  left_is = on_bytes e a.rec

  next_is : next as_bytes e (in_bytes a) ≡ in_bytes (next as_record e a)
  unfolding next
  next_is = rw (left_is, decode-encode a.rec) refl

  claim : (f : Flat) (sum : ℕ) → Claim as_bytes e (in_bytes a) f sum → Claim as_record e a f sum
  claim f sum c =
      let before = decode-encode a.rec in
      let after = decode-encode (leaves as_record e a).state in
      record {
        answer = rw left_is at c.answer;
        filled = rw left_is at c.filled;
        shown = rw (left_is, before) at c.shown;
        fields = same-record (rw left_is at c.fields);
        good_left = sym (good-encode _) ∙ (rw left_is at c.good_left);
        refused = λ u. let z = (rw left_is at c.refused) u in (same-record z.0, z.1, z.2);
        stays = λ u. sym (back (next as_record e a)) ∙ ap out_of_bytes (rw (left_is, next_is) at c.stays u) ∙ back a;
        parity = rw (left_is, before) at c.parity;
        parity_first = rw before at c.parity_first;
        parity_last = rw (left_is, before, after) at c.parity_last;
        over = rw (left_is, after) at c.over;
        sound = rw (left_is, next_is, after) at c.sound;
        long = rw (left_is, next_is, after) at c.long;
        capacity_is = rw (left_is, after) at c.capacity_is;
        bench = rw (left_is, next_is, after) at c.bench;
      }

claims : (es : List Event) (a : Cabinet Record) (f : Flat) (sum : ℕ) → Claims as_bytes es (in_bytes a) f sum → Claims as_record es a f sum
unfolding Claims
claims [] a f sum c = tt
claims (e ∷ es) a f sum c =
    λ l.
    let z = c l in
    let after : ℕ = tally e.call (leaves as_record e a).answer sum in (
      claim e a f after (rw (left_is e a) at z.0),
      claims es (next as_record e a) (flat_step (fed e) f).1 after (rw (left_is e a, next_is e a) at z.1),
    )

pub on-records : Demand3On as_bytes → Demand3On as_record
on-records d a f sum n B T img room u es = claims (opening n B T img room ∷ es) a f sum (d (in_bytes a) f sum n B T img room (rw (left_is (opening n B T img room) a) u) es)
