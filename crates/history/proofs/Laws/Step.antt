-- The array and the flat list, call by call: from images that hold the list, equal answers and records, and images that hold the next list. Assumes nothing.
use Prim.Native.Nat.{ℕ, zero, suc, ◌+◌, ◌-◌, ◌*◌, ◌≤◌, ◌<◌, min}
use mathlib.Core.Path.{◌≡◌, refl, sym, ap, ◌∙◌, subst}
use mathlib.Core.Bool.{Bool, true, false, cond, not}
use mathlib.Core.Logic.{◌⊎◌, inl, inr}
use mathlib.Core.List.{List, ◌++◌}
use native.Mathlib.Decide.{ℕ_discrete}
use native.Mathlib.Omega.{arith}
use lib.Dec.{eqb}
use lib.ListN.{length, get_or}
use borrow.Author.Tests.{eq-eqb, ne_eqb, lt-ltb, le-ltb}
use Rattle.layout.specs.Layout.{total_of, finished_zones, open_stripes, capacity}
use Rattle.layout.proofs.Laws.Basics.{le-or-lt}
use Rattle.blocks.proofs.Laws.Stripe.{get_or-place}
use Rattle.state.specs.declared.types.Health.TheVariants.{Whole, Out, Lost, Rebuilding}
use Rattle.state.specs.declared.types.Health.{Health}
use Rattle.state.specs.declared.types.Record.{Record}
use Rattle.state.specs.Good.{geometry}
use Rattle.state.specs.Bytes.{record_length, decode, stripes_done, encode}
use Rattle.state.specs.Update.{grown_by, with_health}
use Rattle.state.proofs.Laws.Bytes.{decode-encode}
use Rattle.calls.specs.Call.{Call, format, read, view, write, grow, advance, out, begin, continue}
use Rattle.calls.specs.Call.{status, locate, owner, sweep, on, Event, fed, Answer, made, accepted}
use Rattle.calls.specs.Health.{after_out, rebuilt_to}
use Rattle.calls.specs.Images.{size, recorded}
use Rattle.calls.specs.Table.{terms, later_rows, table, word, refusal, refusal_of, rows_bytes, refusal_bytes}
use Rattle.calls.specs.Effect.{effect, Left, act, untouched, settle, sealed, called_bytes}
use Rattle.calls.proofs.Laws.OnBytes.{refusal-encode}
use Rattle.calls.proofs.Laws.Holding.{Holding, Leaves, Kept, relends}
use Rattle.calls.proofs.Laws.Format.{formats}
use Rattle.calls.proofs.Laws.Read.{reads, views}
use Rattle.calls.proofs.Laws.Write.{writes}
use Rattle.calls.proofs.Laws.Grow.{grows}
use Rattle.calls.proofs.Laws.Advance.{advanced, advances}
use Rattle.calls.proofs.Laws.Lists.{with-new}
use Rattle.calls.proofs.Laws.Passed as rows
use Rattle.calls.proofs.Laws.Passed.{passed}
use Rattle.calls.proofs.Laws.Out.{outs}
use Rattle.calls.proofs.Laws.Rebuild.{come-to, come-to-end, begins, as_many, carries}
use Rattle.calls.proofs.Laws.Swept.{sweeps}
use Rattle.history.specs.Flat.{Flat, flat, zero_blocks, reached, lengthened, fallen, risen, flat_act, flat_settle, flat_step}
use Rattle.history.specs.Lent.{as_bytes, Cabinet, takes, Keeps, Lends, leaves, images_after, next}

-- ---- an accepted call

-- the array's answer, record and standing images against the flat list's
pub record Acted (c : Call) (x : Left Record) (r : Record) (before : List ℕ) (y : Answer × Flat) : Type 0 where
  pub answer : x.answer ≡ y.0
  pub taken : accepted y.0 ≡ true
  pub state : x.state ≡ y.1.numbers
  pub holding : Holding y.1.numbers (images_after true (takes c r) before x.images) y.1.blocks

-- places that are kept are kept byte by byte
kept-bytes : (r : Record) (left lent : List ℕ) → Keeps r left lent → Kept r left lent
unfolding Keeps
kept-bytes r left lent k S d j lS ld lj q =
    sym (get_or-place r.block r.stripes lent S d j lj) ∙ ap (λ (v : List ℕ). get_or v j 0) (k S d lS ld q) ∙ get_or-place r.block r.stripes left S d j lj

-- both machines say the same of health
same-health : (x : Health) (d : ℕ) → after_out x d ≡ fallen x d
same-health Whole d = refl
same-health (Out o) d = refl
same-health Lost d = refl
same-health (Rebuilding o c) d = go (ℕ_discrete d o)
  where
    go : Dec (d ≡ o) → cond (eqb d o) (Out d) Lost ≡ cond (eqb o d) (Out o) Lost
    go (yes q) = rw (q, eq-eqb o o refl)
    go (no n) = rw (ne_eqb d o n, ne_eqb o d (λ q. n (sym q)))

same-rise : (T o c x : ℕ) → c + x ≤ T → rebuilt_to T o (c + x) ≡ risen T (Rebuilding o c) x
same-rise T o c x l = go (le-or-lt T (c + x))
  where
    go : (T ≤ c + x) ⊎ (c + x < T) → rebuilt_to T o (c + x) ≡ risen T (Rebuilding o c) x
    go (inl h) = rw (come-to-end T o (c + x) (omega arith), le-ltb (c + x) T h)
    go (inr h) = rw (come-to T o (c + x) h, lt-ltb (c + x) T h)

-- the flat list's length is the capacity, so both machines lengthen it alike
same_length : (r : Record) → capacity (geometry r) ≡ reached r
unfolding capacity open_stripes
same_length r = go (eqb r.moves (total_of (geometry r)))
  where
    zones : ℕ
    zones = finished_zones (geometry r)

    go : (b : Bool) → r.stripes * (r.old - 1) + cond b r.stripes (zones * (r.old + r.new)) * r.new
        ≡ r.stripes * (r.old - 1) + cond b (r.stripes * r.new) (zones * (r.old + r.new) * r.new)
    go true = refl
    go false = refl

longer : {x : Left Record} {a : Answer} (r : Record) (bs : List (List ℕ)) → Leaves x a r (with-new (geometry r) r.block bs) → Leaves x a r (lengthened r bs)
longer {x} {a} r bs l = subst (λ (n : ℕ). Leaves x a r (bs ++ zero_blocks (n - length bs) r.block)) (same_length r) l

module _ (r : Record) (left : List ℕ) (bs : List (List ℕ)) (h : Holding r left bs) (img room : List ℕ) where
  abbrev Passes : Call → Type 0
  Passes c = word (later_rows c r (capacity (geometry r)) (length img) (length room)) ≡ 0

  -- images that may be lent hold the list too
  lent : (length img ≡ size r → Keeps r left img) → length img ≡ size r → Holding r img bs
  lent k z = relends r left bs h img z (kept-bytes r left img (k z))

  -- a call that takes images leaves them standing
  left_by : (c : Call) {x : Left Record} {a : Answer} {r' : Record} {cs : List (List ℕ)} → images_after true (takes c r) left x.images ≡ x.images → accepted a ≡ true
      → Leaves x a r' cs → Acted c x r left (a, flat r' cs)
  left_by c same ok l = record { answer = l.answer; taken = ok; state = l.state; holding = rw same l.holding }

  abbrev cap : ℕ
  cap = capacity (geometry r)

  -- a continue makes of the health what the flat list makes of it
  continues : (length img ≡ size r → Keeps r left img) → (k : ℕ) → Passes (continue k) →
      let x = min k (r.stripes - stripes_done r.health) in
      Leaves (act (on (continue k) img room) r) (made x) (with_health r (risen r.stripes r.health x)) bs
  continues l k z =
      let q = rows.continues r cap (length img) (length room) k z in
      let g : Holding r img bs = lent l q.long in
      let x : ℕ = min k (r.stripes - q.done) in
      let rise = same-rise r.stripes q.disk q.done x (as_many r img q.disk q.done q.health k h.limits) in
      subst (λ (y : Health). let n = min k (r.stripes - stripes_done y) in Leaves X (made n) (with_health r (risen r.stripes y n)) bs) (sym q.health)
      (subst (λ (y : Health). Leaves X (made x) (with_health r y) bs) rise (carries r img q.disk q.done q.health k h.limits q.long room bs g))
    where
      X : Left Record
      X = act (on (continue k) img room) r

  acts : (c : Call) → Lends (on c img room) r left → Passes c → Acted c (act (on c img room) r) r left (flat_act c r bs)
  unfolding Lends terms flat_act effect recorded
  acts (format n B T) l z = left_by (format n B T) refl refl (formats n B T img room r cap (length room) z)
  acts (read b) l z = left_by (read b) refl refl (reads r img room bs (lent l) b z)
  acts (view b) l z = left_by (view b) refl refl (views r img room bs (lent l) b z)
  acts (write b v) l z = left_by (write b v) refl refl (writes r img room bs (lent l) b v (length room) z)
  acts (grow m) l z =
      left_by (grow m) refl refl (longer (grown_by r m) bs (grows r left img room bs h m (λ q. kept-bytes r left img (l q)) cap (length room) z))
  acts (advance k) l z = left_by (advance k) refl refl (longer (advanced k r) bs (advances r img room bs (lent l) k cap (length room) z))
  acts (out d) l z =
      let x : Holding (with_health r (after_out r.health d)) left bs = outs r left bs h d cap (length img) (length room) z in
      record { answer = refl; taken = refl; state = ap (with_health r) (same-health r.health d); holding = rw (same-health r.health d) at x }
  acts (begin d) l z = left_by (begin d) refl refl (begins r img room bs (lent l) d cap (length room) z)
  acts (continue k) l z = left_by (continue k) refl refl (continues l k z)
  acts status l z = record { answer = rw h.count; taken = refl; state = refl; holding = h }
  acts (locate b) l z = record { answer = refl; taken = refl; state = refl; holding = h }
  acts (owner S d) l z = record { answer = refl; taken = refl; state = refl; holding = h }
  acts sweep l z = left_by sweep refl refl (sweeps r img room bs (lent l) cap (length room) z)

-- ---- a call, refused or not

pub record Alike (e : Event) (a : Cabinet (List ℕ)) (y : Answer × Flat) : Type 0 where
  pub answer : (leaves as_bytes e a).answer ≡ y.0
  pub fields : (leaves as_bytes e a).state ≡ encode y.1.numbers
  pub holding : Holding y.1.numbers (next as_bytes e a).img y.1.blocks

abbrev cabinet : Record → List ℕ → Cabinet (List ℕ)
cabinet r left = record { rec = encode r; img = left }

-- the same by what the call leaves
record Settled (e : Event) (b before : List ℕ) (x : Left (List ℕ)) (y : Answer × Flat) : Type 0 where
  answer : x.answer ≡ y.0
  fields : x.state ≡ encode y.1.numbers
  holding : Holding y.1.numbers (images_after (accepted x.answer) (takes e.call (decode b)) before x.images) y.1.blocks

module _ (r : Record) (left : List ℕ) (bs : List (List ℕ)) (h : Holding r left bs) (e : Event) (l : Lends e r left) where
  abbrev f : Flat
  f = record { numbers = r; blocks = bs }

  settled : Settled e (encode r) left (settle (refusal_of r (fed e)) (untouched e (encode r)) (sealed (act e r)))
      (flat_settle (refusal_of r (fed e)) f (flat_act e.call r bs))
  settled = go (refusal_of r (fed e)) refl
    where
      go : (n : ℕ) → refusal_of r (fed e) ≡ n
          → Settled e (encode r) left (settle n (untouched e (encode r)) (sealed (act e r))) (flat_settle n f (flat_act e.call r bs))
      go zero z =
          let x = acts r left bs h e.images e.room e.call l (passed r (capacity (geometry r)) (fed e) z) in
          record { answer = x.answer; fields = ap encode x.state; holding = rw (decode-encode r, ap accepted x.answer ∙ x.taken) x.holding }
      go (suc n) z = record { answer = refl; fields = refl; holding = h }

  alike-here : Alike e (cabinet r left) (flat_step (fed e) f)
  unfolding flat_step called_bytes next
  alike-here =
      let x : Settled e (encode r) left (settle (refusal_bytes (encode r) (fed e)) (untouched e (encode r)) (sealed (act e (decode (encode r)))))
      (flat_settle (refusal r (length bs) (fed e)) f (flat_act e.call r bs)) = rw (refusal-encode r (fed e), decode-encode r, h.count) settled in
      record { answer = x.answer; fields = x.fields; holding = x.holding }

-- from a cabinet that holds the flat list
pub record Holds (a : Cabinet (List ℕ)) (f : Flat) : Type 0 where
  pub fields : a.rec ≡ encode f.numbers
  pub holding : Holding f.numbers a.img f.blocks

pub alike : (e : Event) (a : Cabinet (List ℕ)) (f : Flat) → Holds a f → Lends e f.numbers a.img → Alike e a (flat_step (fed e) f)
alike e a f h l =
    subst (λ (b : List ℕ). Alike e (record { rec = b; img = a.img }) (flat_step (fed e) f)) (sym h.fields) (alike-here f.numbers a.img f.blocks h.holding e l)

-- ---- the opening: an accepted format, whatever it is lent and whatever the flat list held

module _ (n B T : ℕ) (img room : List ℕ) (a : Cabinet (List ℕ)) (f : Flat) where
  abbrev e : Event
  e = on (format n B T) img room

  -- the numbers that the two machines are given differ only if the record is too short or too long
  abbrev short : Bool
  short = not (eqb (length a.rec) record_length)

  abbrev W : ℕ
  W = word (later_rows (format n B T) f.numbers 0 (length img) (length room))

  abbrev X : ℕ → Left (List ℕ)
  X k = settle k (untouched e a.rec) (sealed (act e (decode a.rec)))

  opened : (k : ℕ) → W ≡ k → accepted (X k).answer ≡ true → Settled e a.rec a.img (X k) (flat_settle k f (flat_act (format n B T) f.numbers f.blocks))
  unfolding later_rows terms flat_act effect
  opened zero z u =
      let x = formats n B T img room (decode a.rec) 0 (length room) z in
      record { answer = x.answer; fields = ap encode x.state; holding = x.holding }
  opened (suc k) z u = absurd (let w : ◌≡◌ {A = ℕ} 0 1 = cc in omega arith)

  pub opens : accepted (leaves as_bytes e a).answer ≡ true → Alike e a (flat_step (fed e) f)
  unfolding called_bytes refusal_bytes rows_bytes refusal flat_step table later_rows terms next
  opens u = let x = go short refl u in record { answer = x.answer; fields = x.fields; holding = x.holding }
    where
      go : (b : Bool) → short ≡ b → accepted (X (cond b 1 W)).answer ≡ true → Settled e a.rec a.img (X (cond b 1 W)) (flat_step (fed e) f)
      go true q v = absurd (let w : ◌≡◌ {A = ℕ} 0 1 = cc in omega arith)
      go false q v = opened W refl v
