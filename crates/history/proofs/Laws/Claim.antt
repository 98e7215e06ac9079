-- Demand 3 of calls on a record's bytes: `on_bytes`. Assumes nothing.
use Prim.Native.Nat.{ℕ, zero, suc, ◌<◌}
use mathlib.Core.Path.{◌≡◌, refl, sym, ap, ap₂, ◌∙◌, subst}
use mathlib.Core.Bool.{Bool, true, false}
use mathlib.Core.Logic.{◌↔◌, ◌≢◌}
use mathlib.Core.List.{List, [], ◌∷◌}
use native.Mathlib.Omega.{arith}
use lib.ListN.{length, get_or}
use Rattle.layout.specs.Layout.{total_of, capacity, layout}
use Rattle.layout.specs.Limits.{GoodArray}
use Rattle.state.specs.declared.types.Record.{Record}
use Rattle.state.specs.Good.{geometry}
use Rattle.state.specs.Bytes.{decode, encode}
use Rattle.state.proofs.Laws.Good.{within-limits}
use Rattle.state.proofs.Laws.Bytes.{decode-encode}
use Rattle.calls.specs.Call.{Call, format, read, view, advance, Event, fed, Answer, bytes, accepted}
use Rattle.calls.specs.Health.{is_lost, absent}
use Rattle.calls.specs.Images.{place_in}
use Rattle.calls.specs.Table.{idle, later_rows, word, refusal, refusal_bytes}
use Rattle.calls.specs.Effect.{place_of, block_of, parity_after, Left, act, untouched, settle, sealed, called_bytes}
use Rattle.calls.specs.Sound.{Sound}
use Rattle.calls.proofs.Theorem.{demand1}
use Rattle.calls.proofs.Laws.Acting.{fills, shows, parity_first, parity_last}
use Rattle.calls.proofs.Laws.OnBytes.{good-encode}
use Rattle.calls.proofs.Laws.Table.{some-new}
use Rattle.calls.proofs.Laws.Passed.{passed-bytes, moves}
use Rattle.calls.proofs.Laws.Holding.{Holding, block-is}
use Rattle.calls.proofs.Laws.Sound.{sound}
use Rattle.calls.proofs.Laws.Advance.{parity-kept}
use Rattle.history.specs.Flat.{Flat, flat_act, flat_settle, flat_step}
use Rattle.history.specs.Lent.{as_bytes, Cabinet, takes, leaves, images_after, next}
use Rattle.history.specs.Theorem.{tally, Claim, Claims, opening, Demand3On}
use Rattle.history.proofs.Laws.Step.{Alike, Holds, alike, opens}
use Rattle.history.proofs.Laws.Tally.{Counted, counted_step, over-is}

-- ---- what a call leaves, by its definition

module _ (e : Event) (a : Cabinet (List ℕ)) where
  abbrev X : ℕ → Left (List ℕ)
  X n = settle n (untouched e a.rec) (sealed (act e (decode a.rec)))

  -- an accepted call leaves what its effect leaves
  done : accepted (leaves as_bytes e a).answer ≡ true → leaves as_bytes e a ≡ sealed (act e (decode a.rec))
  unfolding called_bytes
  done = go (refusal_bytes a.rec (fed e))
    where
      go : (n : ℕ) → accepted (X n).answer ≡ true → X n ≡ sealed (act e (decode a.rec))
      go zero u = refl
      go (suc n) u = absurd (let w : ◌≡◌ {A = ℕ} 0 1 = cc in omega arith)

  filled : (b : ℕ) → e.call ≡ read b → accepted (leaves as_bytes e a).answer ≡ true → (leaves as_bytes e a).answer ≡ bytes (leaves as_bytes e a).room
  filled b q u = rw (done u) (fills e (decode a.rec) b q)

  shown : (b : ℕ) → e.call ≡ view b → accepted (leaves as_bytes e a).answer ≡ true →
      (absent (decode a.rec).health (place_of (decode a.rec) b).stripe (place_of (decode a.rec) b).disk ≡ true → (leaves as_bytes e a).answer ≡ bytes (leaves as_bytes e a).room)
      × (absent (decode a.rec).health (place_of (decode a.rec) b).stripe (place_of (decode a.rec) b).disk ≡ false
      → ((leaves as_bytes e a).answer ≡ bytes (place_in (decode a.rec) e.images (place_of (decode a.rec) b).stripe (place_of (decode a.rec) b).disk)) × ((leaves as_bytes e a).room ≡ e.room))
  shown b q u = rw (done u) (shows e (decode a.rec) b q)

  ends : (k S : ℕ) → e.call ≡ advance k → accepted (leaves as_bytes e a).answer ≡ true
      → parity_after k (decode a.rec) e.images S ≡ place_in (decode a.rec) (leaves as_bytes e a).images S ((layout (geometry (decode (leaves as_bytes e a).state))).parity S)
  ends k S q u = rw (done u, decode-encode (act e (decode a.rec)).state) (parity_last e (decode a.rec) k S q)

  stays : accepted (leaves as_bytes e a).answer ≡ false → next as_bytes e a ≡ a
  unfolding next
  stays u =
      ap₂ (λ (b img : List ℕ). record { rec = b; img = img }) ((demand1 e a.rec).untouched u).0
      (ap (λ (c : Bool). images_after c (takes e.call (decode a.rec)) a.img (leaves as_bytes e a).images) u)

  -- an accepted call passed the table
  let_through : accepted (leaves as_bytes e a).answer ≡ true → refusal_bytes a.rec (fed e) ≡ 0
  unfolding called_bytes
  let_through u = go (refusal_bytes a.rec (fed e)) u
    where
      go : (n : ℕ) → accepted (X n).answer ≡ true → n ≡ 0
      go zero v = refl
      go (suc n) v = absurd (let w : ◌≡◌ {A = ℕ} 0 1 = cc in omega arith)

  parities : GoodArray (geometry (decode a.rec)) → (k i S : ℕ) → e.call ≡ advance k → accepted (leaves as_bytes e a).answer ≡ true → S < (decode a.rec).stripes
      → parity_after (suc i) (decode a.rec) e.images S ≡ parity_after i (decode a.rec) e.images S
  parities gd k i S q u lS =
      let r : Record = decode a.rec in
      let cap : ℕ = capacity (geometry r) in
      let z : word (later_rows (advance k) r cap (length e.images) (length e.room)) ≡ 0 =
      subst (λ (c : Call). word (later_rows c r cap (length e.images) (length e.room)) ≡ 0) q (passed-bytes a.rec (fed e) (let_through u)) in
      let w = moves r cap (length e.images) (length e.room) k z in
      let nz : r.new ≢ 0 = some-new (geometry r) w.busy in
      parity-kept (suc i) r e.images gd nz w.long S lS ∙ sym (parity-kept i r e.images gd nz w.long S lS)

-- ---- the record's bytes read back

read_back : (b : List ℕ) (r : Record) → b ≡ encode r → decode b ≡ r
read_back b r p = ap decode p ∙ decode-encode r

over-bytes : (b : List ℕ) (r : Record) (sum : ℕ) → b ≡ encode r → (r.new ≢ 0 → r.moves ≡ sum) → (decode b).new ≢ 0 → (idle (geometry (decode b)) ≡ true) ↔ (sum ≡ total_of (geometry (decode b)))
over-bytes b r sum p h = rw (read_back b r p) (over-is (geometry r) sum h)

sound-bytes : (b : List ℕ) (r : Record) (img : List ℕ) (bs : List (List ℕ)) → b ≡ encode r → Holding r img bs → is_lost (decode b).health ≡ false → (S : ℕ) → S < (decode b).stripes → Sound (decode b) img S
sound-bytes b r img bs p h = rw (read_back b r p) (λ nl S lS. sound r img bs h nl S lS)

bench-bytes : (b : List ℕ) (r : Record) (img : List ℕ) (bs : List (List ℕ)) → b ≡ encode r → Holding r img bs → is_lost (decode b).health ≡ false
    → (k : ℕ) → k < capacity (geometry (decode b)) → block_of (decode b) img k ≡ get_or bs k []
bench-bytes b r img bs p h = rw (read_back b r p) (λ nl k lk. block-is r img bs h k lk nl)

-- ---- one call

claim : (e : Event) (a : Cabinet (List ℕ)) (f : Flat) (sum : ℕ) → Alike e a (flat_step (fed e) f) → Counted (flat_step (fed e) f).1 sum
    → ((k i S : ℕ) → e.call ≡ advance k → accepted (leaves as_bytes e a).answer ≡ true → S < (decode a.rec).stripes
    → parity_after (suc i) (decode a.rec) e.images S ≡ parity_after i (decode a.rec) e.images S)
    → Claim as_bytes e a f sum
unfolding Counted
claim e a f sum s h p =
    let y : Answer × Flat = flat_step (fed e) f in
    record {
      answer = s.answer;
      filled = filled e a;
      shown = shown e a;
      fields = s.fields;
      good_left = rw s.fields (good-encode y.1.numbers ∙ within-limits y.1.numbers s.holding.limits);
      refused = (demand1 e a.rec).untouched;
      stays = stays e a;
      parity = p;
      parity_first = parity_first (decode a.rec) e.images;
      parity_last = ends e a;
      over = over-bytes (leaves as_bytes e a).state y.1.numbers sum s.fields h;
      sound = sound-bytes (leaves as_bytes e a).state y.1.numbers (next as_bytes e a).img y.1.blocks s.fields s.holding;
      long = rw (read_back (leaves as_bytes e a).state y.1.numbers s.fields) s.holding.long;
      capacity_is = rw (read_back (leaves as_bytes e a).state y.1.numbers s.fields) (sym s.holding.count);
      bench = bench-bytes (leaves as_bytes e a).state y.1.numbers (next as_bytes e a).img y.1.blocks s.fields s.holding;
    }

-- ---- every list

holds-next : (e : Event) (a : Cabinet (List ℕ)) (y : Answer × Flat) → Alike e a y → Holds (next as_bytes e a) y.1
unfolding next
holds-next e a y s = record { fields = s.fields; holding = s.holding }

counted_next : (e : Event) (a : Cabinet (List ℕ)) (f : Flat) (sum : ℕ) → Counted f sum → Alike e a (flat_step (fed e) f) → Counted (flat_step (fed e) f).1 (tally e.call (leaves as_bytes e a).answer sum)
counted_next e a f sum h s = rw s.answer (counted_step (fed e) f sum h)

good-bytes : (b : List ℕ) (r : Record) → b ≡ encode r → GoodArray (geometry r) → GoodArray (geometry (decode b))
good-bytes b r p g = rw (read_back b r p) g

claims : (es : List Event) (a : Cabinet (List ℕ)) (f : Flat) (sum : ℕ) → Holds a f → Counted f sum → Claims as_bytes es a f sum
unfolding Claims
claims [] a f sum h c = tt
claims (e ∷ es) a f sum h c =
    λ l.
    let s : Alike e a (flat_step (fed e) f) = alike e a f h l in
    let after : ℕ = tally e.call (leaves as_bytes e a).answer sum in
    let c' : Counted (flat_step (fed e) f).1 after = counted_next e a f sum c s in (
      claim e a f after s c' (parities e a (good-bytes a.rec f.numbers h.fields h.holding.limits.array)),
      claims es (next as_bytes e a) (flat_step (fed e) f).1 after (holds-next e a (flat_step (fed e) f) s) c',
    )

-- a format starts the count anew
counted-format : (n B T : ℕ) (img room : List ℕ) (a : Cabinet (List ℕ)) (f : Flat) (sum : ℕ) → accepted (leaves as_bytes (opening n B T img room) a).answer ≡ true → Alike (opening n B T img room) a (flat_step (fed (opening n B T img room)) f)
    → Counted (flat_step (fed (opening n B T img room)) f).1 sum
unfolding flat_step flat_act Counted
counted-format n B T img room a f sum u s = go (refusal f.numbers (length f.blocks) (fed (opening n B T img room))) (ap accepted (sym s.answer) ∙ u)
  where
    Y : ℕ → Answer × Flat
    Y k = flat_settle k f (flat_act (format n B T) f.numbers f.blocks)

    go : (k : ℕ) → accepted (Y k).0 ≡ true → (Y k).1.numbers.new ≢ 0 → (Y k).1.numbers.moves ≡ sum
    go zero v = λ q. absurd (q refl)
    go (suc k) v = absurd (let w : ◌≡◌ {A = ℕ} 0 1 = cc in omega arith)

pub on_bytes : Demand3On as_bytes
unfolding Claims
on_bytes a f sum n B T img room u es =
    let e : Event = opening n B T img room in
    let s : Alike e a (flat_step (fed e) f) = opens n B T img room a f u in
    let after : ℕ = tally e.call (leaves as_bytes e a).answer sum in
    let c : Counted (flat_step (fed e) f).1 after = counted-format n B T img room a f after u s in
    λ l. (
      claim e a f after s c (λ k i S q v lS. absurd (let w : ◌≡◌ {A = ℕ} 0 1 = cc in omega arith)),
      claims es (next as_bytes e a) (flat_step (fed e) f).1 after (holds-next e a (flat_step (fed e) f) s) c,
    )
