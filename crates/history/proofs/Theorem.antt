-- Demand 3, proved: `demand3`, `handed-on`, `may-be-lent`, `flat_list`, `always-fair`, `nothing-found`, `last-given`, `zero-at-first` and
-- `second_out`. Assumes nothing.
use Prim.Native.Nat.{ℕ, zero, suc}
use mathlib.Core.Path.{◌≡◌, refl, sym, ap, ◌∙◌, subst}
use mathlib.Core.List.{List, [], ◌∷◌, map}
use mathlib.Core.Bool.{Bool, true, false, true≢false}
use mathlib.Core.Logic.{◌≢◌}
use native.Mathlib.Omega.{arith}
use lib.ListN.{length}
use Rattle.blocks.specs.Block.{zeros}
use Rattle.state.specs.declared.types.Health.TheVariants.{Lost}
use Rattle.state.specs.declared.types.Record.{Record}
use Rattle.state.specs.Good.{good}
use Rattle.state.proofs.Laws.Bytes.{decode-encode}
use Rattle.calls.specs.Call.{Call, format, write, out, sweep, Event, Fed, feed, fed, Answer, all_sound, accepted}
use Rattle.calls.specs.Images.{size}
use Rattle.calls.specs.Table.{looks, Takes, nothing, anything, those, terms, refusal}
use Rattle.calls.proofs.Laws.OnBytes.{good-encode}
use Rattle.history.specs.Flat.{Flat, fallen, flat_act, flat_settle, flat_step}
use Rattle.history.specs.Lent.{Form, as_bytes, as_record, Cabinet, takes, leaves, images_after, next}
use Rattle.history.specs.Theorem.{tally, Claim, Claims, opening, Demand3On, Demand3, HandsOn, HandedOn, MayBeLent, Fair, outcomes, flat_outcomes, FlatListOn, FlatList, LentAsLeft, AlwaysFairOn, AlwaysFair, FindsNothing, NothingFoundOn, NothingFound, LastGiven, ZeroAtFirst, NoReads, SecondOut}
use Rattle.history.proofs.Laws.Claim.{on_bytes}
use Rattle.history.proofs.Laws.Records.{on-records}
use Rattle.history.proofs.Laws.Lending.{free-to-lend}
use Rattle.history.proofs.Laws.Run.{accepts, Run, ended, goes, RunsOn, run}
use Rattle.history.proofs.Laws.Last.{gives, is-written, is_zero}
use Rattle.history.proofs.Laws.Lost.{lost-then, second-lost, other-lost, lost-reads}

pub demand3 : Demand3
demand3 = (on_bytes, on-records on_bytes)

-- ---- what is handed on

images_on : (b : Bool) (t : Takes) (before left : List ℕ) → b ≡ true → t ≢ nothing → images_after b t before left ≡ left
images_on true nothing before left u ne = absurd (ne refl)
images_on true (anything len) before left u ne = refl
images_on true (those len) before left u ne = refl
images_on false t before left u ne = absurd (true≢false (sym u))

none_taken : (b : Bool) (t : Takes) (before left : List ℕ) → t ≡ nothing → images_after b t before left ≡ before
none_taken false t before left q = refl
none_taken true t before left q = rw q refl

hands_on : {R : Type 0} (x : Form R) → HandsOn x
unfolding next
hands_on x =
    record {
      record_on = λ e a. refl;
      images_on = λ e a. images_on (accepted (leaves x e a).answer) (takes e.call (x.decoded a.rec)) a.img (leaves x e a).images;
      none_taken = λ e a. none_taken (accepted (leaves x e a).answer) (takes e.call (x.decoded a.rec)) a.img (leaves x e a).images;
      refused = λ e a u. ap (λ (b : Bool). images_after b (takes e.call (x.decoded a.rec)) a.img (leaves x e a).images) u;
    }

pub handed-on : HandedOn
unfolding terms
handed-on =
    record {
      on_bytes = λ e a. refl;
      on_record = λ e a. refl;
      as-bytes = λ b r. (refl, refl, refl);
      as-record = λ r. (refl, refl, refl);
      bytes_on = hands_on as_bytes;
      records_on = hands_on as_record;
      of_format = λ r n B T. refl;
      of-grow = λ r m. refl;
      of_others = λ r b k d v. (refl, refl, refl, refl, refl, refl, refl);
      of_none = λ r b S d. (refl, refl, refl, refl);
    }

pub may-be-lent : MayBeLent
may-be-lent = free-to-lend

-- ---- a fair history, call by call

pub run-bytes : RunsOn as_bytes
run-bytes = run as_bytes decode-encode good-encode demand3.0

pub run-records : RunsOn as_record
run-records = run as_record (λ r. refl) (λ r. refl) demand3.1

-- ---- in short

outcome : {R : Type 0} {x x' : Answer} {r r' : R} {l l' : List (Answer × R)} → x ≡ x' → r ≡ r' → l ≡ l' → ◌≡◌ {A = List (Answer × R)} ((x, r) ∷ l) ((x', r') ∷ l')
outcome p q t = λ i. (p i, q i) ∷ t i

same-outcomes : {R : Type 0} (x : Form R) (es : List Event) (a : Cabinet R) (f : Flat) → Run x es a f → outcomes x es a ≡ flat_outcomes x (map fed es) f
unfolding outcomes flat_outcomes
same-outcomes x [] a f ended = refl
same-outcomes x (e ∷ es) a f (goes c k l) = outcome c.answer c.fields (same-outcomes x es (next x e a) (flat_step (fed e) f).1 l)

same-list : {R : Type 0} (x : Form R) → RunsOn x → FlatListOn x
same-list x run a f n B T img room u es l = same-outcomes x (opening n B T img room ∷ es) a f (run a f n B T img room u es l)

pub flat_list : FlatList
flat_list = (same-list as_bytes run-bytes, same-list as_record run-records)

-- ---- what stands may always be lent

module _ {R : Type 0} (x : Form R) (back : (r : Record) → x.decoded (x.encoded r) ≡ r) where
  -- the images that stand are as long as the flat list's numbers say
  stays-long : (e : Event) (a : Cabinet R) (f : Flat) (sum : ℕ) → Claim x e a f sum → length (next x e a).img ≡ size (flat_step (fed e) f).1.numbers
  stays-long e a f sum c = c.long ∙ ap (λ (r : Record). size r) (ap x.decoded c.fields ∙ back (flat_step (fed e) f).1.numbers)

  fair-on : (es : List Event) (a : Cabinet R) (f : Flat) (sum : ℕ) → Claims x es a f sum → length a.img ≡ size f.numbers → LentAsLeft x es a → Fair x es a f
  unfolding Claims LentAsLeft Fair
  fair-on [] a f sum c long l = tt
  fair-on (e ∷ es) a f sum c long l =
      let lends = (may-be-lent e f.numbers a.img).what_stands l.0.0 long l.0.1 in
      let after : ℕ = tally e.call (leaves x e a).answer sum in
      let z = c lends in
      (lends, fair-on es (next x e a) (flat_step (fed e) f).1 after z.1 (stays-long e a f after z.0) l.1)

  all_fair : Demand3On x → AlwaysFairOn x
  unfolding Claims Fair
  all_fair d a f n B T img room u es l =
      let e : Event = opening n B T img room in
      let lends = (may-be-lent e f.numbers a.img).any_format n B T refl in
      let after : ℕ = tally e.call (leaves x e a).answer 0 in
      let z = d a f 0 n B T img room u es lends in
      (lends, fair-on es (next x e a) (flat_step (fed e) f).1 after z.1 (stays-long e a f after z.0) l)

pub always-fair : AlwaysFair
always-fair = (all_fair as_bytes decode-encode demand3.0, all_fair as_record (λ r. refl) demand3.1)

-- ---- a sweep finds nothing

-- on the flat list
flat-finds : (e : Fed) (f : Flat) → e.call ≡ sweep → accepted (flat_step e f).0 ≡ true → (flat_step e f).0 ≡ all_sound f.numbers.stripes
unfolding flat_step flat_act
flat-finds e f q = subst (λ (c : Call). accepted (Y c n).0 ≡ true → (Y c n).0 ≡ all_sound f.numbers.stripes) (sym q) (go n)
  where
    n : ℕ
    n = refusal f.numbers (length f.blocks) e

    Y : Call → ℕ → Answer × Flat
    Y c k = flat_settle k f (flat_act c f.numbers f.blocks)

    go : (k : ℕ) → accepted (Y sweep k).0 ≡ true → (Y sweep k).0 ≡ all_sound f.numbers.stripes
    go zero u = refl
    go (suc k) u = absurd (let w : ◌≡◌ {A = ℕ} 0 1 = cc in omega arith)

finds-on : {R : Type 0} (x : Form R) (es : List Event) (a : Cabinet R) (f : Flat) → Run x es a f → FindsNothing x es a
unfolding FindsNothing
finds-on x [] a f ended = tt
finds-on x (e ∷ es) a f (goes c k l) = (
  λ q u.
      c.answer ∙ flat-finds (fed e) f q (accepts c u)
      ∙ ap (λ (r : Record). all_sound r.stripes) (sym (k (ap looks q)).is),
  finds-on x es (next x e a) (flat_step (fed e) f).1 l,
)

finds-nothing : {R : Type 0} (x : Form R) → RunsOn x → NothingFoundOn x
finds-nothing x run a f n B T img room u es l = finds-on x (opening n B T img room ∷ es) a f (run a f n B T img room u es l)

pub nothing-found : NothingFound
nothing-found = (finds-nothing as_bytes run-bytes, finds-nothing as_record run-records)

-- ---- what a block was last given

pub last-given : LastGiven
last-given f b v len room u es n = gives b v (flat_step (feed (write b v) len room) f).1 es n (is-written f b v len room u)

pub zero-at-first : ZeroAtFirst
zero-at-first f n B T len room u b es ng = gives b (zeros B) (flat_step (feed (format n B T) len room) f).1 es ng (is_zero f n B T len room b u)

-- ---- a second disk out

pub second_out : SecondOut
second_out =
    record {
      while_out = λ f first second len room g h. no_reads f second len room g (second-lost f.numbers.health first second h);
      while_rebuilding = λ f first c second len room g h ne. no_reads f second len room g (other-lost f.numbers.health first c second h ne);
    }
  where
    no_reads : (f : Flat) (second len room : ℕ) → good f.numbers ≡ true → fallen f.numbers.health second ≡ Lost →
        let y = flat_step (feed (out second) len room) f in
        accepted y.0 ≡ true → (es : List Fed) → NoReads es y.1
    no_reads f second len room g q u es =
        lost-reads es (flat_step (feed (out second) len room) f).1 f.numbers g (lost-then f second len room q u)
