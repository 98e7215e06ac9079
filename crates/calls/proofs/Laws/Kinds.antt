-- What holds of a call by what it does: it tells, it fills, or it stores. One function by cases on the call, `facts`; what else is said of
-- every call is read off it. Assumes nothing.
use Prim.Native.Nat.{ℕ, ◌+◌}
use mathlib.Core.Path.{◌≡◌, refl, sym, ◌∙◌}
use mathlib.Core.Bool.{Bool, true, false, cond}
use mathlib.Core.List.{List, [], ◌∷◌, ◌++◌}
use native.Mathlib.Omega.{arith}
use lib.ListN.{length}
use Rattle.layout.specs.Layout.{capacity}
use Rattle.layout.proofs.Laws.Layout.{lawful}
use Rattle.blocks.proofs.Laws.Stripe.{length-others}
use Rattle.state.specs.declared.types.Record.{Record}
use Rattle.state.specs.Good.{geometry, GoodRecord}
use Rattle.calls.specs.Call.{Call, format, read, view, write, grow, advance, out, begin, continue, status, locate, owner, sweep}
use Rattle.calls.specs.Call.{Event, Fed, feed, Answer, accepted, number, done}
use Rattle.state.specs.Update.{formatted, grown_by}
use Rattle.calls.specs.Health.{absent}
use Rattle.calls.specs.Images.{disks_of, others_in, Store, header, stored, stored_in, recorded, zero_disks}
use Rattle.calls.specs.Sound.{unsound_stripes}
use Rattle.calls.specs.Table.{looks, refusal_of}
use Rattle.calls.specs.Effect.{place_of, scratch_left, write_stores, advance_stores, continue_stores, swept_to, Effect, tells, fills, stores, effect, answer_of, record_left, images_left, room_left}
use Rattle.calls.specs.Alone.{Inside, StoresInside, FillsRoom, read-fills, view-fills}
use Rattle.calls.specs.Alone.{StoresBlocks, format_stores, write-stores, grow_stores, advance-stores, continue-stores}
use Rattle.calls.specs.Acts.{StoresRecord, format-records, grow-records, advance-records, out-records, begin-records, continue-records}
use Rattle.calls.proofs.Laws.Stores.{Within, length-stored, within-append, within-zero}
use Rattle.calls.proofs.Laws.Acting.{zero-done}
use Rattle.calls.proofs.Laws.Holding.{length_seen}
use Rattle.calls.proofs.Laws.Write.{within-write, recorded-write}
use Rattle.calls.proofs.Laws.Passed as passed
use Rattle.calls.proofs.Laws.Passed.{Formats, Reaches, Grows, Moves, Continues, in-limits}
use Rattle.calls.proofs.Laws.Kept.{inside-within, within-advance}
use Rattle.calls.proofs.Laws.Rebuild.{within-remade, stores-are}

-- a sweep answers, whatever it finds
swept-accepted : (T : ℕ) (l : List ℕ) → accepted (swept_to T l) ≡ true
swept-accepted T [] = refl
swept-accepted T (S ∷ more) = refl

-- a record stored after blocks
within-last : (N B T : ℕ) (ps : List Store) (x : Record) → Within N B T ps → Within N B T (ps ++ header x ∷ [])
unfolding Within
within-last N B T ps x w = within-append N B T ps (header x ∷ []) w tt

module _ (r : Record) (e : Event) where
  abbrev img : List ℕ
  img = e.images

  abbrev cap : ℕ
  cap = capacity (geometry r)

  -- call c, with the lengths that e is lent
  abbrev asked : Call → Fed
  asked c = feed c (length e.images) (length e.room)

  -- ---- what a call has passed that the table lets through

  abbrev pub Passed : Call → Type 0
  Passed c = refusal_of r (feed c (length e.images) (length e.room)) ≡ 0

  pub bounds : (c : Call) → looks c ≡ true → Passed c → GoodRecord r
  bounds c l z = in-limits r cap (asked c) l z

  pub formatting : (n B T : ℕ) → Passed (format n B T) → Formats n B T (length img)
  formatting n B T z = passed.formats r cap (length img) (length e.room) n B T (passed.passed r cap (asked (format n B T)) z)

  pub reading : (b : ℕ) → Passed (read b) → Reaches r cap (length img) b (length e.room)
  reading b z = passed.reads r cap (length img) (length e.room) b (passed.passed r cap (asked (read b)) z)

  pub viewing : (b : ℕ) → Passed (view b) → Reaches r cap (length img) b (length e.room)
  viewing b z = passed.views r cap (length img) (length e.room) b (passed.passed r cap (asked (view b)) z)

  pub writing : (b : ℕ) (v : List ℕ) → Passed (write b v) → Reaches r cap (length img) b (length v)
  writing b v z = passed.writes r cap (length img) (length e.room) b v (passed.passed r cap (asked (write b v)) z)

  pub growing : (m : ℕ) → Passed (grow m) → Grows r (length img) m
  growing m z = passed.grows r cap (length img) (length e.room) m (passed.passed r cap (asked (grow m)) z)

  pub moving : (k : ℕ) → Passed (advance k) → Moves r (length img)
  moving k z = passed.moves r cap (length img) (length e.room) k (passed.passed r cap (asked (advance k)) z)

  pub continuing : (k : ℕ) → Passed (continue k) → Continues r (length img)
  continuing k z = passed.continues r cap (length img) (length e.room) k (passed.passed r cap (asked (continue k)) z)

  -- ---- the stores of each call that makes any

  abbrev pub zeroed : ℕ → List Store
  zeroed m = zero_disks r.block r.stripes r.old m

  pub within-grow : (m : ℕ) → Within (r.old + m) r.block r.stripes (zeroed m)
  within-grow m = within-zero r.block r.stripes r.old (r.old + m) m (omega arith)

  format-inside : (n B T : ℕ) → Passed (format n B T) → Inside (length img) B T (zero_disks B T 0 n ++ header (formatted n B T) ∷ [])
  format-inside n B T z =
      inside-within n B T (length img) (formatting n B T z).long (zero_disks B T 0 n ++ header (formatted n B T) ∷ [])
      (within-last n B T (zero_disks B T 0 n) (formatted n B T) (within-zero B T 0 n n (omega arith)))

  write-inside : (b : ℕ) (v : List ℕ) → Passed (write b v) → Inside (length img) r.block r.stripes (write_stores r img b v)
  write-inside b v z =
      let w = writing b v z in
      inside-within (disks_of r) r.block r.stripes (length img) w.long (write_stores r img b v)
      (within-write r img (bounds (write b v) refl z) w.long b w.block-lt v w.whole)

  write-state : (b : ℕ) (v : List ℕ) → Passed (write b v) → recorded (write_stores r img b v) r ≡ r
  write-state b v z = let w = writing b v z in recorded-write r img (bounds (write b v) refl z) w.long b w.block-lt v w.whole

  grow-inside : (m : ℕ) → Passed (grow m) → Inside (length img) r.block r.stripes (zeroed m ++ header (grown_by r m) ∷ [])
  grow-inside m z =
      inside-within (r.old + m) r.block r.stripes (length img) (growing m z).long (zeroed m ++ header (grown_by r m) ∷ [])
      (within-last (r.old + m) r.block r.stripes (zeroed m) (grown_by r m) (within-grow m))

  advance-inside : (k : ℕ) → Passed (advance k) → Inside (length img) r.block r.stripes (advance_stores k r img)
  advance-inside k z =
      let w = moving k z in
      inside-within (disks_of r) r.block r.stripes (length img) w.long (advance_stores k r img)
      (within-advance k r img (bounds (advance k) refl z).array w.long)

  continue-inside : (k : ℕ) → Passed (continue k) → Inside (length img) r.block r.stripes (continue_stores k r img)
  continue-inside k z =
      let w = continuing k z in
      let l = bounds (continue k) refl z in
      inside-within (disks_of r) r.block r.stripes (length img) w.long (continue_stores k r img)
      (rw (stores-are r img w.disk w.done w.health k)
      (within-last (disks_of r) r.block r.stripes _ _ (within-remade r img w.disk w.done w.health k l)))

  -- ---- the block or scratch of each call that fills it is as long as it was

  read-long : (b : ℕ) → Passed (read b) → length (room_left (effect (read b) r e) e.room) ≡ length e.room
  unfolding effect
  read-long b z =
      let w = reading b z in
      let l = lawful (geometry r) (bounds (read b) refl z).array in
      length_seen r img (place_of r b).stripe (place_of r b).disk w.long (l.stripe_lt b w.block-lt) (l.disk_lt b w.block-lt) ∙ sym w.whole

  scratch-long : (b : ℕ) → length e.room ≡ r.block → length (scratch_left r img b e.room) ≡ length e.room
  unfolding scratch_left
  scratch-long b q = go (absent r.health (place_of r b).stripe (place_of r b).disk)
    where
      go : (a : Bool) → length (cond a (others_in r img (place_of r b).stripe (place_of r b).disk) e.room) ≡ length e.room
      go true = length-others r.block r.stripes img (place_of r b).stripe (disks_of r) (place_of r b).disk ∙ sym q
      go false = refl

  -- ---- what a call that does x leaves alone

  pub record Facts (c : Call) (x : Effect) : Type 0 where
    pub accepts : accepted (answer_of x) ≡ true
    pub inside : Passed c → StoresInside (length img) x
    pub long : length (images_left x img) ≡ length img
    pub room_long : Passed c → length (room_left x e.room) ≡ length e.room
    pub room : ¬ FillsRoom c → room_left x e.room ≡ e.room
    pub images : ¬ StoresBlocks c → images_left x img ≡ img
    pub state : Passed c → ¬ StoresRecord c → record_left x r ≡ r

  telling : (c : Call) (a : Answer) → accepted a ≡ true → Facts c (tells a)
  telling c a ok =
      record {
        accepts = ok;
        inside = λ z. tt;
        long = refl;
        room_long = λ z. refl;
        room = λ no. refl;
        images = λ no. refl;
        state = λ z no. refl;
      }

  filling : (c : Call) (v w : List ℕ) → FillsRoom c → (Passed c → length w ≡ length e.room) → Facts c (fills v w)
  filling c v w is lw =
      record {
        accepts = refl;
        inside = λ z. tt;
        long = refl;
        room_long = lw;
        room = λ no. absurd (no is);
        images = λ no. refl;
        state = λ z no. refl;
      }

  storing : (c : Call) (a : Answer) (x : Record) (ps : List Store) → accepted a ≡ true → (Passed c → Inside (length img) x.block x.stripes ps)
      → (¬ StoresBlocks c → stored_in x ps img ≡ img) → (Passed c → ¬ StoresRecord c → recorded ps r ≡ r) → Facts c (stores a x ps)
  storing c a x ps ok in-it blocks records =
      record {
        accepts = ok;
        inside = in-it;
        long = length-stored x.block x.stripes ps img;
        room_long = λ z. refl;
        room = λ no. refl;
        images = blocks;
        state = records;
      }

  pub facts : (c : Call) → Facts c (effect c r e)
  unfolding effect Inside stored
  facts (format n B T) =
      storing (format n B T) done (formatted n B T) _ refl (format-inside n B T)
      (λ no. absurd (no (format_stores n B T))) (λ z no. absurd (no (format-records n B T)))
  facts (read b) = filling (read b) _ _ (read-fills b) (read-long b)
  facts (view b) = filling (view b) _ _ (view-fills b) (λ z. scratch-long b (viewing b z).whole)
  facts (write b v) = storing (write b v) done r _ refl (write-inside b v) (λ no. absurd (no (write-stores b v))) (λ z no. write-state b v z)
  facts (grow m) = storing (grow m) done r _ refl (grow-inside m) (λ no. absurd (no (grow_stores m))) (λ z no. absurd (no (grow-records m)))
  facts (advance k) = storing (advance k) _ r _ refl (advance-inside k) (λ no. absurd (no (advance-stores k))) (λ z no. absurd (no (advance-records k)))
  facts (out d) = storing (out d) done r _ refl (λ z. tt) (λ no. refl) (λ z no. absurd (no (out-records d)))
  facts (begin d) = storing (begin d) done r _ refl (λ z. tt) (λ no. refl) (λ z no. absurd (no (begin-records d)))
  facts (continue k) =
      storing (continue k) _ r _ refl (continue-inside k) (λ no. absurd (no (continue-stores k))) (λ z no. absurd (no (continue-records k)))
  facts status = telling status _ refl
  facts (locate b) = telling (locate b) _ refl
  facts (owner S d) = telling (owner S d) _ refl
  facts sweep = telling sweep _ (swept-accepted r.stripes (unsound_stripes r e.images))

-- "0 is done"
pub numbered : (r : Record) (e : Event) (c : Call) → number (answer_of (effect c r e)) ≡ 0
numbered r e c = zero-done (answer_of (effect c r e)) (facts r e c).accepts
