-- What an accepted call does, whatever bytes it is lent: `acts`. Assumes nothing.
use Prim.Native.Nat.{ℕ, suc, ◌+◌, ◌-◌, ◌*◌, ◌≤◌, ◌<◌, min}
use mathlib.Core.Path.{◌≡◌, refl, sym, ap, ◌∙◌, subst}
use mathlib.Core.Bool.{Bool, true, false}
use mathlib.Core.Logic.{◌≢◌}
use mathlib.Core.List.{List, [], ◌++◌}
use native.Mathlib.Nat.{zero-mul}
use native.Mathlib.Omega.{arith}
use lib.ListN.{length, get_or, length-replicate}
use lib.Seq.{ext_get_or}
use borrow.Author.Tests.{eq-eqb, ne_eqb}
use Rattle.layout.specs.Layout.{total_of, capacity, layout}
use Rattle.blocks.specs.Block.{store, zeros}
use Rattle.blocks.specs.Stripe.{place}
use Rattle.blocks.specs.Xor.{xor_b}
use Rattle.blocks.proofs.Laws.Block.{store-whole}
use Rattle.blocks.proofs.Laws.Grid.{Grid, store_at-same}
use Rattle.blocks.proofs.Laws.Rows.{rest, put_same}
use Rattle.blocks.proofs.Laws.Stripe.{cell, length-place, get_or-place, length-others, get_or-others}
use Rattle.blocks.proofs.Laws.Xor.{get_or-zeros}
use Rattle.state.specs.declared.types.Health.TheVariants.{Whole, Out, Lost, Rebuilding}
use Rattle.state.specs.declared.types.Health.{Health}
use Rattle.state.specs.declared.types.Record.{Record}
use Rattle.state.specs.Good.{geometry, GoodRecord}
use Rattle.state.specs.Update.{formatted, grown_by, with_moves, with_health}
use Rattle.state.proofs.Laws.Good.{rebuilding-lt}
use Rattle.calls.specs.Call.{Call, format, read, view, write, grow, advance, out, begin, continue, status, locate, owner, sweep}
use Rattle.calls.specs.Call.{Event, Answer, done, bytes, made}
use Rattle.calls.specs.Health.{absent, after_out, rebuilt_to}
use Rattle.calls.specs.Images.{disks_of, size, size_with, place_in, others_in, seen, Store, stored, recorded, zero_disks}
use Rattle.calls.specs.Table.{idle, refusal}
use Rattle.calls.specs.Effect.{place_of, parity_of, scratch_left, move_stores, advance_stores, effect, answer_of, record_left, room_left}
use Rattle.calls.specs.Alone.{moved_on}
use Rattle.calls.specs.Acts.{Acts, OnlyDone, format-done, write_done, grow-done, out-done, begin-done}
use Rattle.calls.proofs.Laws.Column.{Mask, store_if}
use Rattle.calls.proofs.Laws.Stores.{length-stored, cell-stored, stored-append, stored_last, recorded-last, column-zero}
use Rattle.calls.proofs.Laws.Holding.{cell_in}
use Rattle.calls.proofs.Laws.Read.{viewed-is}
use Rattle.calls.proofs.Laws.Write.{parity-is, parity-apart, lS, ld, lp, length-w, cell-write}
use Rattle.calls.proofs.Laws.Passed.{Reaches}
use Rattle.calls.proofs.Laws.Kept.{store_if-other}
use Rattle.calls.proofs.Laws.Table.{some-new}
use Rattle.calls.proofs.Laws.Moved.{moved}
use Rattle.calls.proofs.Laws.Advance.{Carried, carried, idle-none}
use Rattle.calls.proofs.Laws.Runs as runs
use Rattle.calls.proofs.Laws.Kinds.{Passed, bounds, formatting, writing, growing, moving, continuing}
use Rattle.calls.proofs.Laws.Kinds.{zeroed, within-grow, facts}
use Rattle.calls.proofs.Laws.Unsound.{answers-first, answers-none}
use Rattle.calls.proofs.Laws.Rebuild as rebuild
use Rattle.calls.proofs.Alone.{left, long_of}

-- a place is what it is byte by byte
place_is : (N B T : ℕ) (J : List ℕ) → length J ≡ N * (T * B) → (S d : ℕ) → S < T → d < N → (v : List ℕ) → length v ≡ B
    → ((j : ℕ) → j < B → cell B T J j S d ≡ get_or v j 0) → place B T J S d ≡ v
place_is N B T J long S d lS ld v lv same =
    let full : length (place B T J S d) ≡ B = length-place B T J S d N lS ld (rw long (omega arith)) in
    ext_get_or 0 (place B T J S d) v (full ∙ sym lv) (λ j l. let lj : j < B = rw full at l in get_or-place B T J S d j lj ∙ same j lj)

-- a store that is not skipped
store_if-same : (a : Mask) (I : Grid) (S d v : ℕ) → a S d ≡ false → store_if a I S d v S d ≡ v
store_if-same a I S d v u = rw u (store_at-same I S d v)

module _ (r : Record) (e : Event) where
  abbrev img : List ℕ
  img = e.images

  -- the record that call c leaves
  abbrev kept : Call → Record
  kept c = record_left (effect c r e) r

  -- ---- what is seen of a place

  seen_in : (S d : ℕ) → absent r.health S d ≡ false → seen r img S d ≡ place_in r img S d
  unfolding seen
  seen_in S d u = rw u refl

  seen_out : (S d : ℕ) → absent r.health S d ≡ true → seen r img S d ≡ others_in r img S d
  unfolding seen
  seen_out S d u = rw u refl

  -- ---- format

  format_images : (n B T : ℕ) → Passed r e (format n B T) → left r e (format n B T) ≡ zeros (n * (T * B))
  unfolding effect
  format_images n B T z =
      let long : length img ≡ n * (T * B) = (formatting r e n B T z).long in
      stored_last B T (zero_disks B T 0 n) (formatted n B T) img ∙ runs.zeroed B T 0 img n
      ∙ ap (λ (at : ℕ). store img at (zeros (n * (T * B)))) (zero-mul (T * B))
      ∙ store-whole img (zeros (n * (T * B))) (length-replicate {A = ℕ} (n * (T * B)) 0 ∙ sym long)

  format_record : (n B T : ℕ) → kept (format n B T) ≡ formatted n B T
  unfolding effect
  format_record n B T = recorded-last (zero_disks B T 0 n) (formatted n B T) r

  -- ---- view

  view_answer : (b : ℕ) → answer_of (effect (view b) r e) ≡ bytes (seen r img (place_of r b).stripe (place_of r b).disk)
  unfolding effect
  view_answer b = ap bytes (viewed-is r img e.room b)

  view_scratch : (b : ℕ) → absent r.health (place_of r b).stripe (place_of r b).disk ≡ true
      → room_left (effect (view b) r e) e.room ≡ others_in r img (place_of r b).stripe (place_of r b).disk
  unfolding effect scratch_left
  view_scratch b u = rw u refl

  -- ---- write

  module _ (b : ℕ) (v : List ℕ) (z : Passed r e (write b v)) where
    abbrev Sb : ℕ
    Sb = (place_of r b).stripe

    abbrev db : ℕ
    db = (place_of r b).disk

    abbrev pb : ℕ
    pb = (parity_of r b).disk

    abbrev a : Mask
    a = absent r.health

    -- the new parity
    abbrev w : List ℕ
    w = xor_b (xor_b (seen r img Sb pb) (seen r img Sb db)) v

    t : Reaches r (capacity (geometry r)) (length img) b (length v)
    t = writing r e b v z

    g : GoodRecord r
    g = bounds r e (write b v) refl z

    in-stripes : Sb < r.stripes
    in-stripes = lS (geometry r) g.array b t.block-lt

    apart : pb ≢ db
    apart = parity-apart (geometry r) g.array b t.block-lt

    -- a place of the stripe, from the two stores
    by-cells : (d : ℕ) → d < disks_of r → (u : List ℕ) → length u ≡ r.block
        → ((I : Grid) (x y j : ℕ) → x ≡ get_or w j 0 → y ≡ get_or v j 0 → store_if a (store_if a I Sb pb x) Sb db y Sb d ≡ get_or u j 0)
        → place_in r (left r e (write b v)) Sb d ≡ u
    unfolding effect
    by-cells d l u lu is =
        let long : length (left r e (write b v)) ≡ size r = long_of r e (write b v) ∙ t.long in
        place_is (disks_of r) r.block r.stripes (left r e (write b v)) long Sb d in-stripes l u lu
        (λ j lj.
        cell-write r img g t.long b t.block-lt v t.whole j lj Sb d in-stripes
        ∙ is (cell_in r img j) _ _ j refl refl)

    write_data : absent r.health Sb db ≡ false → place_in r (left r e (write b v)) Sb db ≡ v
    write_data u =
        by-cells db (ld (geometry r) g.array b t.block-lt) v t.whole
        (λ I x y j p q. store_if-same a (store_if a I Sb pb x) Sb db y u ∙ q)

    parity-stored : absent r.health Sb pb ≡ false → place_in r (left r e (write b v)) Sb pb ≡ w
    parity-stored u =
        let long-w : length w ≡ r.block = length-w r img g t.long b t.block-lt v t.whole in
        by-cells pb (lp (geometry r) g.array b t.block-lt) w long-w
        (λ I x y j p q. store_if-other a (store_if a I Sb pb x) Sb db y Sb pb (λ s. apart) ∙ store_if-same a I Sb pb x u ∙ p)

    write_parity : let p = (layout (geometry r)).parity Sb in
        absent r.health Sb p ≡ false → place_in r (left r e (write b v)) Sb p ≡ xor_b (xor_b (seen r img Sb p) (seen r img Sb db)) v
    write_parity =
        subst (λ p. absent r.health Sb p ≡ false → place_in r (left r e (write b v)) Sb p ≡ xor_b (xor_b (seen r img Sb p) (seen r img Sb db)) v)
        (parity-is (geometry r) g.array b t.block-lt) parity-stored

  -- ---- grow

  grow_new : (m : ℕ) → Passed r e (grow m) → (S d : ℕ) → S < r.stripes → r.old ≤ d → d < r.old + m
      → place_in r (left r e (grow m)) S d ≡ zeros r.block
  unfolding effect
  grow_new m z S d l lo hi =
      let long : length img ≡ size_with r m = (growing r e m z).long in
      let J : List ℕ = stored r.block r.stripes (zeroed r e m) img in
      let long' : length J ≡ size_with r m = length-stored r.block r.stripes (zeroed r e m) img ∙ long in
      rw (stored_last r.block r.stripes (zeroed r e m) (grown_by r m) img)
      (place_is (r.old + m) r.block r.stripes J long' S d l hi (zeros r.block) (length-replicate {A = ℕ} r.block 0)
      (λ j lj.
      cell-stored r.block r.stripes (r.old + m) (zeroed r e m) img (within-grow r e m) long j S d lj l
      ∙ column-zero r.block r.stripes r.old j m (cell_in r img j) S d l lo hi ∙ sym (get_or-zeros r.block j)))

  grow_record : (m : ℕ) → Passed r e (grow m) → kept (grow m) ≡ with_health (grown_by r m) Whole
  unfolding effect
  grow_record m z =
      recorded-last (zeroed r e m) (grown_by r m) r
      ∙ ap {B = Record} (λ (h : Health). with_health (grown_by r m) h) (growing r e m z).all_in

  -- ---- advance

  abbrev risen : ℕ → ℕ
  risen k = min k (total_of (geometry r) - r.moves)

  advance_record : (k : ℕ) → Passed r e (advance k) → recorded (advance_stores k r img) r ≡ with_moves r (r.moves + risen k)
  advance_record k z =
      let t = moving r e k z in
      let c : Carried (λ x J. Unit) k r (advance_stores k r img) img =
      carried (λ x J. Unit) (λ x J g q p. tt) k r img (bounds r e (advance k) refl z).array (some-new (geometry r) t.busy) tt in
      c.state

  advance_answer : (k : ℕ) → Passed r e (advance k) → answer_of (effect (advance k) r e) ≡ made (risen k)
  unfolding effect
  advance_answer k z =
      ap (λ (x : Record). made (x.moves - r.moves)) (advance_record k z)
      ∙ ap made (let q : r.moves + risen k - r.moves ≡ risen k = omega arith in q)

  -- the first move, and then the others on what it leaves
  first : (k : ℕ) → idle (geometry r) ≡ false → advance_stores (suc k) r img ≡ move_stores r img ++ advance_stores k (moved r) (moved_on r img)
  unfolding advance_stores recorded move_stores
  first k q =
      let ps : List Store = move_stores r img ++ advance_stores k (moved r) (moved_on r img) in
      subst (λ (b : Bool). ◌≡◌ {A = List Store} (elim b as (λ y. List Store) [ true ↦ [] | false ↦ ps ]) ps) (sym q) refl

  advance-from : (k : ℕ) → Passed r e (advance (suc k))
      → left r e (advance (suc k)) ≡ stored r.block r.stripes (advance_stores k (moved r) (moved_on r img)) (moved_on r img)
  unfolding effect
  advance-from k z =
      ap (λ (ps : List Store). stored r.block r.stripes ps img) (first k (moving r e (suc k) z).busy)
      ∙ stored-append r.block r.stripes (move_stores r img) (advance_stores k (moved r) (moved_on r img)) img

  advance_last : (k : ℕ) → Passed r e (advance (suc k)) → idle (geometry (moved r)) ≡ true → left r e (advance (suc k)) ≡ moved_on r img
  unfolding stored
  advance_last k z q =
      advance-from k z
      ∙ ap (λ (ps : List Store). stored r.block r.stripes ps (moved_on r img)) (idle-none k (moved r) (moved_on r img) q)

  advance_none : left r e (advance 0) ≡ img
  unfolding effect advance_stores stored
  advance_none = refl

  -- ---- out

  out-record : (d : ℕ) (h h' : Health) → r.health ≡ h → after_out h d ≡ h' → kept (out d) ≡ with_health r h'
  unfolding effect recorded
  out-record d h h' q p = ap {B = Record} (λ (x : Health). with_health r x) (ap (λ (x : Health). after_out x d) q ∙ p)

  -- ---- begin and continue

  begin_record : (d : ℕ) → kept (begin d) ≡ with_health r (Rebuilding d 0)
  unfolding effect recorded
  begin_record d = refl

  module _ (k o c : ℕ) (h : r.health ≡ Rebuilding o c) (z : Passed r e (continue k)) where
    in-it : GoodRecord r
    in-it = bounds r e (continue k) refl z

    long : length img ≡ size r
    long = (continuing r e k z).long

    continue_disk : (S : ℕ) → c ≤ S → S < r.stripes → S < c + k → place_in r (left r e (continue k)) S o ≡ others_in r img S o
    unfolding effect
    continue_disk S lo l hi =
        rw (rebuild.images-are r img o c h k)
        (place_is (disks_of r) r.block r.stripes (rebuild.left r img o c h k) (rebuild.long-left r img o c h k in-it long) S o l
        (rebuilding-lt r o c in-it h).0 (others_in r img S o) (length-others r.block r.stripes img S (disks_of r) o)
        (λ j lj.
        rebuild.cell-remade r img o c h k in-it long j S o lj l lo (omega arith)
        ∙ put_same (cell_in r img j S) o (rest (disks_of r) o (cell_in r img j S)) ∙ sym (get_or-others r.block r.stripes img S (disks_of r) o j lj)))

    continue-record : kept (continue k) ≡ with_health r (rebuilt_to r.stripes o (c + min k (r.stripes - c)))
    unfolding effect
    continue-record = rebuild.record_is r img o c h k

    -- k more are done, or all
    continue_part : c + k < r.stripes → kept (continue k) ≡ with_health r (Rebuilding o (c + k))
    continue_part l =
        continue-record
        ∙ ap {B = Record} (λ (x : ℕ). with_health r (rebuilt_to r.stripes o (c + x))) (let q : min k (r.stripes - c) ≡ k = omega arith in q)
        ∙ ap {B = Record} (λ (x : Health). with_health r x) (rebuild.come-to r.stripes o (c + k) l)

    continue_end : r.stripes ≤ c + k → kept (continue k) ≡ with_health r Whole
    continue_end l =
        continue-record
        ∙ ap {B = Record} (λ (x : Health). with_health r x)
        (rebuild.come-to-end r.stripes o (c + min k (r.stripes - c)) (omega (arith, (rebuilding-lt r o c in-it h).1)))

  -- ---- calls that have nothing to tell

  only_done : {c : Call} → OnlyDone c → answer_of (effect c r e) ≡ done
  unfolding effect
  only_done (format-done n B T) = refl
  only_done (write_done b v) = refl
  only_done (grow-done m) = refl
  only_done (out-done d) = refl
  only_done (begin-done d) = refl

-- ---- every call

pub acts : Acts
unfolding refusal effect
acts e r z =
    record {
      seen_in = seen_in r e;
      seen_out = seen_out r e;
      place_is = λ b. refl;
      format_images = λ n B T q. of-images (format n B T) (zeros (n * (T * B))) q (format_images r e n B T);
      format_record = λ n B T q. of_record (format n B T) (formatted n B T) q (λ x. format_record r e n B T);
      read_block = λ b q. of_room (read b) _ q refl;
      read_answer = λ b q. of-answer (read b) _ q (λ x. refl);
      view_answer = λ b q. of-answer (view b) _ q (λ x. view_answer r e b);
      view_scratch = λ b q u. of_room (view b) _ q (view_scratch r e b u);
      write_data = λ b v q u. of-place _ _ (write b v) v q (λ x. write_data r e b v x u);
      write_parity = λ b v q u. of-place _ _ (write b v) _ q (λ x. write_parity r e b v x u);
      grow_new = λ m q S d l lo hi. of-place S d (grow m) (zeros r.block) q (λ x. grow_new r e m x S d l lo hi);
      grow_record = λ m q. of_record (grow m) _ q (grow_record r e m);
      advance_answer = λ k q. of-answer (advance k) _ q (advance_answer r e k);
      advance_record = λ k q. of_record (advance k) _ q (advance_record r e k);
      advance_none = λ q. of-images (advance 0) e.images q (λ x. advance_none r e);
      advance_next = λ k q i. of-images (advance (suc k)) _ q (advance-from r e k);
      advance_last = λ k q i. of-images (advance (suc k)) _ q (λ x. advance_last r e k x i);
      out_first = λ d q h. of_record (out d) _ q (λ x. out-record r e d Whole (Out d) h refl);
      out_second = λ d o q h. of_record (out d) _ q (λ x. out-record r e d (Out o) Lost h refl);
      out_other = λ d o c q h ne. of_record (out d) _ q (λ x. out-record r e d (Rebuilding o c) Lost h (rw (ne_eqb d o ne) refl));
      out_again = λ o c q h. of_record (out o) _ q (λ x. out-record r e o (Rebuilding o c) (Out o) h (rw (eq-eqb o o refl) refl));
      begin_record = λ d q. of_record (begin d) _ q (λ x. begin_record r e d);
      continue_answer = λ k o c q h. of-answer (continue k) _ q (λ x. rw h refl);
      continue_disk = λ k o c q h S lo l hi. of-place S o (continue k) _ q (λ x. continue_disk r e k o c h x S lo l hi);
      continue_part = λ k o c q h l. of_record (continue k) _ q (λ x. continue_part r e k o c h x l);
      continue_end = λ k o c q h l. of_record (continue k) _ q (λ x. continue_end r e k o c h x l);
      sweep_first = λ S q l no f. of-answer sweep _ q (λ x. answers-first r e.images S l no f);
      sweep_none = λ q f. of-answer sweep _ q (λ x. answers-none r e.images f);
      status_answer = λ q. of-answer status _ q (λ x. refl);
      locate_answer = λ b q. of-answer (locate b) _ q (λ x. refl);
      owner_answer = λ S d q. of-answer (owner S d) _ q (λ x. refl);
      only_done = only_done r e;
      record_stays = (facts r e e.call).state z;
    }
  where
    -- what holds of the call that this is
    of-images : (c : Call) (v : List ℕ) → e.call ≡ c → (Passed r e c → left r e c ≡ v) → left r e e.call ≡ v
    of-images c v q f = subst (λ (x : Call). Passed r e x → left r e x ≡ v) (sym q) f z

    of-place : (S d : ℕ) (c : Call) (v : List ℕ) → e.call ≡ c → (Passed r e c → place_in r (left r e c) S d ≡ v)
        → place_in r (left r e e.call) S d ≡ v
    of-place S d c v q f = subst (λ (x : Call). Passed r e x → place_in r (left r e x) S d ≡ v) (sym q) f z

    of_record : (c : Call) (y : Record) → e.call ≡ c → (Passed r e c → kept r e c ≡ y) → kept r e e.call ≡ y
    of_record c y q f = subst (λ (x : Call). Passed r e x → kept r e x ≡ y) (sym q) f z

    of_room : (c : Call) (v : List ℕ) → e.call ≡ c → room_left (effect c r e) e.room ≡ v → room_left (effect e.call r e) e.room ≡ v
    of_room c v q f = subst (λ (x : Call). room_left (effect x r e) e.room ≡ v) (sym q) f

    of-answer : (c : Call) (y : Answer) → e.call ≡ c → (Passed r e c → answer_of (effect c r e) ≡ y) → answer_of (effect e.call r e) ≡ y
    of-answer c y q f = subst (λ (x : Call). Passed r e x → answer_of (effect x r e) ≡ y) (sym q) f z
