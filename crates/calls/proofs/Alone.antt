-- What an accepted call leaves alone: `alone` and `record-only`. Assumes nothing.
use Prim.Native.Nat.{ℕ, zero, suc, ◌+◌, ◌-◌, ◌≤◌, ◌<◌, min}
use mathlib.Core.Path.{◌≡◌, refl, sym, ap, ◌∙◌, subst}
use mathlib.Core.Bool.{true, false}
use mathlib.Core.Logic.{◌⊎◌, ◌≢◌}
use mathlib.Core.List.{List}
use native.Mathlib.Omega.{arith}
use lib.ListN.{length}
use Rattle.layout.specs.Layout.{layout}
use Rattle.blocks.proofs.Laws.Grid.{Grid}
use Rattle.state.specs.declared.types.Health.TheVariants.{Rebuilding}
use Rattle.state.specs.declared.types.Record.{Record}
use Rattle.state.specs.Good.{geometry}
use Rattle.calls.specs.Call.{Call, view, write, grow, continue, status, locate, owner, Event, on, feed, count}
use Rattle.state.specs.Update.{grown_by}
use Rattle.calls.specs.Health.{absent}
use Rattle.calls.specs.Images.{disks_of, size, size_with, place_in, stored_in}
use Rattle.calls.specs.Table.{refusal_of}
use Rattle.calls.specs.Effect.{place_of, parity_of, scratch_left, effect, images_left, room_left, act, untouched, settle, called}
use Rattle.calls.specs.Alone.{Stays, Alone, RecordOnly}
use Rattle.calls.proofs.Laws.Column.{store_if}
use Rattle.calls.proofs.Laws.Stores.{length-stored, cell-stored, stored_last, column-below}
use Rattle.calls.proofs.Laws.Holding.{cell_in}
use Rattle.calls.proofs.Laws.Write.{parity-is, cell-write}
use Rattle.calls.proofs.Laws.Kept.{same_place, store_if-other, store_if-masked}
use Rattle.calls.proofs.Laws.Table.{status-rows, locate-rows, owner-rows}
use Rattle.calls.proofs.Laws.Kinds.{Passed, bounds, writing, growing, continuing, zeroed, within-grow, facts}
use Rattle.calls.proofs.Laws.Rebuild as rebuild

module _ (r : Record) (e : Event) where
  abbrev img : List ℕ
  img = e.images

  -- the images that call c leaves
  abbrev pub left : Call → List ℕ
  left c = images_left (effect c r e) img

  pub long_of : (c : Call) → length (left c) ≡ length img
  long_of c = (facts r e c).long

  -- a view of a disk that is in leaves the scratch
  scratch-of : (b : ℕ) → absent r.health (place_of r b).stripe (place_of r b).disk ≡ false → room_left (effect (view b) r e) e.room ≡ e.room
  unfolding effect scratch_left
  scratch-of b u = rw u refl

  -- ---- the places that write, grow and continue leave

  module _ (b : ℕ) (v : List ℕ) (z : Passed r e (write b v)) (S d : ℕ) (lS : S < r.stripes) (ld : d < disks_of r) where
    abbrev Sb : ℕ
    Sb = (place_of r b).stripe

    abbrev db : ℕ
    db = (place_of r b).disk

    abbrev pb : ℕ
    pb = (parity_of r b).disk

    -- a place of which the two stores, whatever they put, leave each byte
    by-cells : ((I : Grid) (x y : ℕ) → store_if (absent r.health) (store_if (absent r.health) I Sb pb x) Sb db y S d ≡ I S d) → place_in r (left (write b v)) S d ≡ place_in r img S d
    unfolding effect
    by-cells same =
        let t = writing r e b v z in
        same_place (disks_of r) r.block r.stripes (length img) t.long img (left (write b v)) refl (long_of (write b v)) S d lS ld
        (λ j lj. cell-write r img (bounds r e (write b v) refl z) t.long b t.block-lt v t.whole j lj S d lS ∙ same (cell_in r img j) _ _)

    write_others : (S ≡ (place_of r b).stripe → (d ≢ (place_of r b).disk) × (d ≢ (layout (geometry r)).parity S)) → place_in r (left (write b v)) S d ≡ place_in r img S d
    write_others ne =
        let parity : pb ≡ (layout (geometry r)).parity Sb = parity-is (geometry r) (bounds r e (write b v) refl z).array b (writing r e b v z).block-lt in
        by-cells
        (λ I x y.
        store_if-other (absent r.health) (store_if (absent r.health) I Sb pb x) Sb db y S d (λ q. (ne q).0)
        ∙ store_if-other (absent r.health) I Sb pb x S d (λ q. λ same. (ne q).1 (same ∙ parity ∙ ap (layout (geometry r)).parity (sym q))))

    write_absent : absent r.health S d ≡ true → place_in r (left (write b v)) S d ≡ place_in r img S d
    write_absent u =
        by-cells
        (λ I x y.
        store_if-masked (absent r.health) (store_if (absent r.health) I Sb pb x) Sb db y S d u ∙ store_if-masked (absent r.health) I Sb pb x S d u)

  grow_old : (m : ℕ) → Passed r e (grow m) → (S d : ℕ) → S < r.stripes → d < r.old → place_in r (left (grow m)) S d ≡ place_in r img S d
  unfolding effect
  grow_old m z S d lS ld =
      let long : length img ≡ size_with r m = (growing r e m z).long in
      rw (stored_last r.block r.stripes (zeroed r e m) (grown_by r m) img)
      (same_place (r.old + m) r.block r.stripes (length img) long img (stored_in r (zeroed r e m) img) refl
      (length-stored r.block r.stripes (zeroed r e m) img) S d lS (omega arith)
      (λ j lj.
      cell-stored r.block r.stripes (r.old + m) (zeroed r e m) img (within-grow r e m) long j S d lj lS
      ∙ column-below r.block r.stripes r.old j m (cell_in r img j) S d lS ld))

  continue_others : (k o c : ℕ) → r.health ≡ Rebuilding o c → Passed r e (continue k) → (S d : ℕ) → S < r.stripes → d < disks_of r
      → (d ≡ o → (S < c) ⊎ (c + min k (r.stripes - c) ≤ S)) → place_in r (left (continue k)) S d ≡ place_in r img S d
  unfolding effect
  continue_others k o c h z S d lS ld far =
      let l = bounds r e (continue k) refl z in
      let long : length img ≡ size r = (continuing r e k z).long in
      rw (rebuild.images-are r img o c h k)
      (same_place (disks_of r) r.block r.stripes (length img) long img (rebuild.left r img o c h k) refl
      (length-stored r.block r.stripes (rebuild.remade r img o c h k) img) S d lS ld
      (λ j lj. rebuild.cell_apart r img o c h k l long j S d lj lS far))

-- how many stripes a continue reports
counted : (e : Event) (r : Record) (k o c : ℕ) → e.call ≡ continue k → r.health ≡ Rebuilding o c → count (act e r).answer ≡ min k (r.stripes - c)
unfolding effect
counted e r k o c q h = rw (q, h) refl

-- ---- every call

pub alone : Alone
alone e r z =
    let f = facts r e e.call in
    record {
      inside = f.inside z;
      long = f.long;
      room_long = f.room_long z;
      room = f.room;
      scratch = λ b q u. subst (λ (c : Call). room_left (effect c r e) e.room ≡ e.room) (sym q) (scratch-of r e b u);
      images = f.images;
      write_others = λ b v q S d lS ld ne. kept S d (write b v) q (λ x. write_others r e b v x S d lS ld ne);
      write_absent = λ b v q S d lS ld u. kept S d (write b v) q (λ x. write_absent r e b v x S d lS ld u);
      grow_old = λ m q S d lS ld. kept S d (grow m) q (λ x. grow_old r e m x S d lS ld);
      continue_others = λ k o c q h S d lS ld far. kept S d (continue k) q
          (λ x. continue_others r e k o c h x S d lS ld (λ p. subst (λ (n : ℕ). (S < c) ⊎ (c + n ≤ S)) (counted e r k o c q h) (far p)));
    }
  where
    -- what holds of the call that this is
    kept : (S d : ℕ) (c : Call) → e.call ≡ c → (Passed r e c → place_in r (left r e c) S d ≡ place_in r e.images S d) → Stays e r S d
    kept S d c q f = subst (λ (x : Call). Passed r e x → place_in r (left r e x) S d ≡ place_in r e.images S d) (sym q) f z

-- ---- calls that look at the record alone

-- two calls that are given the same number, and answer alike if they are let through, answer alike
alike : (e e' : Event) (r : Record) (k k' : ℕ) → k ≡ k' → (act e r).answer ≡ (act e' r).answer
    → (settle k (untouched e r) (act e r)).answer ≡ (settle k' (untouched e' r) (act e' r)).answer
alike e e' r k k' same q = subst (λ (n : ℕ). (settle k (untouched e r) (act e r)).answer ≡ (settle n (untouched e' r) (act e' r)).answer) same (go k)
  where
    go : (n : ℕ) → (settle n (untouched e r) (act e r)).answer ≡ (settle n (untouched e' r) (act e' r)).answer
    go zero = q
    go (suc n) = refl

-- the number of call c on r, by the lengths of what it is lent
abbrev number : Record → Call → List ℕ → List ℕ → ℕ
number r c img room = refusal_of r (feed c (length img) (length room))

pub record-only : RecordOnly
unfolding called effect
record-only =
    record {
      of-status = λ r img img' room room'.
          alike (on status img room) (on status img' room') r (number r status img room) (number r status img' room')
          (status-rows r _ (length img) (length room) ∙ sym (status-rows r _ (length img') (length room'))) refl;
      of-locate = λ r b img img' room room'.
          alike (on (locate b) img room) (on (locate b) img' room') r (number r (locate b) img room) (number r (locate b) img' room')
          (locate-rows r _ (length img) (length room) b ∙ sym (locate-rows r _ (length img') (length room') b)) refl;
      of_owner = λ r S d img img' room room'.
          alike (on (owner S d) img room) (on (owner S d) img' room') r (number r (owner S d) img room) (number r (owner S d) img' room')
          (owner-rows r _ (length img) (length room) S d ∙ sym (owner-rows r _ (length img') (length room') S d)) refl;
    }
