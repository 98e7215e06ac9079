-- The number that each call is given, by facts: `numbered`. Assumes nothing.
use Prim.Native.Nat.{ℕ, ◌+◌, ◌*◌}
use mathlib.Core.Path.{◌≡◌, refl, ap}
use mathlib.Core.Bool.{Bool, true, false, not, ◌||◌}
use mathlib.Core.Logic.{◌≢◌}
use mathlib.Core.List.{List, [], ◌∷◌}
use lib.Dec.{eqb}
use lib.ListN.{length}
use borrow.Author.Tests.{eq-eqb, ne_eqb, eqb-true}
use Rattle.blocks.specs.Block.{AreBytes}
use Rattle.conditions.proofs.Tests.{equal}
use Rattle.state.specs.declared.types.Health.TheVariants.{Lost}
use Rattle.state.specs.declared.types.Record.{Record}
use Rattle.state.specs.Good.{geometry, good, GoodRecord}
use Rattle.state.specs.Bytes.{record_length, good_bytes, encode}
use Rattle.state.proofs.Laws.Good.{limits}
use Rattle.state.proofs.Theorem.{good-is}
use Rattle.calls.specs.Call.{Call, column, format, read, view, write, grow, advance, out, begin, continue}
use Rattle.calls.specs.Call.{status, locate, owner, sweep, feed}
use Rattle.calls.specs.Health.{is_lost}
use Rattle.calls.specs.Images.{disks_of, size, size_with}
use Rattle.calls.specs.Table.{idle, bad_record, bad_geometry, images, past_end, block_length, formable, looks}
use Rattle.calls.specs.Table as rows
use Rattle.calls.specs.Table.{terms, later_rows, table, refusal, rows_bytes, refusal_bytes}
use Rattle.calls.specs.Numbered.{Reason, Gives, Outside, NotLong, bad, lost, degraded, reached, formed, Numbered}
use Rattle.calls.proofs.Laws.Reasons.{Tells, exactly, Told, gives, differ, past, outside, not_good, is-lost, is-degraded, is-idle, is-other, none-rebuilt, unformable, out-or-past}
use Rattle.calls.proofs.Laws.OnBytes.{refusal-encode}

-- format's rows, but for the first
forms : (n B T len : ℕ) → Told (bad_geometry (formable n B T) ∷ images (n * (T * B)) len ∷ []) (formed n B T len)
unfolding Told
forms n B T len = (refl, unformable n B T, λ u. (refl, differ len (n * (T * B)), λ v. tt))

-- how the rows of many calls begin: 1, 2; A is what is told after them
module _ (r : Record) {A : Type 0} where
  here : (is_lost r.health ≡ false → A)
      → (◌≡◌ {A = ℕ} 1 1) × Tells (not (good r)) (GoodRecord r → ⊥)
      × (not (good r) ≡ false → (◌≡◌ {A = ℕ} 2 2) × Tells (is_lost r.health) (r.health ≡ Lost) × (is_lost r.health ≡ false → A))
  here f = (refl, not_good r, λ g. (refl, is-lost r.health, f))

module _ (r : Record) (c len room : ℕ) where
  say : (x : Call) (reasons : List Reason) → Told (table x false (not (good r)) r c len room) reasons → Gives (refusal r c (feed x len room)) reasons
  unfolding refusal
  say x reasons t = gives (table x false (not (good r)) r c len room) reasons t

  -- read, view and write, whose rows are the same
  reaches : (b lent : ℕ) → Told (bad_record (not (good r)) ∷ rows.lost r ∷ images (size r) len ∷ past_end b c ∷ block_length r lent ∷ []) (reached r c b len lent)
  unfolding Told
  reaches b lent = here r (λ nl. (refl, differ len (size r), λ u. (refl, past b c, λ v. (refl, differ lent r.block, λ w. tt))))

  of-grow : (m : ℕ) → Gives (refusal r c (feed (grow m) len room))
      (bad r ∷ lost r ∷ degraded r ∷ (4, r.new ≢ 0) ∷ (6, Outside 1 m 16) ∷ (7, NotLong r (r.old + m) len) ∷ [])
  unfolding table later_rows terms Told
  of-grow m = say (grow m) _
      (here r (λ nl. (
        refl,
        is-degraded r.health nl,
        λ u. (refl, differ r.new 0, λ v. (refl, outside 1 m 16, λ w. (refl, differ len (size_with r m), λ y. tt))),
      )))

-- ---- on a record's bytes

format_on_bytes : (b : List ℕ) (len room n B T : ℕ) → Gives (refusal_bytes b (feed (format n B T) len room)) ((1, length b ≢ 20) ∷ formed n B T len)
unfolding refusal_bytes rows_bytes table later_rows terms Told
format_on_bytes b len room n B T =
    gives (bad_record (not (eqb (length b) 20)) ∷ bad_geometry (formable n B T) ∷ images (n * (T * B)) len ∷ []) ((1, length b ≢ 20) ∷ formed n B T len)
    (refl, differ (length b) 20, λ u. forms n B T len)

module _ (b : List ℕ) (x : Call) (len room : ℕ) (are : AreBytes b) (ne : column x ≢ 0) (none : (r : Record) → GoodRecord r → encode r ≢ b) where
  not-a-record : (s g : Bool) → not (eqb (length b) record_length) ≡ s → good_bytes b ≡ g → (s || not g) ≡ true
  not-a-record true g p q = refl
  not-a-record false false p q = refl
  not-a-record false true p q = let (r, g, e) = (good-is.bytes b are (equal _ _ p)).0 q in absurd (none r (limits r g) e)

  no_record : refusal_bytes b (feed x len room) ≡ 1
  unfolding refusal_bytes rows_bytes table
  no_record =
      let l : looks x ≡ true = ap not (ne_eqb (column x) 0 ne) in
      rw (l, not-a-record (not (eqb (length b) record_length)) (good_bytes b) refl refl) refl

pub numbered : Numbered
unfolding refusal table later_rows terms Told
numbered =
    record {
      of_format = λ r c len room n B T. gives (bad_geometry (formable n B T) ∷ images (n * (T * B)) len ∷ []) (formed n B T len) (forms n B T len);
      of_read = λ r c len room b. say r c len room (read b) _ (reaches r c len room b room);
      of_view = λ r c len room b. say r c len room (view b) _ (reaches r c len room b room);
      of_write = λ r c len room b v. say r c len room (write b v) _ (reaches r c len room b (length v));
      of-grow = of-grow;
      of-advance = λ r c len room k. say r c len room (advance k) _
          (here r (λ nl. (refl, is-degraded r.health nl, λ u. (refl, is-idle (geometry r), λ v. (refl, differ len (size r), λ w. tt)))));
      of-out = λ r c len room d. say r c len room (out d) _
          (here r (λ nl. (refl, out-or-past r.health d (disks_of r) nl, λ u. tt)));
      of-begin = λ r c len room d. say r c len room (begin d) _
          (here r (λ nl. (refl, differ len (size r), λ u. (refl, is-other r.health d nl, λ v. tt))));
      of-continue = λ r c len room k. say r c len room (continue k) _
          (here r (λ nl. (refl, differ len (size r), λ u. (refl, none-rebuilt r.health, λ v. tt))));
      of-sweep = λ r c len room. say r c len room sweep _
          (here r (λ nl. (refl, is-degraded r.health nl, λ u. (refl, differ len (size r), λ v. tt))));
      of-status = λ r c len room. say r c len room status _ (refl, not_good r, λ g. tt);
      of-locate = λ r c len room b. say r c len room (locate b) _ (refl, not_good r, λ g. (refl, past b c, λ u. tt));
      of_owner = λ r c len room S d. say r c len room (owner S d) _
          (refl, not_good r, λ g. (refl, past S r.stripes, λ u. (refl, past d (disks_of r), λ v. tt)));
      format_on_bytes = format_on_bytes;
      no_record = no_record;
      own_bytes = λ r x len room. refusal-encode r (feed x len room);
      own_capacity = λ r x len room. refl;
      idle_is = λ g. exactly (idle g) (is-idle g);
      columns = λ n B T b m k d S v. refl;
      same_column = λ x y. (eqb-true (column x) (column y), eq-eqb (column x) (column y));
    }
