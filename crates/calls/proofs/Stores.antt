-- Stores in bare numbers: `storing` and `stores-in-order`. Assumes nothing.
use Prim.Native.Nat.{ℕ, zero, suc, ◌+◌, ◌-◌, ◌*◌, min}
use mathlib.Core.Path.{◌≡◌, refl, ap}
use mathlib.Core.Bool.{true, false}
use mathlib.Core.List.{List, [], ◌∷◌, ◌++◌, append-nil}
use Rattle.blocks.proofs.Laws.Block.{get_or-store-other}
use Rattle.state.specs.declared.types.Health.{Health}
use Rattle.state.specs.declared.types.Record.{Record}
use Rattle.state.specs.Bytes.{stripes_done}
use Rattle.state.specs.Good.{geometry}
use Rattle.state.specs.Update.{formatted, grown_by}
use Rattle.calls.specs.Call.{Event, done}
use Rattle.calls.specs.Images.{Store, header, stored, recorded}
use Rattle.calls.specs.Table.{idle}
use Rattle.calls.specs.Effect.{write_stores, move_stores, advance_stores, Effect, stores, effect, answer_of, record_left, images_left, room_left, Left}
use Rattle.calls.specs.Stores.{Storing, StoresInOrder}
use Rattle.calls.proofs.Laws.Stores.{get_or-stored, length-stored, stored-append, recorded-append, zero-each}

-- what comes of an effect
abbrev left : Event → Record → Effect → Left Record
left e r x = record { answer = answer_of x; state = record_left x r; images = images_left x e.images; room = room_left x e.room }

pub storing : Storing
unfolding stored recorded
storing =
    record {
      none = λ B T img r. (refl, refl);
      joined = λ B T ps qs img r. (stored-append B T ps qs img, recorded-append ps qs r);
      of_record = λ B T x r img. (refl, refl);
      of_block = get_or-stored;
      elsewhere = λ B T S d i v img o. get_or-store-other img ((d * T + S) * B) v i 0 o;
      not_record = λ S d v r. refl;
      long = length-stored;
      in_images = λ r ps img. refl;
      disks_are = λ r. refl;
      size_is = λ r. refl;
      of_storing = λ e r shape a ps q. ap (left e r) q;
      of_telling = λ e r a q. ap (left e r) q;
      of_filling = λ e r shown room q. ap (left e r) q;
    }

-- ---- an advance with nothing left to move, and with one move

none_left : (r : Record) (img : List ℕ) (k : ℕ) → idle (geometry r) ≡ true → advance_stores k r img ≡ []
unfolding advance_stores
none_left r img zero q = refl
none_left r img (suc k) q = rw (q, advance_stores) refl

one_move : (r : Record) (img : List ℕ) → idle (geometry r) ≡ false → advance_stores 1 r img ≡ move_stores r img
unfolding advance_stores
one_move r img q = rw (q, advance_stores) (append-nil (move_stores r img))

pub stores-in-order : StoresInOrder
unfolding effect write_stores move_stores advance_stores recorded
stores-in-order =
    record {
      of_format = λ r e n B T. ap (λ (ps : List Store). stores done (formatted n B T) (ps ++ header (formatted n B T) ∷ [])) (zero-each B T 0 n);
      of-grow = λ r e m. ap (λ (ps : List Store). stores done r (ps ++ header (grown_by r m) ∷ [])) (zero-each r.block r.stripes r.old m);
      of_write = λ r e b v. refl;
      skipped = λ s. (refl, refl);
      of-out = λ r e d. refl;
      of-begin = λ r e d. refl;
      of_read = λ r e b. (_, _, refl);
      of_view = λ r e b. (_, _, refl);
      of-status = λ r e. (_, refl);
      of-locate = λ r e b. (_, refl);
      of_owner = λ r e S d. (_, refl);
      of-sweep = λ r e. (_, refl);
      of_move = λ r img. refl;
      of-advance = λ r e k. refl;
      no_move = λ r img. refl;
      none_left = none_left;
      one_move = one_move;
      of-continue = λ r e k. refl;
      stripes-made = λ r k o c h. ap (λ (x : Health). min k (r.stripes - stripes_done x)) h;
    }
