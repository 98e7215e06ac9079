-- What an accepted call does to the images, the block or scratch and the record, whatever bytes it is lent: the stripes need not be sound.
-- Document 01, Calls. What it leaves alone is `Alone`, what a single move does `OneMove`, both of Alone.
-- The statement is `Acts`; `acts` of proofs/Acts.antt proves it.
use Rattle.std.specs.Prelude.{ℕ, suc, ◌+◌, ◌-◌, ◌*◌, ◌≤◌, ◌<◌, min, ◌≡◌, true, false, ◌≢◌, List}
use Rattle.layout.specs.Layout.{total_of, capacity, layout}
use Rattle.blocks.specs.Block.{zeros}
use Rattle.blocks.specs.Xor.{xor_b}
use Rattle.state.specs.declared.types.Health.TheVariants.{Whole, Out, Lost, Rebuilding}
use Rattle.state.specs.declared.types.Record.{Record}
use Rattle.state.specs.Good.{geometry}
use Rattle.calls.specs.Call.{Call, format, read, view, write, grow, advance, out, begin, continue}
use Rattle.calls.specs.Call.{status, locate, owner, sweep}
use Rattle.calls.specs.Call.{Event, on, fed, done, bytes, made, all_sound, unsound_at, figures, placed, owned}
use Rattle.state.specs.Update.{formatted, grown_by, with_moves, with_health}
use Rattle.calls.specs.Health.{absent}
use Rattle.calls.specs.Images.{place_in, others_in, seen}
use Rattle.calls.specs.Sound.{Sound}
use Rattle.calls.specs.Table.{idle, refusal_of}
use Rattle.calls.specs.Effect.{place_of, act}
use Rattle.calls.specs.Alone.{moved_on}

-- place (S, d) of the images that the call leaves
abbrev pub left_at : Event → Record → ℕ → ℕ → List ℕ
left_at e r S d = place_in r (act e r).images S d

-- the record after one move
abbrev pub one_more : Record → Record
one_more r = with_moves r (suc r.moves)

-- the calls that store the record
pub data StoresRecord : Call → Type 0 where
  format-records : (n B T : ℕ) → StoresRecord (format n B T)
  grow-records : (m : ℕ) → StoresRecord (grow m)
  advance-records : (k : ℕ) → StoresRecord (advance k)
  out-records : (d : ℕ) → StoresRecord (out d)
  begin-records : (d : ℕ) → StoresRecord (begin d)
  continue-records : (k : ℕ) → StoresRecord (continue k)

-- the calls that have nothing to tell
pub data OnlyDone : Call → Type 0 where
  format-done : (n B T : ℕ) → OnlyDone (format n B T)
  write_done : (b : ℕ) (v : List ℕ) → OnlyDone (write b v)
  grow-done : (m : ℕ) → OnlyDone (grow m)
  out-done : (d : ℕ) → OnlyDone (out d)
  begin-done : (d : ℕ) → OnlyDone (begin d)

-- what is claimed of one call e on a record r ..
pub record Does (e : Event) (r : Record) : Type 0 where
  -- "An out disk is never read: its place counts as the xor of the stripe's other places." Any other is read as it stands.
  pub seen_in : (S d : ℕ) → absent r.health S d ≡ false → seen r e.images S d ≡ place_in r e.images S d
  pub seen_out : (S d : ℕ) → absent r.health S d ≡ true → seen r e.images S d ≡ others_in r e.images S d
  -- the place of block b is the layout's
  pub place_is : (b : ℕ) → place_of r b ≡ ((layout (geometry r)).place b).block
  -- format: "zeroes the images; record whole, m = t = 0"
  pub format_images : (n B T : ℕ) → e.call ≡ format n B T → (act e r).images ≡ zeros (n * (T * B))
  pub format_record : (n B T : ℕ) → e.call ≡ format n B T → (act e r).state ≡ formatted n B T
  -- read: "fills a lent block"
  pub read_block : (b : ℕ) → e.call ≡ read b → let q = place_of r b in (act e r).room ≡ seen r e.images q.stripe q.disk
  pub read_answer : (b : ℕ) → e.call ≡ read b → let q = place_of r b in (act e r).answer ≡ bytes (seen r e.images q.stripe q.disk)
  -- view: "returns the block as a part of the images, or, if its disk is out, as the lent scratch filled with it"
  pub view_answer : (b : ℕ) → e.call ≡ view b → let q = place_of r b in (act e r).answer ≡ bytes (seen r e.images q.stripe q.disk)
  pub view_scratch : (b : ℕ) → e.call ≡ view b → let q = place_of r b in
      absent r.health q.stripe q.disk ≡ true → (act e r).room ≡ others_in r e.images q.stripe q.disk
  -- write: "the data place takes the data" ..
  pub write_data : (b : ℕ) (v : List ℕ) → e.call ≡ write b v → let q = place_of r b in
      absent r.health q.stripe q.disk ≡ false → left_at e r q.stripe q.disk ≡ v
  -- .. and "the parity place its old value xor old block xor data; either is skipped if its disk is out"
  pub write_parity : (b : ℕ) (v : List ℕ) → e.call ≡ write b v → let q = place_of r b in
      let p = (layout (geometry r)).parity q.stripe in
      let before = seen r e.images q.stripe in
      absent r.health q.stripe p ≡ false → left_at e r q.stripe p ≡ xor_b (xor_b (before p) (before q.disk)) v
  -- grow: "given images of n + m disks, zeroes those behind the first n; sets m"
  pub grow_new : (m : ℕ) → e.call ≡ grow m → (S d : ℕ) → S < r.stripes → r.old ≤ d → d < r.old + m
      → left_at e r S d ≡ zeros r.block
  pub grow_record : (m : ℕ) → e.call ≡ grow m → (act e r).state ≡ with_health (grown_by r m) Whole
  -- advance: "makes moves in order until k are made or none is left, and reports how many, which is t's rise"
  pub advance_answer : (k : ℕ) → e.call ≡ advance k → (act e r).answer ≡ made (min k (total_of (geometry r) - r.moves))
  pub advance_record : (k : ℕ) → e.call ≡ advance k
      → (act e r).state ≡ with_moves r (r.moves + min k (total_of (geometry r) - r.moves))
  -- .. each move on what the one before left (`moved_on`, the images after the next move: `OneMove`)
  pub advance_none : e.call ≡ advance 0 → (act e r).images ≡ e.images
  pub advance_next : (k : ℕ) → e.call ≡ advance (suc k) → let r' = one_more r in
      idle (geometry r') ≡ false → (act e r).images ≡ (act (on (advance k) (moved_on r e.images) e.room) r').images
  pub advance_last : (k : ℕ) → e.call ≡ advance (suc k) → idle (geometry (one_more r)) ≡ true → (act e r).images ≡ moved_on r e.images
  -- out: "whole becomes out; out with another disk becomes lost"; of a rebuild "Another disk out means lost; the same disk out means out
  -- again."
  pub out_first : (d : ℕ) → e.call ≡ out d → r.health ≡ Whole → (act e r).state ≡ with_health r (Out d)
  pub out_second : (d o : ℕ) → e.call ≡ out d → r.health ≡ Out o → (act e r).state ≡ with_health r Lost
  pub out_other : (d o c : ℕ) → e.call ≡ out d → r.health ≡ Rebuilding o c → d ≢ o → (act e r).state ≡ with_health r Lost
  pub out_again : (o c : ℕ) → e.call ≡ out o → r.health ≡ Rebuilding o c → (act e r).state ≡ with_health r (Out o)
  -- begin: "changes the record only", to no stripe done
  pub begin_record : (d : ℕ) → e.call ≡ begin d → (act e r).state ≡ with_health r (Rebuilding d 0)
  -- continue: "does stripes in rising order until k are done or none is left, and reports how many" ..
  pub continue_answer : (k o c : ℕ) → e.call ≡ continue k → r.health ≡ Rebuilding o c → (act e r).answer ≡ made (min k (r.stripes - c))
  -- .. each as the xor of the others ..
  pub continue_disk : (k o c : ℕ) → e.call ≡ continue k → r.health ≡ Rebuilding o c → (S : ℕ) → c ≤ S → S < r.stripes → S < c + k
      → left_at e r S o ≡ others_in r e.images S o
  -- .. with "disk and stripes done"; "At T health is whole."
  pub continue_part : (k o c : ℕ) → e.call ≡ continue k → r.health ≡ Rebuilding o c → c + k < r.stripes
      → (act e r).state ≡ with_health r (Rebuilding o (c + k))
  pub continue_end : (k o c : ℕ) → e.call ≡ continue k → r.health ≡ Rebuilding o c → r.stripes ≤ c + k
      → (act e r).state ≡ with_health r Whole
  -- sweep: stripe S if it is unsound and all before it are sound, and S + 1 read; none, and T, if all are sound. The images may be any:
  -- "The images may come from anywhere."
  pub sweep_first : (S : ℕ) → e.call ≡ sweep → S < r.stripes → ¬ Sound r e.images S
      → ((R : ℕ) → R < S → Sound r e.images R) → (act e r).answer ≡ unsound_at S (S + 1)
  pub sweep_none : e.call ≡ sweep → ((S : ℕ) → S < r.stripes → Sound r e.images S) → (act e r).answer ≡ all_sound r.stripes
  -- status: "capacity, t, total, health"; locate: "block place, parity place and whether a move now done, of any growth, carried the block
  -- itself" (document 02, (f)); owner: "the block number there, or parity, or blank"
  pub status_answer : e.call ≡ status
      → (act e r).answer ≡ figures (capacity (geometry r)) r.moves (total_of (geometry r)) r.health
  pub locate_answer : (b : ℕ) → e.call ≡ locate b → (act e r).answer ≡ placed ((layout (geometry r)).place b)
  pub owner_answer : (S d : ℕ) → e.call ≡ owner S d → (act e r).answer ≡ owned ((layout (geometry r)).owner S d)
  -- the others answer "0 is done" and nothing beside it
  pub only_done : OnlyDone e.call → (act e r).answer ≡ done
  -- read, view, write, sweep, status, locate and owner leave the record
  pub record_stays : ¬ StoresRecord e.call → (act e r).state ≡ r

-- .. and it holds of every call that the table lets through
abbrev pub Acts : Type 0
Acts = (e : Event) (r : Record) → refusal_of r (fed e) ≡ 0 → Does e r
