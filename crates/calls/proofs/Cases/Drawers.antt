-- One cabinet, byte by byte, by computation. Assumes nothing.
use mathlib.Core.Path.{refl}
use Rattle.layout.specs.Home.{data_disk, home_stripe, home_disk}
use Rattle.layout.specs.Moves.{move_zone, move_to, move_lag, move_within, move_stripe, move_from, total}
use Rattle.layout.specs.Closed.{lag, target, turn, is_moved, disk_at, source, taken}
use Rattle.layout.specs.Blanks.{blanks_below, blanks, new_stripe, new_disk}
use Rattle.layout.specs.Layout.{open_stripes, capacity, grown_place, grown_parity}
use Rattle.state.specs.Good.{moves_good, good}
use Rattle.calls.specs.Images.{seen, stored, recorded, fill_disk, zero_disks}
use Rattle.calls.specs.Table.{idle, formable, terms, later_rows, table, refusal}
use Rattle.calls.specs.Effect.{view_of, scratch_left, write_stores, move_stores, advance_stores, continue_stores, effect, called}
use Rattle.calls.specs.Cases.Drawers.{Drawers}

pub drawers : Drawers
unfolding data_disk home_stripe home_disk move_zone move_to move_lag move_within move_stripe move_from total lag target turn is_moved disk_at source taken blanks_below blanks new_stripe new_disk open_stripes capacity grown_place grown_parity moves_good good seen stored recorded fill_disk zero_disks idle formable terms later_rows table refusal view_of scratch_left write_stores move_stores advance_stores continue_stores effect called
drawers = record {
  move = refl;
  no_move = refl;
  move_unsound = refl;
  written = refl;
  written_degraded = refl;
  written_no_parity = refl;
  read_degraded = refl;
  viewed = refl;
  viewed_degraded = refl;
  begun = refl;
  rebuilt = refl;
  rebuilt_some = refl;
  rebuilt_none = refl;
  rebuilt_more = refl;
  rebuilt_but_one = refl;
  rebuilt_rest = refl;
  read_done = refl;
  read_not_done = refl;
  viewed_done = refl;
  viewed_not_done = refl;
  written_done = refl;
  written_not_done = refl;
  parity_done = refl;
  parity_not_done = refl;
  out_again = refl;
  out_other = refl;
  no_advance = refl;
  first_out = refl;
  second_out = refl;
  grown = refl;
  formats = refl;
  written_new = refl;
  new_left = refl;
  written_new_degraded = refl;
  read_new_degraded = refl;
  rebuilt_new = refl;
  no_block = refl;
  move-stores = refl;
  write-stores = refl;
  continue-stores = refl;
  last_stores = refl;
  format_stores = refl;
  grow_stores = refl;
  any_first_byte = refl;
  written_unsound = refl;
  written_beside_unsound = refl;
  written_degraded_unsound = refl;
  read_unsound = refl;
  read_degraded_unsound = refl;
  viewed_degraded_unsound = refl;
  rebuilt_unsound = refl;
  blank_unsound = refl;
  wide_moves = refl;
  wide_written = refl;
  wide_written_unsound = refl;
  wide_written_degraded = refl;
  wide_read = refl;
  wide_read_degraded = refl;
  wide_viewed = refl;
  wide_viewed_degraded = refl;
  wide_rebuilt = refl;
  wide_rebuilt_unsound = refl;
  wide_grown = refl;
  wide_formatted = refl;
}
