-- The worked cases, by computation. Assumes nothing.
use mathlib.Core.Path.{refl}
use Rattle.layout.specs.Home.{data_disk, home_stripe, home_disk, rank_of, home_block, home_owner}
use Rattle.layout.specs.Moves.{move_zone, move_to, move_lag, move_within, move_stripe, move_from, total}
use Rattle.layout.specs.Closed.{lag, target, turn, is_moved, disk_at, source, taken}
use Rattle.layout.specs.Blanks.{blanks_below, blanks, new_stripe, new_disk, new_block}
use Rattle.layout.specs.Layout.{open_stripes, capacity, grown_place, grown_parity, new_owner, grown_owner}
use Rattle.state.specs.Good.{moves_good, good}
use Rattle.calls.specs.Images.{stored, recorded}
use Rattle.calls.specs.Table.{idle, formable, terms, later_rows, table, refusal}
use Rattle.calls.specs.Effect.{move_stores, advance_stores, effect, called}
use Rattle.calls.specs.Cases.Bench.{Bench, Unmarked}

pub bench : Bench
unfolding data_disk home_stripe home_disk rank_of home_block home_owner move_zone move_to move_lag move_within move_stripe move_from total lag target turn is_moved disk_at source taken blanks_below blanks new_stripe new_disk new_block open_stripes capacity grown_place grown_parity new_owner grown_owner moves_good good stored recorded idle formable terms later_rows table refusal effect called
bench = record {
  numbers = (refl, refl, refl, refl, refl, refl, refl);
  block_5 = (refl, refl);
  move_0 = (refl, refl, refl);
  move_1 = (refl, refl, refl);
  move_2 = (refl, refl, refl);
  block_2 = (refl, refl);
  block_6 = refl;
  block_0 = λ t. refl;
  finished-zones = (refl, refl, refl, refl, refl);
  new_blocks = (refl, refl, refl, refl);
}

pub unmarked : Unmarked
unfolding data_disk home_stripe home_disk move_zone move_to move_lag move_within move_stripe move_from total lag target turn is_moved disk_at source taken blanks_below blanks new_stripe new_disk open_stripes capacity grown_place grown_parity moves_good good stored recorded idle formable terms later_rows table refusal move_stores advance_stores effect called
unmarked = record {
  one_group = (refl, refl, refl);
  no_group = (refl, refl, refl, refl, refl, refl, refl, refl);
  disks = (refl, refl, refl, refl);
  block = (refl, refl, refl, refl);
  stripes = (refl, refl, refl, refl);
  carried = (refl, refl, refl, refl, refl);
  finished = (refl, refl);
}
