-- Sweeps of small cabinets, by computation. Assumes nothing.
use mathlib.Core.Path.{refl}
use Rattle.layout.specs.Home.{home_owner, home_block, rank_of}
use Rattle.layout.specs.Moves.{total}
use Rattle.layout.specs.Closed.{lag, target, turn, is_moved, disk_at, source, taken}
use Rattle.layout.specs.Blanks.{blanks_below, new_block}
use Rattle.layout.specs.Layout.{open_stripes, capacity, new_owner, grown_owner}
use Rattle.state.specs.Good.{moves_good, good}
use Rattle.calls.specs.Images.{seen}
use Rattle.calls.specs.Table.{idle, formable, terms, later_rows, table, refusal}
use Rattle.calls.specs.Sound.{seen_stripe, blanks_zero, is_sound, unsound_below}
use Rattle.calls.specs.Effect.{effect, called}
use Rattle.calls.specs.Cases.Sweeps.{Flipped}

pub flipped : Flipped
unfolding home_owner home_block rank_of total lag target turn is_moved disk_at source taken blanks_below new_block open_stripes capacity new_owner grown_owner moves_good good seen idle formable terms later_rows table refusal seen_stripe blanks_zero is_sound unsound_below effect called
flipped = record {
  nothing = refl;
  nothing_tailed = refl;
  one = refl;
  one_growing = refl;
  one_grown = refl;
  one_tailed = refl;
  lower = refl;
  cancels = refl;
  cancels_new = refl;
  cancels_home = refl;
  cancels_grown = refl;
  cancels_tailed = refl;
  cancels_old = refl;
  cancels_behind = refl;
  other_moves = refl;
  numbers = refl;
}
