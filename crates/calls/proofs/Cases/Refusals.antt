-- The table of refusals row by row, and every cell of it, by computation. Assumes nothing.
use mathlib.Core.Path.{refl}
use Rattle.layout.specs.Layout.{open_stripes, capacity}
use Rattle.layout.specs.Moves.{total}
use Rattle.state.specs.Good.{moves_good, good}
use Rattle.state.specs.Bytes.{decode, plain, encode}
use Rattle.calls.specs.Call.{format, read, view, write, grow, advance, out, begin, continue, status, locate, owner, sweep}
use Rattle.calls.specs.Table.{idle, formable, terms, later_rows, table, rows_bytes, refusal_bytes}
use Rattle.calls.specs.Cases.Refusals.{Rowwise, Refusals}

pub rowwise : Rowwise
unfolding terms later_rows table
rowwise (format n B T) short bad r cap len room = refl
rowwise (read b) short bad r cap len room = refl
rowwise (view b) short bad r cap len room = refl
rowwise (write b v) short bad r cap len room = refl
rowwise (grow m) short bad r cap len room = refl
rowwise (advance k) short bad r cap len room = refl
rowwise (out d) short bad r cap len room = refl
rowwise (begin d) short bad r cap len room = refl
rowwise (continue k) short bad r cap len room = refl
rowwise status short bad r cap len room = refl
rowwise (locate b) short bad r cap len room = refl
rowwise (owner S d) short bad r cap len room = refl
rowwise sweep short bad r cap len room = refl

pub refusals : Refusals
unfolding open_stripes capacity total moves_good good decode plain encode idle formable terms later_rows table rows_bytes refusal_bytes
refusals = record {
  row_1 = refl;
  row_1_format = refl;
  formats = refl;
  read_cells = refl;
  view_cells = refl;
  write_cells = refl;
  write_room = refl;
  grows = refl;
  advances = refl;
  outs = refl;
  begins = refl;
  continues = refl;
  statuses = refl;
  locates = refl;
  owners = refl;
  sweeps = refl;
}
