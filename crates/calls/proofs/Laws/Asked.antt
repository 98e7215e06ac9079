-- The length of images that refusal 7 asks for is the one that a call takes. Assumes nothing.
use Prim.Native.Nat.{ℕ}
use mathlib.Core.Path.{◌≡◌, ap}
use mathlib.Core.Bool.{false, cond, not, ◌||◌}
use mathlib.Core.Logic.{◌≢◌}
use mathlib.Core.List.{List, ◌∷◌, ◌++◌}
use lib.Dec.{eqb}
use borrow.Author.Tests.{eqb-false, not-true}
use Rattle.state.specs.declared.types.Record.{Record}
use Rattle.state.specs.Good.{good}
use Rattle.calls.specs.Call.{Call, feed}
use Rattle.calls.specs.Table.{Row, bad_record, images, Takes, those, images_row, terms, later_rows, looks, table, refusal}
use Rattle.calls.proofs.Laws.Rows.{rises, given}

-- a call that takes images of length n, and is lent other ones where 7 is given
pub turned-away : (r : Record) (cap len room n : ℕ) (c : Call) → (terms c r).takes ≡ those n → refusal r cap (feed c len room) ≡ 7 → len ≢ n
unfolding refusal table later_rows
turned-away r cap len room n c q z =
    eqb-false len n (not-true _ (((given rows (rises c false (not (good r)) r cap len room)).given first behind 7 (not (eqb len n)) rows_are).0 z).0)
  where
    rows : List Row
    rows = table c false (not (good r)) r cap len room

    first : List Row
    first = bad_record (cond (looks c) (false || not (good r)) false) ∷ (terms c r).before

    behind : List Row
    behind = (terms c r).behind cap room

    rows_are : rows ≡ first ++ images n len ∷ behind
    rows_are = ap (λ (t : Takes). first ++ (images_row t len ++ behind)) q
