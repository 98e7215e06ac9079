-- The table of refusals: what a number says of the conditions, and the rows of each call. Proofs of calls cite these, not the table's text.
-- Assumes nothing.
use Prim.Native.Nat.{ℕ, suc, ◌*◌, ◌≤◌, ◌<◌}
use mathlib.Core.Path.{◌≡◌, refl, sym, ◌∙◌}
use mathlib.Core.Bool.{Bool, true, false, cond, not, ◌||◌}
use mathlib.Core.Logic.{◌≢◌}
use mathlib.Core.List.{List, [], ◌∷◌, ◌++◌}
use native.Mathlib.Omega.{arith}
use lib.Dec.{eqb, ltb}
use borrow.Author.Tests.{eqb-true, eqb-false, eq-eqb}
use Rattle.conditions.proofs.Tests.{neither}
use Rattle.layout.specs.declared.Geometry.{Geometry}
use Rattle.layout.specs.Layout.{total_of}
use Rattle.layout.specs.Limits.{GoodArray}
use lib.ListN.{length}
use Rattle.state.specs.declared.types.Health.TheVariants.{Lost}
use Rattle.state.specs.declared.types.Record.{Record}
use Rattle.state.specs.Good.{new_good, good}
use Rattle.calls.specs.Call.{Call, format, read, view, write, grow, advance, out, begin, continue}
use Rattle.calls.specs.Call.{status, locate, owner, sweep, feed}
use Rattle.calls.specs.Health.{is_out, is_rebuilding}
use Rattle.calls.specs.Images.{disks_of, size, size_with}
use Rattle.calls.specs.Table.{Row, bad_record, grown_already, idle, nothing_to_move, formable, bad_geometry, images, past_end, block_length, disk}
use Rattle.calls.specs.Table.{lost, looks, later_rows, terms, table, word, kept, kept_whole, kept_lent, refusal}

-- a row that is passed
pub passes : (c : Bool) (k w : ℕ) → cond c (suc k) w ≡ 0 → (c ≡ false) × (w ≡ 0)
passes true k w e = absurd (omega arith)
passes false k w e = (refl, e)

-- ---- a word of two lists of rows

-- rows that have a number
Numbered : List Row → Type 0
Numbered [] = Unit
Numbered (x ∷ rows) = (0 < x.0) × Numbered rows

-- the first list's, if it is no 0 ..
pub stops : (xs ys : List Row) {k : ℕ} → k ≡ word xs → k ≢ 0 → k ≡ word (xs ++ ys)
stops xs ys e ne = e ∙ go xs (λ z. ne (e ∙ z))
  where
    go : (xs : List Row) → word xs ≢ 0 → word xs ≡ word (xs ++ ys)
    go [] n = absurd (n refl)
    go (x ∷ xs) n = by x.1 n (go xs)
      where
        by : (b : Bool) → cond b x.0 (word xs) ≢ 0 → (word xs ≢ 0 → word xs ≡ word (xs ++ ys)) → cond b x.0 (word xs) ≡ cond b x.0 (word (xs ++ ys))
        by true u f = refl
        by false u f = f u

-- .. and else the second's
goes_on : (xs ys : List Row) → Numbered xs → {k : ℕ} → k ≡ word xs → k ≡ 0 → word (xs ++ ys) ≡ word ys
unfolding Numbered
goes_on xs ys n e z = go xs n (sym e ∙ z)
  where
    go : (xs : List Row) → Numbered xs → word xs ≡ 0 → word (xs ++ ys) ≡ word ys
    go [] n q = refl
    go (x ∷ xs) n q = by x.1 q (go xs n.1)
      where
        by : (b : Bool) → cond b x.0 (word xs) ≡ 0 → (word xs ≡ 0 → word (xs ++ ys) ≡ word ys) → cond b x.0 (word (xs ++ ys)) ≡ word ys
        by true u f = absurd (let l : 0 < x.0 = n.0 in omega arith)
        by false u f = f u

-- a row that holds, and one that does not
pub given : (k : ℕ) {c : Bool} (rows : List Row) → c ≡ true → word ((k, c) ∷ rows) ≡ k
given k rows e = rw e refl

pub skipped : (k : ℕ) {c : Bool} (rows : List Row) → c ≡ false → word ((k, c) ∷ rows) ≡ word rows
skipped k rows e = rw e refl

-- ---- how the rows of many calls begin

module _ (r : Record) (ys : List Row) {k : ℕ} where
  pub kept_on : k ≡ word (kept r) → k ≡ 0 → word (kept r ++ ys) ≡ word ys
  unfolding Numbered
  kept_on e z = goes_on (kept r) ys (omega arith, (omega arith, tt)) e z

  pub whole-on : k ≡ word (kept_whole r) → k ≡ 0 → word (kept_whole r ++ ys) ≡ word ys
  unfolding Numbered
  whole-on e z = goes_on (kept_whole r) ys (omega arith, (omega arith, (omega arith, tt))) e z

  pub lent-on : (len : ℕ) → k ≡ word (kept_lent r len) → k ≡ 0 → word (kept_lent r len ++ ys) ≡ word ys
  unfolding Numbered
  lent-on len e z = goes_on (kept_lent r len) ys (omega arith, (omega arith, (omega arith, tt))) e z

-- ---- the rows of each call, whose capacity is c, lent images of len bytes and a block or scratch of room

module _ (r : Record) (c len room : ℕ) where
  pub format-rows : (n B T : ℕ) → refusal r c (feed (format n B T) len room) ≡ word (bad_geometry (formable n B T) ∷ images (n * (T * B)) len ∷ [])
  unfolding refusal table later_rows terms
  format-rows n B T = refl

  pub read-rows : (b : ℕ) → refusal r c (feed (read b) len room) ≡ word (kept_lent r len ++ (past_end b c ∷ block_length r room ∷ []))
  unfolding refusal table later_rows terms
  read-rows b = refl

  pub view-rows : (b : ℕ) → refusal r c (feed (view b) len room) ≡ refusal r c (feed (read b) len room)
  unfolding refusal table later_rows terms
  view-rows b = refl

  pub write-rows : (b : ℕ) (v : List ℕ) → refusal r c (feed (write b v) len room) ≡ refusal r c (feed (read b) len (length v))
  unfolding refusal table later_rows terms
  write-rows b v = refl

  pub grow-rows : (m : ℕ) → refusal r c (feed (grow m) len room)
      ≡ word (kept_whole r ++ (grown_already r ∷ bad_geometry (new_good m) ∷ images (size_with r m) len ∷ []))
  unfolding refusal table later_rows terms
  grow-rows m = refl

  pub advance-rows : (k : ℕ) → refusal r c (feed (advance k) len room) ≡ word (kept_whole r ++ (nothing_to_move r ∷ images (size r) len ∷ []))
  unfolding refusal table later_rows terms
  advance-rows k = refl

  pub out-rows : (d : ℕ) → refusal r c (feed (out d) len room) ≡ word (kept r ++ (disk (not (ltb d (disks_of r)) || is_out r.health d) ∷ []))
  unfolding refusal table later_rows terms
  out-rows d = refl

  pub begin-rows : (d : ℕ) → refusal r c (feed (begin d) len room) ≡ word (kept_lent r len ++ (disk (not (is_out r.health d)) ∷ []))
  unfolding refusal table later_rows terms
  begin-rows d = refl

  pub continue-rows : (k : ℕ) → refusal r c (feed (continue k) len room) ≡ word (kept_lent r len ++ (disk (not (is_rebuilding r.health)) ∷ []))
  unfolding refusal table later_rows terms
  continue-rows k = refl

  pub status-rows : refusal r c (feed status len room) ≡ word (bad_record (not (good r)) ∷ [])
  unfolding refusal table later_rows terms
  status-rows = refl

  pub locate-rows : (b : ℕ) → refusal r c (feed (locate b) len room) ≡ word (bad_record (not (good r)) ∷ past_end b c ∷ [])
  unfolding refusal table later_rows terms
  locate-rows b = refl

  pub owner-rows : (S d : ℕ) → refusal r c (feed (owner S d) len room)
      ≡ word (bad_record (not (good r)) ∷ past_end S r.stripes ∷ disk (not (ltb d (disks_of r))) ∷ [])
  unfolding refusal table later_rows terms
  owner-rows S d = refl

  pub sweep-rows : refusal r c (feed sweep len room) ≡ word (kept_whole r ++ (images (size r) len ∷ []))
  unfolding refusal table later_rows terms
  sweep-rows = refl

-- ---- a lost array: a call whose rows from 2 on begin with 2 is given that

abbrev pub StopsLost : Record → Call → Type 0
StopsLost r x = (rows : List Row) × ((terms x r).before ≡ lost r ∷ rows)

pub given-2 : (r : Record) (c len room : ℕ) (x : Call) → StopsLost r x → good r ≡ true → r.health ≡ Lost → refusal r c (feed x len room) ≡ 2
unfolding refusal table later_rows
given-2 r c len room x s g h = rw (g, s.1, h) (go (looks x))
  where
    go : (l : Bool) → ◌≡◌ {A = ℕ} (cond (cond l false false) 1 2) 2
    go true = refl
    go false = refl

-- ---- 5's condition

module _ (g : Geometry) where
  pub some-new : idle g ≡ false → g.new ≢ 0
  unfolding idle
  some-new e = eqb-false g.new 0 (neither (eqb g.new 0) (eqb g.moves (total_of g)) e).0

  pub not-total : idle g ≡ false → g.moves ≢ total_of g
  unfolding idle
  not-total e = eqb-false g.moves (total_of g) (neither (eqb g.new 0) (eqb g.moves (total_of g)) e).1

  pub some_left : GoodArray g → idle g ≡ false → g.moves < total_of g
  some_left good e =
      let ne : g.moves ≢ total_of g = not-total e in
      let le : g.moves ≤ total_of g = good.moves in
      omega arith

  pub none_left : g.new ≢ 0 → idle g ≡ true → g.moves ≡ total_of g
  unfolding idle
  none_left nz e = go (eqb g.new 0) refl e
    where
      go : (b : Bool) → eqb g.new 0 ≡ b → (b || eqb g.moves (total_of g)) ≡ true → g.moves ≡ total_of g
      go true q u = absurd (nz (eqb-true g.new 0 q))
      go false q u = eqb-true g.moves (total_of g) u

  pub over : g.moves ≡ total_of g → idle g ≡ true
  unfolding idle
  over e = go (eqb g.new 0)
    where
      go : (b : Bool) → (b || eqb g.moves (total_of g)) ≡ true
      go true = refl
      go false = eq-eqb g.moves (total_of g) e
