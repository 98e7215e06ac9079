-- Grow: the images left hold the same list on n + m disks, longer at once if there is nothing to move. Assumes nothing.
use Prim.Native.Nat.{ℕ, ◌-◌, ◌+◌, ◌*◌, ◌≤◌, ◌<◌}
use mathlib.Core.Path.{◌≡◌, refl, sym, ap, ◌∙◌, subst}
use mathlib.Core.Bool.{true, false, cond}
use mathlib.Core.List.{List}
use native.Mathlib.Decide.{dec_lt}
use native.Mathlib.Omega.{arith}
use lib.Dec.{ltb}
use lib.ListN.{length, get_or, length-map}
use borrow.Author.Tests.{lt-ltb, le-ltb}
use Rattle.layout.specs.declared.Geometry.{Geometry}
use Rattle.layout.specs.declared.Role.TheVariants.{Blank}
use Rattle.layout.specs.declared.Role.{Role}
use Rattle.layout.specs.Layout.{total_of, old_blocks, open_stripes, capacity, home, layout}
use Rattle.layout.specs.Limits.{GoodArray}
use Rattle.layout.proofs.Laws.Owners.{owned_with, is-owner, Opened, opened, starts, starts-blank}
use Rattle.layout.proofs.Laws.Zones.{total-none}
use Rattle.blocks.proofs.Laws.Grid.{Grid}
use Rattle.blocks.proofs.Laws.Rows.{sum-ext, sum-extend}
use Rattle.state.specs.declared.types.Health.TheVariants.{Whole}
use Rattle.state.specs.declared.types.Record.{Record}
use Rattle.state.specs.Good.{geometry, new_good}
use Rattle.state.specs.Update.{grown_by}
use Rattle.state.proofs.Laws.Good.{within-true}
use Rattle.calls.specs.Call.{grow, on, done}
use Rattle.calls.specs.Health.{is_lost, absent}
use Rattle.calls.specs.Images.{disks_of, size_with, Store, stored, zero_disks}
use Rattle.calls.specs.Table.{later_rows, word}
use Rattle.calls.specs.Effect.{effect, act}
use Rattle.calls.proofs.Laws.Column.{Mask, Fits, fits-of, Agree, Even, Holds, Stored, relent}
use Rattle.calls.proofs.Laws.Stores.{Within, length-stored, cell-stored, stored_last, recorded-last, column-below, column-zero, within-zero}
use Rattle.calls.proofs.Laws.Lists.{with-new, bytes-with-new, count-with-new, whole-with-new, stored-opened}
use Rattle.calls.proofs.Laws.Holding.{Holding, Leaves, Kept, bytes_at, cell_in}
use Rattle.calls.proofs.Laws.Passed as passed

-- ---- on one byte of every place: m disks of zeroes after the first n

module _ (n m T : ℕ) (own own' : ℕ → ℕ → Role) (old : (S d : ℕ) → d < n → own' S d ≡ own S d) (blank : (S d : ℕ) → n ≤ d → own' S d ≡ Blank) where
  abbrev front : Grid → Grid
  front I S d = cond (ltb d n) (I S d) 0

  front-old : (I : Grid) (S d : ℕ) → d < n → front I S d ≡ I S d
  front-old I S d l = rw (lt-ltb d n l)

  front-new : (I : Grid) (S d : ℕ) → n ≤ d → front I S d ≡ 0
  front-new I S d l = rw (le-ltb d n l)

  stored-grow : (a : Mask) (I J : Grid) (bs : List ℕ) → ((S d : ℕ) → a S d ≡ false) → Stored n T own a I bs
      → ((S d : ℕ) → S < T → d < n → J S d ≡ I S d) → ((S d : ℕ) → S < T → n ≤ d → d < n + m → J S d ≡ 0) → Stored (n + m) T own' a J bs
  unfolding Agree Even Holds
  stored-grow a I J bs whole x same zero =
      record {
        grid = front x.grid;
        agree = λ S d lS ld u. agrees S d lS ld (dec_lt d n);
        even = λ S lS. sum-extend n m (front x.grid S) (λ d l. front-new x.grid S d l) ∙ sum-ext n (front x.grid S) (x.grid S) (λ d l. front-old x.grid S d l) ∙ x.even S lS;
        holds = λ S d lS ld. fits S d lS (dec_lt d n);
      }
    where
      agrees : (S d : ℕ) → S < T → d < n + m → Dec (d < n) → J S d ≡ front x.grid S d
      agrees S d lS ld (yes l) = same S d lS l ∙ x.agree S d lS l (whole S d) ∙ sym (front-old x.grid S d l)
      agrees S d lS ld (no l) = zero S d lS (omega arith) ld ∙ sym (front-new x.grid S d (omega arith))

      fits : (S d : ℕ) → S < T → Dec (d < n) → Fits bs (own' S d) (front x.grid S d)
      fits S d lS (yes l) = fits-of bs (own' S d) (own S d) (front x.grid S d) (x.grid S d) (old S d l) (front-old x.grid S d l) (x.holds S d lS l)
      fits S d lS (no l) = fits-of bs (own' S d) Blank (front x.grid S d) 0 (blank S d (omega arith)) (front-new x.grid S d (omega arith)) refl

-- ---- on the images

module _ (r : Record) (left img room : List ℕ) (bs : List (List ℕ)) (h : Holding r left bs) (m : ℕ) (lends : length img ≡ size_with r m → Kept r left img) (c k : ℕ) where
  abbrev g : Geometry
  g = geometry r

  abbrev g' : Geometry
  g' = geometry (grown_by r m)

  good' : new_good m ≡ true → GoodArray g'
  good' e =
      let (lo, hi) = within-true 1 m 16 e in
      record {
        disks = record { n_low = h.limits.array.disks.n_low; n_high = h.limits.array.disks.n_high; m_high = hi };
        stripes_low = h.limits.array.stripes_low;
        stripes_high = h.limits.array.stripes_high;
        moves = omega arith;
      }

  none_done : r.new ≡ 0 → r.moves ≡ 0
  none_done z = let le : r.moves ≤ total_of g = h.limits.array.moves in omega (arith, total-none r.old r.new r.stripes z)

  count-old : r.new ≡ 0 → length bs ≡ old_blocks g
  unfolding capacity
  count-old z = h.count ∙ omega (arith, ap (λ (x : ℕ). open_stripes g * x) z)

  -- none open at first, then as many as the numbers say
  opened-first : (bytes : List ℕ) → length bytes ≡ old_blocks g' → (S d : ℕ) → Opened (length bytes) (owned_with 0 (home g') g' S d) ((layout g').owner S d)
  opened-first bytes e S d =
      let q : old_blocks g' + 0 * m ≡ length bytes = omega arith in
      rw (is-owner (home g') g' S d) (subst (λ (x : ℕ). Opened x (owned_with 0 (home g') g' S d) (owned_with (open_stripes g') (home g') g' S d)) q (opened (home g') g' 0 (open_stripes g') (omega arith) S d))

  enough : r.new ≡ 0 → length bs ≤ capacity g'
  unfolding capacity
  enough z = omega (arith, count-old z)

  pub grows : word (later_rows (grow m) r c (length img) k) ≡ 0
      → Leaves (act (on (grow m) img room) r) done (grown_by r m) (with-new g' r.block bs)
  unfolding effect Agree
  grows z =
      let q = passed.grows r c (length img) k m z in
      let hw : r.health ≡ Whole = q.all_in in
      let nl : is_lost r.health ≡ false = rw hw refl in
      let mz : r.new ≡ 0 = q.first in
      let tz : r.moves ≡ 0 = none_done mz in
      let long : length img ≡ size_with r m = q.long in
      let N-is : disks_of r ≡ r.old = omega arith in
      let good : GoodArray g' = good' q.fits in
      let x : Record = grown_by r m in
      let ps : List Store = zero_disks r.block r.stripes r.old m in
      let w : Within (r.old + m) r.block r.stripes ps = within-zero r.block r.stripes r.old (r.old + m) m (omega arith) in
      let J : List ℕ = stored r.block r.stripes ps img in
      let in_all : (S d : ℕ) → absent r.health S d ≡ false = λ S d. rw hw refl in
      let held : (j : ℕ) → j < r.block → Stored (r.old + m) r.stripes (layout g').owner (absent r.health) (cell_in r J j) (bytes_at j (with-new g' r.block bs)) =
      λ j lj.
      let s₁ : Stored (disks_of r) r.stripes (layout g).owner (absent r.health) (cell_in r img j) (bytes_at j bs) =
      relent (disks_of r) r.stripes (layout g).owner (absent r.health) (cell_in r left j) (cell_in r img j) (bytes_at j bs) (h.stored nl j lj) (λ S d lS ld u. lends long S d j lS ld lj u) in
      let s₂ : Stored r.old r.stripes (layout g).owner (absent r.health) (cell_in r img j) (bytes_at j bs) =
      subst (λ (y : ℕ). Stored y r.stripes (layout g).owner (absent r.health) (cell_in r img j) (bytes_at j bs)) N-is s₁ in
      let s₃ : Stored (r.old + m) r.stripes (owned_with 0 (home g') g') (absent r.health) (cell_in r J j) (bytes_at j bs) =
      stored-grow r.old m r.stripes (layout g).owner (owned_with 0 (home g') g') (λ S d l. starts (home g') g' good refl S 0 d l ∙ sym (is-owner (home g) g S d ∙ starts (home g) g h.limits.array tz S (open_stripes g) d l))
      (λ S d l. starts-blank (home g') g' good refl S d l) (absent r.health) (cell_in r img j) (cell_in r J j) (bytes_at j bs) in_all s₂
      (λ S d lS ld. cell-stored r.block r.stripes (r.old + m) ps img w long j S d lj lS ∙ column-below r.block r.stripes r.old j m (cell_in r img j) S d lS ld)
      (λ S d lS lo hi. cell-stored r.block r.stripes (r.old + m) ps img w long j S d lj lS ∙ column-zero r.block r.stripes r.old j m (cell_in r img j) S d lS lo hi) in
      rw (bytes-with-new g' r.block bs j)
      (stored-opened (r.old + m) r.stripes (owned_with 0 (home g') g') (layout g').owner (absent r.health) (cell_in r J j) (bytes_at j bs) (capacity g' - length bs)
      (λ S d. opened-first (bytes_at j bs) (length-map bs (λ (y : List ℕ). get_or y j 0) ∙ count-old mz) S d) s₃) in
      record {
        answer = refl;
        state = recorded-last ps x r;
        holding =
            record {
              limits = record { array = good; block_low = h.limits.block_low; block_high = h.limits.block_high; health = rw hw tt };
              long = rw (stored_last r.block r.stripes ps x img) (length-stored r.block r.stripes ps img ∙ long);
              count = count-with-new g' r.block bs (enough mz);
              whole = whole-with-new g' r.block bs h.whole;
              stored = λ nl' j lj. rw (stored_last r.block r.stripes ps x img) (held j lj);
            };
      }
