-- Lines of moves: their columns are short. Assumes nothing.
use Prim.Native.Nat.{ℕ, zero, suc, ◌+◌, ◌*◌, ◌≤◌, ◌<◌, zero-le}
use mathlib.Core.Path.{◌≡◌, refl, sym, ap, subst⁻¹, ◌∙◌}
use mathlib.Core.List.{List, [], ◌∷◌, ◌++◌, append-nil, append_assoc}
use native.Mathlib.Numerals.{add-one}
use native.Mathlib.Omega.{arith}
use lib.ListN.{length, length-append}
use Rattle.layout.specs.declared.Move.{Move}
use Rattle.layout.specs.Moves.{move_within, move_to, move_of}
use Rattle.layout.specs.Limits.{Disks}
use Rattle.zone_moves.specs.Listing.{column, move_line, lines_of, indices, Listed, Stored}
use Rattle.zone_moves.proofs.Laws.Storing.{stored-nil, stored-as, stored-append}
use Rattle.zone_moves.proofs.Laws.Digits.{length-small, length_most, length-column}
use Rattle.layout.proofs.Laws.Basics.{times}
use Rattle.layout.proofs.Laws.Lag.{to_below, from-below}
use Rattle.layout.proofs.Laws.Zones.{zone-in}

-- the zones of a growth have at most 4,096 moves together
pub few : {n m k : ℕ} → Listed n m k → k < 4096
few {n} {m} l = omega (arith, l.index, times 256 16 (times {a = n} {b = m} 16 16 l.disks.n_high l.disks.m_high) l.disks.n_high)

within-small : (n m k : ℕ) → move_to n m k < n + m → move_within n m k < n + m
unfolding move_within
within-small n m k h = omega arith

-- the columns of move k, which is r
pub record Columns (k : ℕ) (r : Move) : Type 0 where
  pub index : k < 10000
  pub zone : r.zone < 100
  pub within : r.within < 100
  pub from : r.from < 100
  pub to : r.to < 100

pub columns : {n m k : ℕ} {r : Move} → Listed n m k → r ≡ move_of n m k → Columns k r
columns {n} {m} {k} l e =
    let pn : 0 < n = omega (arith, l.disks.n_low) in
    let p = to_below n m pn l.new k in
    let h = l.disks.n_high in
    let g = l.disks.m_high in
    subst⁻¹ (Columns k) e
    (record {
      index = omega (arith, few l);
      zone = omega (arith, zone-in n m pn l.new n k l.index);
      within = omega (arith, within-small n m k p);
      from = omega (arith, from-below n m pn l.new k);
      to = omega (arith, p);
    })

-- how long they are
pub short : (x stop : ℕ) → x < 100 → length (column x stop) ≤ 3
short x stop h = omega (arith, length-column x stop, length-small x h)

pub record Short (k : ℕ) (r : Move) : Type 0 where
  pub index : length (column k 32) ≤ 5
  pub zone : length (column r.zone 32) ≤ 3
  pub within : length (column r.within 32) ≤ 3
  pub from : length (column r.from 32) ≤ 3
  pub to : length (column r.to 10) ≤ 3

pub shorts : {k : ℕ} {r : Move} → Columns k r → Short k r
shorts {k} c =
    record {
      index = omega (arith, length-column k 32, length_most k c.index);
      zone = short _ 32 c.zone;
      within = short _ 32 c.within;
      from = short _ 32 c.from;
      to = short _ 10 c.to;
    }

-- the line of move k, which is r
abbrev pub line_of : ℕ → Move → List ℕ
line_of k r = column k 32 ++ column r.zone 32 ++ column r.within 32 ++ column r.from 32 ++ column r.to 10

pub line-of : (n m k : ℕ) {r : Move} → r ≡ move_of n m k → line_of k r ≡ move_line n m k
unfolding move_line
line-of n m k e = ap (line_of k) e

pub length-line : (n m k : ℕ) → Listed n m k → length (move_line n m k) ≤ 17
length-line n m k l =
    let s : Short k (move_of n m k) = shorts (columns l refl) in
    rw (← line-of n m k refl) (simp length-append (omega arith))

-- five columns stored one after the other are a line
pub line-stored : {out : List ℕ} {at k : ℕ} {r : Move} {a b c d e : List ℕ} {p q t u v : ℕ} → at + 17 ≤ length out → Short k r
    → Stored out at (column k 32) a p → Stored a p (column r.zone 32) b q → Stored b q (column r.within 32) c t → Stored c t (column r.from 32) d u → Stored d u (column r.to 10) e v
    → Stored out at (line_of k r) e v
line-stored room s f g h i j =
    stored-append (simp length-append (omega arith))
    (stored-append (simp length-append (omega arith)) (stored-append (simp length-append (omega arith)) (stored-append (omega arith) f g) h) i)
    j

-- ---- the lines of some moves, and of one move more

lines-append : (n m : ℕ) (a b : List ℕ) → lines_of n m (a ++ b) ≡ lines_of n m a ++ lines_of n m b
unfolding lines_of
lines-append n m [] b = refl
lines-append n m (k ∷ ks) b = ap (λ (t : List ℕ). move_line n m k ++ t) (lines-append n m ks b) ∙ sym (append_assoc (move_line n m k) (lines_of n m ks) (lines_of n m b))

pub lines-suc : (n m first count : ℕ) → lines_of n m (indices first (suc count)) ≡ lines_of n m (indices first count) ++ move_line n m (first + count)
unfolding lines_of indices
lines-suc n m first count =
    lines-append n m (indices first count) ((first + count) ∷ []) ∙ ap (λ (t : List ℕ). lines_of n m (indices first count) ++ t) (append-nil (move_line n m (first + count)))

-- ---- the lines of the first i of some moves

pub record Printed (out : List ℕ) (n m first count : ℕ) (after : List ℕ) (at i : ℕ) : Type 0 where
  pub stored : Stored out 0 (lines_of n m (indices first i)) after at
  pub size : length after ≡ length out
  pub short : at ≤ 17 * i
  pub within : i ≤ count

pub printed-none : {out : List ℕ} {n m first count : ℕ} → Printed out n m first count out 0 0
unfolding lines_of indices
printed-none = record { stored = stored-nil; size = refl; short = zero-le; within = zero-le }

pub printed-more : {out : List ℕ} {n m first count : ℕ} {after : List ℕ} {at i : ℕ} {last : List ℕ} {next : ℕ} → i < count → 17 * count ≤ length out → Listed n m (first + i)
    → Printed out n m first count after at i → Stored after at (move_line n m (first + i)) last next → length last ≡ length after → Printed out n m first count last next (i + 1)
printed-more {out} {n} {m} {first} {count} {after} {at} {i} h room l f g e =
    record {
      stored = rw (add-one i, lines-suc n m first i) (stored-append (omega arith) f.stored g);
      size = e ∙ f.size;
      short = omega (arith, length-line n m (first + i) l);
      within = omega arith;
    }

pub printed-all : {out : List ℕ} {n m first count : ℕ} {after : List ℕ} {at i : ℕ} → Printed out n m first count after at i → count ≤ i → Stored out 0 (lines_of n m (indices first count)) after at
printed-all {n = n} {m} {first} {count} {i = i} f h = let e : i ≡ count = omega arith in stored-as (ap (λ (c : ℕ). lines_of n m (indices first c)) e) f.stored

-- a zone's lines are at most 17 bytes each
pub length-lines : (n m first count : ℕ) → Disks n m → 0 < m → first + count ≤ n * m * n → length (lines_of n m (indices first count)) ≤ 17 * count
unfolding lines_of indices
length-lines n m first zero d p h = zero-le
length-lines n m first (suc count) d p h =
    rw (lines-suc n m first count, length-append)
    (omega
    (arith, length-lines n m first count d p (omega arith), length-line n m (first + count) (record { disks = d; new = p; index = omega arith })))
