-- What a call has passed that the table lets through: a good record, if it looks at it, and then call by call. Assumes nothing.
use Prim.Native.Nat.{ℕ, ◌*◌, ◌<◌}
use mathlib.Core.Path.{◌≡◌}
use mathlib.Core.Bool.{Bool, true, false, cond, not, ◌||◌}
use mathlib.Core.List.{List}
use lib.Dec.{eqb, ltb}
use lib.ListN.{length}
use borrow.Author.Tests.{not-false}
use Rattle.state.specs.declared.types.Health.TheVariants.{Whole, Out, Rebuilding}
use Rattle.state.specs.declared.types.Record.{Record}
use Rattle.layout.specs.Layout.{capacity}
use Rattle.state.specs.Good.{geometry, new_good, good, GoodRecord}
use Rattle.state.specs.Bytes.{record_length, decode, good_bytes}
use Rattle.state.proofs.Laws.Good.{limits}
use Rattle.calls.specs.Call.{Call, Fed, format, read, view, write, grow, advance, out, begin, continue, locate, owner, sweep}
use Rattle.calls.specs.Health.{is_lost, is_degraded, is_out, is_rebuilding}
use Rattle.calls.specs.Images.{disks_of, size, size_with}
use Rattle.calls.specs.Table.{idle, formable, looks, terms, later_rows, word, table, refusal, rows_bytes, refusal_bytes}
use Rattle.conditions.proofs.Tests.{equal, below, neither}
use Rattle.calls.proofs.Laws.Health.{all_in, which, rebuilt}
use Rattle.calls.proofs.Laws.Table.{passes}

pub record Formats (n B T len : ℕ) : Type 0 where
  pub fits : formable n B T ≡ true
  pub long : len ≡ n * (T * B)

-- read, view and write, with a block or data of room bytes
pub record Reaches (r : Record) (c len b room : ℕ) : Type 0 where
  pub here : is_lost r.health ≡ false
  pub long : len ≡ size r
  pub block-lt : b < c
  pub whole : room ≡ r.block

pub record Grows (r : Record) (len m : ℕ) : Type 0 where
  pub all_in : r.health ≡ Whole
  pub first : r.new ≡ 0
  pub fits : new_good m ≡ true
  pub long : len ≡ size_with r m

pub record Moves (r : Record) (len : ℕ) : Type 0 where
  pub all_in : r.health ≡ Whole
  pub busy : idle (geometry r) ≡ false
  pub long : len ≡ size r

pub record Falls (r : Record) (d : ℕ) : Type 0 where
  pub here : is_lost r.health ≡ false
  pub disk_lt : d < disks_of r

pub record Begins (r : Record) (len d : ℕ) : Type 0 where
  pub is-out : r.health ≡ Out d
  pub long : len ≡ size r

pub record Continues (r : Record) (len : ℕ) : Type 0 where
  pub disk : ℕ
  pub done : ℕ
  pub health : r.health ≡ Rebuilding disk done
  pub long : len ≡ size r

pub record Owns (r : Record) (S d : ℕ) : Type 0 where
  pub stripe_lt : S < r.stripes
  pub disk_lt : d < disks_of r

pub record SweepsAll (r : Record) (len : ℕ) : Type 0 where
  pub all_in : r.health ≡ Whole
  pub long : len ≡ size r

-- ---- row 1, of every call

-- a call that is let through passes the rows after it
pub passed_on : (x : Call) (short bad : Bool) (r : Record) (c len room : ℕ) → word (table x short bad r c len room) ≡ 0 → word (later_rows x r c len room) ≡ 0
unfolding table
passed_on x short bad r c len room z = (passes (cond (looks x) (short || bad) short) 0 (word (later_rows x r c len room)) z).1

pub passed : (r : Record) (c : ℕ) (e : Fed) → refusal r c e ≡ 0 → word (later_rows e.call r c e.images e.room) ≡ 0
unfolding refusal
passed r c e z = passed_on e.call false (not (good r)) r c e.images e.room z

pub passed-bytes : (b : List ℕ) (e : Fed) → refusal_bytes b e ≡ 0 → word (later_rows e.call (decode b) (capacity (geometry (decode b))) e.images e.room) ≡ 0
unfolding refusal_bytes rows_bytes
passed-bytes b e z =
    let r : Record = decode b in
    passed_on e.call (not (eqb (length b) record_length)) (not (good_bytes b)) r (capacity (geometry r)) e.images e.room z

-- if the call looks at the record, that is good
looked : (x : Call) (short bad : Bool) (r : Record) (c len room : ℕ) → looks x ≡ true → word (table x short bad r c len room) ≡ 0 → bad ≡ false
unfolding table
looked x short bad r c len room l z =
    let p = (passes (cond (looks x) (short || bad) short) 0 (word (later_rows x r c len room)) z).0 in
    (neither short bad (rw l at p)).1

was-good : (r : Record) (c : ℕ) (e : Fed) → looks e.call ≡ true → refusal r c e ≡ 0 → good r ≡ true
unfolding refusal
was-good r c e l z = not-false _ (looked e.call false (not (good r)) r c e.images e.room l z)

pub in-limits : (r : Record) (c : ℕ) (e : Fed) → looks e.call ≡ true → refusal r c e ≡ 0 → GoodRecord r
in-limits r c e l z = limits r (was-good r c e l z)

-- ---- the rows after it

module _ (r : Record) (c len room : ℕ) where
  pub formats : (n B T : ℕ) → word (later_rows (format n B T) r c len room) ≡ 0 → Formats n B T len
  unfolding later_rows terms
  formats n B T z =
      let (p₆, z₆) = passes (not (formable n B T)) 5 _ z in
      let (p₇, z₇) = passes (not (eqb len (n * (T * B)))) 6 _ z₆ in
      record { fits = not-false _ p₆; long = equal len (n * (T * B)) p₇ }

  pub reads : (b : ℕ) → word (later_rows (read b) r c len room) ≡ 0 → Reaches r c len b room
  unfolding later_rows terms
  reads b z =
      let (p₂, z₂) = passes (is_lost r.health) 1 _ z in
      let (p₇, z₇) = passes (not (eqb len (size r))) 6 _ z₂ in
      let (p₈, z₈) = passes (not (ltb b c)) 7 _ z₇ in
      let (p₉, z₉) = passes (not (eqb room r.block)) 8 _ z₈ in
      record { here = p₂; long = equal len (size r) p₇; block-lt = below b c p₈; whole = equal room r.block p₉ }

  pub views : (b : ℕ) → word (later_rows (view b) r c len room) ≡ 0 → Reaches r c len b room
  unfolding later_rows terms
  views b z = reads b z

  pub grows : (m : ℕ) → word (later_rows (grow m) r c len room) ≡ 0 → Grows r len m
  unfolding later_rows terms
  grows m z =
      let (p₂, z₂) = passes (is_lost r.health) 1 _ z in
      let (p₃, z₃) = passes (is_degraded r.health) 2 _ z₂ in
      let (p₄, z₄) = passes (not (eqb r.new 0)) 3 _ z₃ in
      let (p₆, z₆) = passes (not (new_good m)) 5 _ z₄ in
      let (p₇, z₇) = passes (not (eqb len (size_with r m))) 6 _ z₆ in
      record { all_in = all_in r.health p₃; first = equal r.new 0 p₄; fits = not-false _ p₆; long = equal len (size_with r m) p₇ }

  pub moves : (k : ℕ) → word (later_rows (advance k) r c len room) ≡ 0 → Moves r len
  unfolding later_rows terms
  moves k z =
      let (p₂, z₂) = passes (is_lost r.health) 1 _ z in
      let (p₃, z₃) = passes (is_degraded r.health) 2 _ z₂ in
      let (p₅, z₅) = passes (idle (geometry r)) 4 _ z₃ in
      let (p₇, z₇) = passes (not (eqb len (size r))) 6 _ z₅ in
      record { all_in = all_in r.health p₃; busy = p₅; long = equal len (size r) p₇ }

  pub falls : (d : ℕ) → word (later_rows (out d) r c len room) ≡ 0 → Falls r d
  unfolding later_rows terms
  falls d z =
      let (p₂, z₂) = passes (is_lost r.health) 1 _ z in
      let (p₁₀, z₁₀) = passes (not (ltb d (disks_of r)) || is_out r.health d) 9 _ z₂ in
      let (l, o) = neither (not (ltb d (disks_of r))) (is_out r.health d) p₁₀ in
      record { here = p₂; disk_lt = below d (disks_of r) l }

  pub begins : (d : ℕ) → word (later_rows (begin d) r c len room) ≡ 0 → Begins r len d
  unfolding later_rows terms
  begins d z =
      let (p₂, z₂) = passes (is_lost r.health) 1 _ z in
      let (p₇, z₇) = passes (not (eqb len (size r))) 6 _ z₂ in
      let (p₁₀, z₁₀) = passes (not (is_out r.health d)) 9 _ z₇ in
      record { is-out = which r.health d p₂ (not-false _ p₁₀); long = equal len (size r) p₇ }

  pub continues : (k : ℕ) → word (later_rows (continue k) r c len room) ≡ 0 → Continues r len
  unfolding later_rows terms
  continues k z =
      let (p₂, z₂) = passes (is_lost r.health) 1 _ z in
      let (p₇, z₇) = passes (not (eqb len (size r))) 6 _ z₂ in
      let (p₁₀, z₁₀) = passes (not (is_rebuilding r.health)) 9 _ z₇ in
      let (o, q, h) = rebuilt r.health (not-false _ p₁₀) in
      record { disk = o; done = q; health = h; long = equal len (size r) p₇ }

  pub locates : (b : ℕ) → word (later_rows (locate b) r c len room) ≡ 0 → b < c
  unfolding later_rows terms
  locates b z = let (p₈, z₈) = passes (not (ltb b c)) 7 _ z in below b c p₈

  pub owns : (S d : ℕ) → word (later_rows (owner S d) r c len room) ≡ 0 → Owns r S d
  unfolding later_rows terms
  owns S d z =
      let (p₈, z₈) = passes (not (ltb S r.stripes)) 7 _ z in
      let (p₁₀, z₁₀) = passes (not (ltb d (disks_of r))) 9 _ z₈ in
      record { stripe_lt = below S r.stripes p₈; disk_lt = below d (disks_of r) p₁₀ }

  pub sweeps : word (later_rows sweep r c len room) ≡ 0 → SweepsAll r len
  unfolding later_rows terms
  sweeps z =
      let (p₂, z₂) = passes (is_lost r.health) 1 _ z in
      let (p₃, z₃) = passes (is_degraded r.health) 2 _ z₂ in
      let (p₇, z₇) = passes (not (eqb len (size r))) 6 _ z₃ in
      record { all_in = all_in r.health p₃; long = equal len (size r) p₇ }

pub writes : (r : Record) (c len room b : ℕ) (v : List ℕ) → word (later_rows (write b v) r c len room) ≡ 0 → Reaches r c len b (length v)
unfolding later_rows terms
writes r c len room b v z = reads r c len (length v) b z
