-- The table of refusals of documents 01 and 02 once more, as facts in bare numbers: the number that each call is given, whatever the
-- record, the capacity and the lengths lent are. No condition of Table is named in a row, so that a mistake in one cannot hide, not even
-- behind another. (`GoodRecord` is facts too, and `geometry` the record's own numbers: `GoodIs` of crate state.)
-- The statement is `Numbered`; `numbered` of proofs/Numbered.antt proves it.
use Rattle.std.specs.Prelude.{ℕ, ◌+◌, ◌*◌, ◌≤◌, ◌<◌, ◌≡◌, true, ◌⊎◌, ◌↔◌, ◌≢◌, List, [], ◌∷◌, map, length}
use Rattle.blocks.specs.Block.{AreBytes}
use Rattle.layout.specs.declared.Geometry.{Geometry}
use Rattle.layout.specs.Layout.{total_of, capacity}
use Rattle.state.specs.declared.types.Health.TheVariants.{Out, Lost, Rebuilding}
use Rattle.state.specs.declared.types.Health.{Health}
use Rattle.state.specs.declared.types.Record.{Record}
use Rattle.state.specs.Good.{geometry, GoodRecord}
use Rattle.state.specs.Bytes.{encode}
use Rattle.calls.specs.Call.{Call, column, same_call, format, read, view, write, grow, advance, out, begin, continue}
use Rattle.calls.specs.Call.{status, locate, owner, sweep, feed}
use Rattle.calls.specs.Table.{idle, refusal, refusal_of, refusal_bytes}

-- a number, and what it is given for
abbrev pub Reason : Type 1
Reason = ℕ × Type 0

-- "A number is given if its condition holds and no lower one's does, and else never. 0 is done."
unfoldable pub Gives : ℕ → List Reason → Type 0
Gives k [] = k ≡ 0
Gives k (x ∷ higher) = (x.1 × (k ≡ x.0)) ⊎ ((x.1 → ⊥) × Gives k higher)

-- x is not between the two
abbrev pub Outside : ℕ → ℕ → ℕ → Type 0
Outside low x high = (x < low) ⊎ (high < x)

-- images are not N × T × B bytes long
abbrev pub NotLong : Record → ℕ → ℕ → Type 0
NotLong r N len = len ≢ N * (r.stripes * r.block)

-- a disk is being rebuilt
abbrev pub Rebuilds : Health → Type 0
Rebuilds h = (o : ℕ) × (c : ℕ) × (h ≡ Rebuilding o c)

-- how the rows of many calls begin: 1, "not good"; 2, "health lost"; 3, "a disk out", "Grow and advance still see degraded",
-- and sweep "also while rebuilding"
abbrev pub bad : Record → Reason
bad r = (1, (GoodRecord r → ⊥))

abbrev pub lost : Record → Reason
lost r = (2, r.health ≡ Lost)

abbrev pub degraded : Record → Reason
degraded r = (3, ((o : ℕ) × (r.health ≡ Out o)) ⊎ Rebuilds r.health)

-- read, view and write, which have the same rows
abbrev pub reached : Record → ℕ → ℕ → ℕ → ℕ → List Reason
reached r c b len room = bad r ∷ lost r ∷ (7, NotLong r (r.old + r.new) len) ∷ (8, c ≤ b) ∷ (9, room ≢ r.block) ∷ []

-- format's, but for row 1: 6, "n, B or T outside limits" ("B, the block length, is 1 to 4,096. T, the stripes, is 1 to 1,048,576. n, the
-- old disks, is 3 to 16"); 7
abbrev pub formed : ℕ → ℕ → ℕ → ℕ → List Reason
formed n B T len = (6, Outside 3 n 16 ⊎ (Outside 1 B 4096 ⊎ Outside 1 T 1048576)) ∷ (7, len ≢ n * (T * B)) ∷ []

-- c is the capacity, len the length of the images lent, room that of the block or scratch
pub record Numbered : Type 0 where
  -- a record that is not good is no matter
  pub of_format : (r : Record) (c len room n B T : ℕ) → Gives (refusal r c (feed (format n B T) len room)) (formed n B T len)
  -- 8, "block number at or above capacity"; 9, "lent block or scratch not B bytes"; a write's block is its data
  pub of_read : (r : Record) (c len room b : ℕ) → Gives (refusal r c (feed (read b) len room)) (reached r c b len room)
  pub of_view : (r : Record) (c len room b : ℕ) → Gives (refusal r c (feed (view b) len room)) (reached r c b len room)
  pub of_write : (r : Record) (c len room b : ℕ) (v : List ℕ)
      → Gives (refusal r c (feed (write b v) len room)) (reached r c b len (length v))
  -- 4, "m is not 0"; 6, "m outside" ("m, the new ones, 1 to 16"), and T is no matter; 7, "grow: new N"
  pub of-grow : (r : Record) (c len room m : ℕ) → Gives (refusal r c (feed (grow m) len room))
      (bad r ∷ lost r ∷ degraded r ∷ (4, r.new ≢ 0) ∷ (6, Outside 1 m 16) ∷ (7, NotLong r (r.old + m) len) ∷ [])
  -- 5, "m = 0 or t is the total"; k is no matter
  pub of-advance : (r : Record) (c len room k : ℕ) → Gives (refusal r c (feed (advance k) len room))
      (bad r ∷ lost r ∷ degraded r ∷ (5, (r.new ≡ 0) ⊎ (r.moves ≡ total_of (geometry r))) ∷ (7, NotLong r (r.old + r.new) len) ∷ [])
  -- which is what an advance stops at, too
  pub idle_is : (g : Geometry) → (idle g ≡ true) ↔ ((g.new ≡ 0) ⊎ (g.moves ≡ total_of g))
  -- 10, "d not below N, or out already": a disk that is being rebuilt is not
  pub of-out : (r : Record) (c len room d : ℕ) → Gives (refusal r c (feed (out d) len room))
      (bad r ∷ lost r ∷ (10, (r.old + r.new ≤ d) ⊎ (r.health ≡ Out d)) ∷ [])
  -- 10, "unless d is out and not rebuilding"
  pub of-begin : (r : Record) (c len room d : ℕ) → Gives (refusal r c (feed (begin d) len room))
      (bad r ∷ lost r ∷ (7, NotLong r (r.old + r.new) len) ∷ (10, r.health ≢ Out d) ∷ [])
  -- 10, "unless rebuilding"; k is no matter
  pub of-continue : (r : Record) (c len room k : ℕ) → Gives (refusal r c (feed (continue k) len room))
      (bad r ∷ lost r ∷ (7, NotLong r (r.old + r.new) len) ∷ (10, ¬ Rebuilds r.health) ∷ [])
  -- "1, 2, 3, 7 as for advance; 3 also while rebuilding"
  pub of-sweep : (r : Record) (c len room : ℕ) → Gives (refusal r c (feed sweep len room))
      (bad r ∷ lost r ∷ degraded r ∷ (7, NotLong r (r.old + r.new) len) ∷ [])
  pub of-status : (r : Record) (c len room : ℕ) → Gives (refusal r c (feed status len room)) (bad r ∷ [])
  -- 8, "block number at or above capacity"
  pub of-locate : (r : Record) (c len room b : ℕ) → Gives (refusal r c (feed (locate b) len room)) (bad r ∷ (8, c ≤ b) ∷ [])
  -- 8, "S not below T"; 10, "d not below N"
  pub of_owner : (r : Record) (c len room S d : ℕ) → Gives (refusal r c (feed (owner S d) len room))
      (bad r ∷ (8, r.stripes ≤ S) ∷ (10, r.old + r.new ≤ d) ∷ [])
  -- On a record's bytes, where 1 is "not .. bytes long, all calls; not good, all but format": format looks at their length alone ..
  pub format_on_bytes : (b : List ℕ) (len room n B T : ℕ)
      → Gives (refusal_bytes b (feed (format n B T) len room)) ((1, length b ≢ 20) ∷ formed n B T len)
  -- .. and every other call (format's column is 0) is given 1 on bytes that are no good record's, and on a record's own what it is given
  -- on the record
  pub no_record : (b : List ℕ) (x : Call) (len room : ℕ) → AreBytes b → column x ≢ 0 → ((r : Record) → GoodRecord r → encode r ≢ b)
      → refusal_bytes b (feed x len room) ≡ 1
  pub own_bytes : (r : Record) (x : Call) (len room : ℕ)
      → refusal_bytes (encode r) (feed x len room) ≡ refusal r (capacity (geometry r)) (feed x len room)
  -- by the record's own capacity
  pub own_capacity : (r : Record) (x : Call) (len room : ℕ)
      → refusal_of r (feed x len room) ≡ refusal r (capacity (geometry r)) (feed x len room)
  -- which call it is, whatever it is given
  pub columns : (n B T b m k d S : ℕ) (v : List ℕ) → map column
      (format n B T ∷ read b ∷ view b ∷ write b v ∷ grow m ∷ advance k ∷ out d ∷ begin d ∷ continue k ∷ status ∷ locate b ∷ owner S d
      ∷ sweep ∷ [])
      ≡ 0 ∷ 1 ∷ 2 ∷ 3 ∷ 4 ∷ 5 ∷ 6 ∷ 7 ∷ 8 ∷ 9 ∷ 10 ∷ 11 ∷ 12 ∷ []
  pub same_column : (x y : Call) → (same_call x y ≡ true) ↔ (column x ≡ column y)
