-- Which records are good. Document 01, Record: "A record is good exactly if each field is in its limits, bytes 6–7 zero
-- included, the out disk is below N, t is at most the total of moves, .. with m = 0, t = 0." (What that asks of bytes which no field takes
-- is `plain` of Bytes. Document 02, (a): "The divisor condition leaves .. the good record", so T is any number in its limits. Document 02,
-- (d): of a rebuild the disk is "below N", and the count of stripes "below T".)
use Rattle.std.specs.Prelude.{ℕ, ◌+◌, ◌≤◌, ◌<◌, Bool, true, ◌&&◌, ◌||◌, leb, ltb, eqb}
use Rattle.std.specs.Coded.{×_prop, Unit-prop, le_prop}
use Rattle.layout.specs.declared.Geometry.{Geometry}
use Rattle.layout.specs.Layout.{total_of}
use Rattle.layout.specs.Limits.{GoodArray}
use Rattle.state.specs.declared.types.Health.TheVariants.{Whole, Out, Lost, Rebuilding}
use Rattle.state.specs.declared.types.Health.{Health}
use Rattle.state.specs.declared.types.Record.{Record}

-- the array that a record speaks of
abbrev pub geometry : Record → Geometry
geometry r = record { old = r.old; new = r.new; stripes = r.stripes; moves = r.moves }

-- ---- the limits, each once; format and grow are held to them too

abbrev pub within : ℕ → ℕ → ℕ → Bool
within low x high = leb low x && leb x high

-- "n, the old disks, is 3 to 16"
abbrev pub old_good : ℕ → Bool
old_good n = within 3 n 16

-- "m, the new ones, 1 to 16"
abbrev pub new_good : ℕ → Bool
new_good m = within 1 m 16

-- "B, the block length, is 1 to 4,096"
abbrev pub block_good : ℕ → Bool
block_good B = within 1 B 4096

-- "T, the stripes, is 1 to 1,048,576"
abbrev pub stripes_good : ℕ → Bool
stripes_good T = within 1 T 1048576

-- a record's m is as many as may be added, or "0 before growth"
abbrev pub added_good : ℕ → Bool
added_good m = eqb m 0 || new_good m

-- "t is at most the total of moves" ("with m = 0, t = 0": the total is 0 then)
unfoldable pub moves_good : Geometry → Bool
moves_good g = added_good g.new && leb g.moves (total_of g)

-- "the out disk is below N"; of a rebuild too, and its count "below T"
abbrev pub health_good : ℕ → ℕ → Health → Bool
health_good N T Whole = true
health_good N T (Out d) = ltb d N
health_good N T Lost = true
health_good N T (Rebuilding d c) = ltb d N && ltb c T

unfoldable pub good : Record → Bool
good r =
    old_good r.old && (block_good r.block && (stripes_good r.stripes
    && (moves_good (geometry r) && health_good (r.old + r.new) r.stripes r.health)))

-- ---- the same as facts (`GoodIs.exactly` of Theorem)

abbrev pub HealthWithin : ℕ → ℕ → Health → Type 0
HealthWithin N T Whole = Unit
HealthWithin N T (Out d) = d < N
HealthWithin N T Lost = Unit
HealthWithin N T (Rebuilding d c) = (d < N) × (c < T)

-- there is one proof of it at most, so that `Array` may keep one
pub HealthWithin-prop : (N T : ℕ) (h : Health) → IsProp (HealthWithin N T h)
HealthWithin-prop N T Whole = Unit-prop
HealthWithin-prop N T (Out d) = le_prop
HealthWithin-prop N T Lost = Unit-prop
HealthWithin-prop N T (Rebuilding d c) = ×_prop le_prop le_prop

pub record GoodRecord (r : Record) : Type 0 where
  pub array : GoodArray (geometry r)
  pub block_low : 1 ≤ r.block
  pub block_high : r.block ≤ 4096
  pub health : HealthWithin (r.old + r.new) r.stripes r.health
