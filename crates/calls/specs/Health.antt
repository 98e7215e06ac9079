-- What the health of an array means for a disk, and what becomes of it. Where it is lost every disk counts as out: a call that would ask is
-- refused before that, by 2.
use Rattle.std.specs.Prelude.{ℕ, Bool, true, false, cond, ◌&&◌, eqb, leb}
use Rattle.state.specs.declared.types.Health.TheVariants.{Whole, Out, Lost, Rebuilding}
use Rattle.state.specs.declared.types.Health.{Health}

abbrev pub is_lost : Health → Bool
is_lost Whole = false
is_lost (Out o) = false
is_lost Lost = true
is_lost (Rebuilding o c) = false

-- a disk is out, or being rebuilt
abbrev pub is_degraded : Health → Bool
is_degraded Whole = false
is_degraded (Out o) = true
is_degraded Lost = true
is_degraded (Rebuilding o c) = true

-- disk d is "out and not rebuilding"
abbrev pub is_out : Health → ℕ → Bool
is_out Whole d = false
is_out (Out o) d = eqb d o
is_out Lost d = true
is_out (Rebuilding o c) d = false

abbrev pub is_rebuilding : Health → Bool
is_rebuilding Whole = false
is_rebuilding (Out o) = false
is_rebuilding Lost = false
is_rebuilding (Rebuilding o c) = true

-- *Absent*: disk d counts as out in stripe S. Every read and view goes by this, and so do a write's stores and what may be lent. Document
-- 02, (d): "Stripes below the count use the disk as in service, others count it out".
abbrev pub absent : Health → ℕ → ℕ → Bool
absent Whole S d = false
absent (Out o) S d = eqb d o
absent Lost S d = true
absent (Rebuilding o c) S d = eqb d o && leb c S

-- "**Out** (d): whole becomes out; out with another disk becomes lost"; while a disk is rebuilding: "Another disk out means lost; the same
-- disk out means out again."
abbrev pub after_out : Health → ℕ → Health
after_out Whole d = Out d
after_out (Out o) d = Lost
after_out Lost d = Lost
after_out (Rebuilding o c) d = cond (eqb d o) (Out d) Lost

-- a rebuild of disk d that has come to stripe c of T: "At T health is whole."
abbrev pub rebuilt_to : ℕ → ℕ → ℕ → Health
rebuilt_to T d c = cond (eqb c T) Whole (Rebuilding d c)
