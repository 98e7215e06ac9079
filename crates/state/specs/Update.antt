-- The records that calls leave. No other definition makes a record, but `decode`, and the flat list, whose text is its own. A field more is
-- said here, in `decode` and `encode`, in `Updates` of Theorem and in the flat list.
use Rattle.std.specs.Prelude.{ℕ}
use Rattle.state.specs.declared.types.Health.TheVariants.{Whole}
use Rattle.state.specs.declared.types.Health.{Health}
use Rattle.state.specs.declared.types.Record.{Record}

-- "**Format** (n, B, T): .. record whole, m = t = 0"
abbrev pub formatted : ℕ → ℕ → ℕ → Record
formatted n B T = record { old = n; new = 0; health = Whole; block = B; stripes = T; moves = 0 }

-- "**Grow** (m): .. sets m"
abbrev pub grown_by : Record → ℕ → Record
grown_by r m = record { old = r.old; new = m; health = r.health; block = r.block; stripes = r.stripes; moves = 0 }

-- "**Advance** (k): .. t's rise"
abbrev pub with_moves : Record → ℕ → Record
with_moves r t = record { old = r.old; new = r.new; health = r.health; block = r.block; stripes = r.stripes; moves = t }

-- "**Out** (d): whole becomes out; .."; begin: "changes the record only"; continue: "At T health is whole."
abbrev pub with_health : Record → Health → Record
with_health r h = record { old = r.old; new = r.new; health = h; block = r.block; stripes = r.stripes; moves = r.moves }
