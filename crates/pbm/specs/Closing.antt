-- The bytes that a call leaves of a record's: as they were if it is refused, and else those of the record that it leaves.
use Rattle.std.specs.Prelude.{ℕ, List, Result, Ok, Err}
use Rattle.state.specs.declared.types.Record.{Record}
use Rattle.state.specs.Bytes.{encode}
use Rattle.refusals.specs.declared.types.Progress.{Progress}
use Rattle.refusals.specs.declared.types.Refusal.{Refusal}

abbrev pub bytes_left : Result Record Refusal → List ℕ → List ℕ
bytes_left (Ok r) b = encode r
bytes_left (Err e) b = b

abbrev pub bytes_counted : Result Progress Refusal → List ℕ → List ℕ
bytes_counted (Ok x) b = encode x.rec
bytes_counted (Err e) b = b
