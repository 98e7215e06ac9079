-- What the functions' enums and structs say in document 01's terms, case by case. "For an answer that is an enum, a definition gives this
-- paper's number and values for each case." (Numbers alone are read off an answer by `number`, `shown` and `beside` of Call.)
use Rattle.std.specs.Prelude.{ℕ, Option, None, Some, Result, Ok, Err}
use Rattle.layout.specs.declared.Role.{Role}
use Rattle.layout.specs.declared.Standing.{Standing}
use Rattle.state.specs.declared.types.Record.{Record}
use Rattle.refusals.specs.declared.types.Refusal.{Refusal}
use Rattle.refusals.specs.declared.types.Refusal.TheVariants as refusal
use Rattle.refusals.specs.declared.types.Progress.{Progress}
use Rattle.refusals.specs.declared.types.Figures.{Figures}
use Rattle.refusals.specs.declared.types.Swept.{Swept}
use Rattle.calls.specs.Call.{Answer, refused, done, made, all_sound, unsound_at, figures, placed, owned}

-- the numbers of the refusal words
abbrev pub refusal_number : Refusal → ℕ
refusal_number refusal.Record = 1
refusal_number refusal.Lost = 2
refusal_number refusal.Degraded = 3
refusal_number refusal.Grown = 4
refusal_number refusal.NothingToMove = 5
refusal_number refusal.Geometry = 6
refusal_number refusal.Images = 7
refusal_number refusal.PastTheEnd = 8
refusal_number refusal.BlockLength = 9
refusal_number refusal.Disk = 10

-- "0 is done": what is accepted has that number
abbrev pub number_of : {T : Type 0} → Result T Refusal → ℕ
number_of (Ok x) = 0
number_of (Err e) = refusal_number e

-- "A refusal returns zeros beside its number": here in place of a count
abbrev pub count_of : Result ℕ Refusal → ℕ
count_of (Ok k) = k
count_of (Err e) = 0

-- format, grow, out and begin: the answer, and the record that is left of r
abbrev pub changed_answer : Result Record Refusal → Answer
changed_answer (Ok x) = done
changed_answer (Err e) = refused (refusal_number e)

abbrev pub changed_record : Record → Result Record Refusal → Record
changed_record r (Ok x) = x
changed_record r (Err e) = r

-- advance and continue
abbrev pub counted_answer : Result Progress Refusal → Answer
counted_answer (Ok x) = made x.made
counted_answer (Err e) = refused (refusal_number e)

abbrev pub counted_record : Record → Result Progress Refusal → Record
counted_record r (Ok x) = x.rec
counted_record r (Err e) = r

-- status, locate and owner
abbrev pub report_answer : Result Figures Refusal → Answer
report_answer (Ok x) = figures x.capacity x.moves x.total x.health
report_answer (Err e) = refused (refusal_number e)

abbrev pub located_answer : Result Standing Refusal → Answer
located_answer (Ok x) = placed x
located_answer (Err e) = refused (refusal_number e)

abbrev pub owned_answer : Result Role Refusal → Answer
owned_answer (Ok o) = owned o
owned_answer (Err e) = refused (refusal_number e)

-- sweep
abbrev pub found_answer : Option ℕ → ℕ → Answer
found_answer None x = all_sound x
found_answer (Some S) x = unsound_at S x

abbrev pub swept_answer : Result Swept Refusal → Answer
swept_answer (Ok x) = found_answer x.unsound x.read
swept_answer (Err e) = refused (refusal_number e)
