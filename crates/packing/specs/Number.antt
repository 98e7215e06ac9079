-- What either way answers, as the number that C is told. Which it is for what is lent says `answer` of crate points.
use Rattle.std.specs.Prelude.{ℕ, Result, Ok, Err}
use Rattle.packing.specs.declared.refusal.BadPoints.{BadPoints}

abbrev pub number_of : Result Unit BadPoints → ℕ
number_of (Ok u) = 0
number_of (Err e) = 11
