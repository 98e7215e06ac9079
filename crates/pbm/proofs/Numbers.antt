-- Answers of the calls that only tell something, in numbers. Assumes nothing.
use mathlib.Core.Path.{◌≡◌, refl}
use mathlib.Core.Bool.{Bool, true, false, cond}
use mir.Val.{bool_byte}

pub one_if : (t : Bool) → bool_byte t ≡ cond t 1 0
one_if true = refl
one_if false = refl
