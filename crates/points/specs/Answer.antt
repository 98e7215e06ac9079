-- What a call of either way answers, and what it leaves of the slice that it writes. Document 02, (e): "Each way goes from one lent slice
-- into another."
use Rattle.std.specs.Prelude.{ℕ, ◌%◌, Bool, cond, not, ◌||◌, List, eqb, length}

-- "an odd length, or two lengths that differ"
unfoldable pub refused : List ℕ → List ℕ → Bool
refused source target = not (eqb (length source % 2) 0) || not (eqb (length source) (length target))

-- "(11, after 10 ..)"
abbrev pub answer : List ℕ → List ℕ → ℕ
answer source target = cond (refused source target) 11 0

-- the target, filled with what `way` makes of the source, or as it was
abbrev pub filled : (List ℕ → List ℕ) → List ℕ → List ℕ → List ℕ
filled way source target = cond (refused source target) target (way source)
