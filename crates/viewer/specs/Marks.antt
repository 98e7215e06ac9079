-- What the blocks are written with.
use Rattle.std.specs.Prelude.{ℕ, zero, suc, ◌+◌, List, [], ◌∷◌}
use Rattle.state.specs.declared.types.Record.{Record}
use Rattle.calls.specs.Call.{write, on}
use Rattle.calls.specs.Effect.{called}

-- four bytes that tell block b from every other
abbrev pub mark : ℕ → List ℕ
mark b = b ∷ (b + 50) ∷ (b + 100) ∷ (b + 150) ∷ []

-- the images once the first k blocks are written, in order
unfoldable pub marked : Record → List ℕ → ℕ → List ℕ
marked r images zero = images
marked r images (suc k) = (called (on (write k (mark k)) (marked r images k) []) r).images
