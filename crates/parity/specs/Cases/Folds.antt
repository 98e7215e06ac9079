-- A write of two bytes to disk 1, which is out and holds anything, on one stripe of four disks with its parity on disk 3. Values by hand;
-- `folds` of proofs/Cases/Folds.antt computes that the definitions say the same.
use Rattle.std.specs.Prelude.{ℕ, ◌≡◌, List, [], ◌∷◌}
use Rattle.parity.specs.declared.types.Gapped.{Gapped}
use Rattle.parity.specs.Fold.{folded_others, gapped, new_parity, part_folded}

abbrev pub four : Gapped
four = record { disks = 4; stripes = 1; len = 2; stripe = 0; out = 1; parity = 3 }

-- disk 0, what disk 1 holds while it is out, disk 2, and the parity
abbrev pub images : List ℕ
images = 1 ∷ 2 ∷ 99 ∷ 99 ∷ 4 ∷ 8 ∷ 2 ∷ 10 ∷ []

abbrev pub bytes : List ℕ
bytes = 64 ∷ 128 ∷ []

pub record Folds : Type 0 where
  -- 1 xor 4, 2 xor 8
  pub summed : gapped four images ≡ 5 ∷ 10 ∷ []
  pub parity : new_parity four images bytes ≡ 69 ∷ 138 ∷ []
  -- its bytes one by one
  pub first : part_folded four images bytes 0 1 ≡ 1 ∷ 2 ∷ 99 ∷ 99 ∷ 4 ∷ 8 ∷ 69 ∷ 10 ∷ []
  pub second : part_folded four (1 ∷ 2 ∷ 99 ∷ 99 ∷ 4 ∷ 8 ∷ 69 ∷ 10 ∷ []) bytes 1 1 ≡ 1 ∷ 2 ∷ 99 ∷ 99 ∷ 4 ∷ 8 ∷ 69 ∷ 138 ∷ []
  -- and at once, by the old parity xor the old block xor the bytes
  pub whole : folded_others 1 images 0 4 1 3 bytes ≡ 1 ∷ 2 ∷ 99 ∷ 99 ∷ 4 ∷ 8 ∷ 69 ∷ 138 ∷ []
