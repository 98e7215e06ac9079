-- Sound stripes. Document 01, Layout, last point: "A stripe is *sound* if its N places xor to zero and its blanks are zero." And the list
-- of those that are not: document 02, (g).
use Rattle.std.specs.Prelude.{ℕ, zero, suc, ◌<◌, ◌≡◌, Bool, true, cond, not, ◌&&◌, ◌||◌, List, [], ◌∷◌, ◌++◌}
use Rattle.layout.specs.declared.Role.TheVariants.{Blank}
use Rattle.layout.specs.Layout.{is_blank, layout}
use Rattle.blocks.specs.Block.{zeros, is_zeros}
use Rattle.blocks.specs.Xor.{xor_all}
use Rattle.state.specs.declared.types.Record.{Record}
use Rattle.state.specs.Good.{geometry}
use Rattle.calls.specs.Images.{disks_of, seen}

-- the places of stripe S on the first k disks, "the out disk taken as the xor of the others"
unfoldable pub seen_stripe : Record → List ℕ → ℕ → ℕ → List (List ℕ)
seen_stripe r img S zero = []
seen_stripe r img S (suc k) = seen_stripe r img S k ++ (seen r img S k ∷ [])

pub record Sound (r : Record) (img : List ℕ) (S : ℕ) : Type 0 where
  pub xor : xor_all r.block (seen_stripe r img S (disks_of r)) ≡ zeros r.block
  pub blanks : (d : ℕ) → d < disks_of r → (layout (geometry r)).owner S d ≡ Blank → seen r img S d ≡ zeros r.block

-- ---- the same as a test, which a list needs, where a promise reads better as facts (that it is the same: `Sweeps.tested` of Sweep)

-- are the blanks of stripe S on the first k disks zero?
unfoldable pub blanks_zero : Record → List ℕ → ℕ → ℕ → Bool
blanks_zero r img S zero = true
blanks_zero r img S (suc k) =
    blanks_zero r img S k && (not (is_blank ((layout (geometry r)).owner S k)) || is_zeros r.block (seen r img S k))

unfoldable pub is_sound : Record → List ℕ → ℕ → Bool
is_sound r img S = is_zeros r.block (xor_all r.block (seen_stripe r img S (disks_of r))) && blanks_zero r img S (disks_of r)

-- ---- "the list of all unsound stripes", rising: of the first k, and of all

unfoldable pub unsound_below : Record → List ℕ → ℕ → List ℕ
unsound_below r img zero = []
unsound_below r img (suc S) = unsound_below r img S ++ cond (is_sound r img S) [] (S ∷ [])

abbrev pub unsound_stripes : Record → List ℕ → List ℕ
unsound_stripes r img = unsound_below r img r.stripes
