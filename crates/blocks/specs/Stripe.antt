-- The places of the images. Document 01, Images: "One lent byte slice, disk 0 first, each disk T × B bytes."
use Rattle.std.specs.Prelude.{ℕ, zero, suc, ◌+◌, ◌*◌, ◌≤◌, ◌<◌, List, [], ◌∷◌, ◌++◌}
use Rattle.blocks.specs.Block.{block_at}
use Rattle.blocks.specs.Xor.{xor_all, without}

-- "*Place* (S, d): block S of disk d": where it begins, and its bytes
abbrev pub offset : ℕ → ℕ → ℕ → ℕ → ℕ
offset B T S d = (d * T + S) * B

abbrev pub place : ℕ → ℕ → List ℕ → ℕ → ℕ → List ℕ
place B T l S d = block_at l (offset B T S d) B

-- place (S, d) is one of N disks' places, which lie within images of so many bytes; a block has 1 to 4,096
abbrev pub PlaceInside : ℕ → ℕ → ℕ → ℕ → ℕ → ℕ → Type 0
PlaceInside B T S d N images = (1 ≤ B) × (B ≤ 4096) × (S < T) × (d < N) × (N * (T * B) ≤ images)

-- "Stripe S is its N places", disk 0 first
abbrev pub stripe : ℕ → ℕ → List ℕ → ℕ → ℕ → List (List ℕ)
stripe B T l S zero = []
stripe B T l S (suc N) = stripe B T l S N ++ (place B T l S N ∷ [])

-- "the xor of the stripe's other places": of all but disk d's
abbrev pub others : ℕ → ℕ → List ℕ → ℕ → ℕ → ℕ → List ℕ
others B T l S N d = xor_all B (without (stripe B T l S N) d)
