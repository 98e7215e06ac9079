-- The xor of a stripe's places, group by group of disks: what a group must be, and how far the sum has come.
use Rattle.std.specs.Prelude.{ℕ, ◌+◌, ◌*◌, ◌≤◌, ◌<◌, ◌≡◌, ◌⊎◌, List, length}
use Rattle.blocks.specs.declared.types.Group.{Group}
use Rattle.blocks.specs.Block.{block_at, copied_to}
use Rattle.blocks.specs.Stripe.{others}

-- the xor of the places of the first k disks but `out`, of B bytes each
abbrev pub sum_to : ℕ → List ℕ → Group → ℕ → List ℕ
sum_to B l x k = others B x.stripes l x.stripe k x.out

-- the group's places lie within images of so many bytes
pub record GroupInside (x : Group) (B images : ℕ) : Type 0 where
  pub long : 1 ≤ B
  pub stripe_lt : x.stripe < x.stripes
  pub order : x.first ≤ x.last
  pub within : x.last * (x.stripes * B) ≤ images

-- a group begins with any bytes if no disk comes before it, else with the sum so far
abbrev pub Begun : Group → List ℕ → List ℕ → Type 0
Begun x b sum = (x.first ≡ 0) ⊎ (b ≡ sum)

-- the block b does, for a group within the images l
abbrev pub GroupBegun : Group → List ℕ → List ℕ → Type 0
GroupBegun x l b = GroupInside x (length b) (length l) × Begun x b (sum_to (length b) l x x.first)

-- its n bytes from at on do
abbrev pub PartBegun : Group → List ℕ → List ℕ → ℕ → ℕ → Type 0
PartBegun x l b at n =
    GroupInside x (length b) (length l) × (at + n ≤ length b)
    × Begun x (block_at b at n) (block_at (sum_to (length b) l x x.first) at n)

-- b with these n bytes taken on to the sum after the group
abbrev pub part_added : Group → List ℕ → List ℕ → ℕ → ℕ → List ℕ
part_added x l b at n = copied_to b at (sum_to (length b) l x x.last) at n
