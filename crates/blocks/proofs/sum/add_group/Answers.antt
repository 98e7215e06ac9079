-- `add_group` meets its contract: what the whole pieces leave is taken on in one or two parts. Assumes nothing.
use Prim.Native.Nat.{ℕ, ◌+◌, ◌-◌, ◌≤◌, ◌<◌}
use mathlib.Core.Path.{◌≡◌, refl, ap, ◌∙◌}
use mathlib.Core.List.{List}
use native.Mathlib.Omega.{arith}
use lib.ListN.{length, take}
use Rattle.blocks.specs.Block.{copied_to}
use Rattle.blocks.specs.declared.types.Group.{Group}
use Rattle.blocks.specs.Sum.{sum_to, GroupBegun, PartBegun, part_added}
use Rattle.blocks.proofs.Laws.Block.{length-store}
use Rattle.blocks.proofs.Laws.Summed.{length-sum}
use Rattle.blocks.proofs.Laws.Fill.{Filled, filled-all₀, run_more, begun_kept}
use Rattle.blocks.proofs.sum.add_group.Goals as goal

-- the sum of the first k disks of the group's stripe, in blocks of n bytes
abbrev sum : Group → List ℕ → ℕ → ℕ → List ℕ
sum x images n k = sum_to n images x k

-- of what was l, the bytes before `at` are taken on
abbrev Done : Group → List ℕ → List ℕ → List ℕ → ℕ → Type 0
Done x images l b at = Filled l 0 (sum x images (length l) x.last) (length l) b at

-- after the whole pieces
pieces : (x : Group) (images l b : List ℕ) (at : ℕ)
    → (at ≤ length l) × (length l < at + 128) × (b ≡ part_added x images l 0 at) → Done x images l b at
pieces x images l b at e =
    let o = sum x images (length l) x.last in
    record { is = e.2; size = ap length e.2 ∙ length-store l 0 (take at o); long = length-sum (length l) images x x.last; within = e.0 }

-- what a part asks, and what it gives
module _ (x : Group) (images l : List ℕ) (r : GroupBegun x images l) {b : List ℕ} {at : ℕ} (f : Done x images l b at) (n : ℕ) (h : at + n ≤ length l) where
  asked : n ≤ 64 → (n ≤ 64) × (64 ≤ 128) × PartBegun x images b at n
  asked k = (k, omega arith, rw f.size (r.0, h, begun_kept x r.1 f n))

  given : {b' : List ℕ} → b' ≡ part_added x images b at n → Done x images l b' (at + n)
  given e = run_more f n h (e ∙ ap (λ (m : ℕ). copied_to b at (sum x images m x.last) at n) f.size)

pub add_part-requires : goal.add_part-requires
add_part-requires c =
    let a = c.args in
    asked _ _ _ c.requires (pieces a.x a.images.now a.block.now _ _ c.add_pieces-at.ensures) 64 (omega arith) (omega arith)

pub add_part-requires-then-len-at-ge-HALF : goal.add_part-requires-then-len-at-ge-HALF
add_part-requires-then-len-at-ge-HALF c =
    let a = c.args in
    let f = pieces a.x a.images.now a.block.now _ _ c.add_pieces-at.ensures in
    asked _ _ _ c.requires (given _ _ _ c.requires f 64 (omega arith) c.add_part.ensures) _ (omega arith) (omega arith)

pub returns-then-len-at-ge-HALF : goal.returns-then-len-at-ge-HALF
returns-then-len-at-ge-HALF c =
    let a = c.args in
    let f = pieces a.x a.images.now a.block.now _ _ c.add_pieces-at.ensures in
    let half = given _ _ _ c.requires f 64 (omega arith) c.add_part.ensures in
    filled-all₀ (given _ _ _ c.requires half (length a.block.now - (c.add_pieces-at.result + 64)) (omega arith) c.add_part-then-len-at-ge-HALF.ensures) (omega arith) refl

pub add_part-requires-2 : goal.add_part-requires-2
add_part-requires-2 c =
    let a = c.args in
    asked _ _ _ c.requires (pieces a.x a.images.now a.block.now _ _ c.add_pieces-at.ensures) _ (omega arith) (omega arith)

pub returns : goal.returns
returns c =
    let a = c.args in
    let f = pieces a.x a.images.now a.block.now _ _ c.add_pieces-at.ensures in
    filled-all₀ (given _ _ _ c.requires f (length a.block.now - c.add_pieces-at.result) (omega arith) c.add_part-2.ensures) (omega arith) refl
