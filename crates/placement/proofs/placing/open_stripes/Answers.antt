-- `open_stripes` meets its contract. Assumes nothing.
use Prim.Native.Nat.{◌+◌, ◌*◌, ◌<◌}
use mathlib.Core.Path.{ap, ◌∙◌}
use native.Mathlib.Omega.{arith}
use Rattle.layout.specs.Layout.{total_of}
use Rattle.layout.proofs.Laws.Numbers.{has_new}
use Rattle.layout.proofs.Laws.Opening.{test-left, test-over, open-all, open-part, part-le}
use Rattle.placement.proofs.placing.open_stripes.Goals as goal
use Rattle.placement.proofs.placing.open_stripes.Goals.{Else-all_moved}

-- what the test has shown
more : (c : Else-all_moved) → let g = c.args.g in g.moves < total_of g
more c = test-left _ c.requires c.all_moved.ensures c.if-all_moved.false

pub finished_zones-requires : goal.finished_zones-requires
finished_zones-requires c = let w = c.requires in (w, has_new _ w _ (more (goal.at.finished_zones-requires c).Else-all_moved))

pub overflow_mul-result : goal.overflow_mul-result
overflow_mul-result c =
    let w = c.requires in
    rw c.finished_zones.ensures (omega (arith, part-le _ w (more (goal.at.overflow_mul-result c).Else-all_moved), w.stripes_high))

pub returns-then-all_moved : goal.returns-then-all_moved
returns-then-all_moved c = open-all _ (test-over _ c.all_moved.ensures c.if-all_moved.true)

pub returns-else-all_moved : goal.returns-else-all_moved
returns-else-all_moved c =
    let g = c.args.g in
    ap (λ x. x * (g.old + g.new)) c.finished_zones.ensures ∙ open-part g (λ q. omega (arith, more (goal.at.returns-else-all_moved c).Else-all_moved))
