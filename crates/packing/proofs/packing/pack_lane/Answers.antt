-- `pack_lane` meets its contract, by what its calls ensure. Assumes nothing.
use Rattle.std.proofs.Common.{ℕ, ◌+◌, List, ap, ◌∙◌, ap₂}
use Rattle.blocks.specs.Block.{store}
use Rattle.points.specs.Points.{half}
use Rattle.packing.proofs.packing.pack_lane.Goals as goal

pub returns : goal.returns
returns c =
    record {
      target =
          let a = c.args in
          c.store_bytes-2.ensures.target
          ∙ ap₂ (λ (x y : List ℕ). store x (half a.source.now + a.i) y) (c.store_bytes.ensures.target ∙ ap (store a.target.now a.i) c.lane_at-low.ensures.lane) c.lane_at-high.ensures.lane;
    }
