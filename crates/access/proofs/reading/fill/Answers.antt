-- `fill` meets its contract. Assumes nothing.
use mathlib.Core.Path.{◌∙◌}
use lib.ListN.{length}
use Rattle.conditions.proofs.Asked.{told}
use Rattle.access.proofs.Laws.Reaching.{Reached, asked, asked-slot, reached, inside, short, block_out, block_in}
use Rattle.access.proofs.reading.fill.Goals as goal
use Rattle.access.proofs.reading.fill.Goals.{After-q-1}

-- where the block stands
stands : (c : After-q-1) → let a = c.args in Reached a.a.rec (length a.images.now) a.b (length a.block.now) c.place_of.result
stands c = reached _ c.args.a.good _ _ _ c.requires _ c.geometry_of-g.ensures _ c.place_of.ensures

pub slot_of-requires : goal.slot_of-requires
slot_of-requires c = asked _ c.args.a.good _ _ _ c.requires _ c.geometry_of-g.ensures

pub place_of-requires : goal.place_of-requires
place_of-requires c = asked-slot _ c.args.a.good _ _ _ c.requires _ c.geometry_of-g.ensures _ c.slot_of.ensures

pub sum_others-requires : goal.sum_others-requires
sum_others-requires c = let x = stands (goal.at.sum_others-requires c).After-q-1 in (x.stripe_lt, x.long, x.whole)

pub place_at-requires : goal.place_at-requires
place_at-requires c = let x = stands (goal.at.place_at-requires c).After-q-1 in (x.stripe_lt, x.disk_lt)

pub copy_out-requires : goal.copy_out-requires
copy_out-requires c = let x = stands (goal.at.copy_out-requires c).After-q-1 in (short x, inside x c.place_at.ensures.start)

pub returns-then-is_absent : goal.returns-then-is_absent
returns-then-is_absent c =
    record {
      block =
          c.sum_others.ensures.block ∙ block_out (stands (goal.at.returns-then-is_absent c).After-q-1) _ (told c.is_absent.ensures.answer c.if-is_absent.true);
    }

pub returns-else-is_absent : goal.returns-else-is_absent
returns-else-is_absent c =
    record {
      block =
          c.copy_out.ensures.block ∙ block_in (stands (goal.at.returns-else-is_absent c).After-q-1) _ c.place_at.ensures.start (told c.is_absent.ensures.answer c.if-is_absent.false);
    }
