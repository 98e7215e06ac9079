-- `choose` meets its contract. Assumes nothing.
use mathlib.Core.Path.{sym, ◌∙◌}
use lib.ListN.{length}
use Rattle.conditions.proofs.Asked.{told}
use Rattle.calls.proofs.Laws.Table.{view-rows}
use Rattle.access.proofs.Laws.Reaching.{Reached, asked, asked-slot, reached, choice-out, choice-in}
use Rattle.access.proofs.viewing.choose.Goals as goal
use Rattle.access.proofs.viewing.choose.Goals.{After-q-1}

-- where the block stands
stands : (c : After-q-1) → let a = c.args in Reached a.a.rec (length a.images.now) a.b (length a.scratch.now) c.place_of.result
stands c = reached _ c.args.a.good _ _ _ (sym (view-rows _ _ _ _ _) ∙ c.requires) _ c.geometry_of-g.ensures _ c.place_of.ensures

pub slot_of-requires : goal.slot_of-requires
slot_of-requires c = asked _ c.args.a.good _ _ _ (sym (view-rows _ _ _ _ _) ∙ c.requires) _ c.geometry_of-g.ensures

pub place_of-requires : goal.place_of-requires
place_of-requires c = asked-slot _ c.args.a.good _ _ _ (sym (view-rows _ _ _ _ _) ∙ c.requires) _ c.geometry_of-g.ensures _ c.slot_of.ensures

pub sum_others-requires : goal.sum_others-requires
sum_others-requires c = let x = stands (goal.at.sum_others-requires c).After-q-1 in (x.stripe_lt, x.long, x.whole)

pub returns-then-is_absent : goal.returns-then-is_absent
returns-then-is_absent c =
    let (x, s) = choice-out (stands (goal.at.returns-then-is_absent c).After-q-1) _ _ (told c.is_absent.ensures.answer c.if-is_absent.true) in
    record { choice = x; scratch = c.sum_others.ensures.block ∙ s }

pub place_at-requires : goal.place_at-requires
place_at-requires c = let x = stands (goal.at.place_at-requires c).After-q-1 in (x.stripe_lt, x.disk_lt)

pub returns : goal.returns
returns c =
    let (x, s) = choice-in (stands (goal.at.returns c).After-q-1) _ _ c.place_at.ensures.start (told c.is_absent.ensures.answer c.if-is_absent.false) in
    record { choice = x; scratch = s }
