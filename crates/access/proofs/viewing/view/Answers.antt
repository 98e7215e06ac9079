-- `view` meets its contract. Assumes nothing.
use mathlib.Core.Path.{◌∙◌, ap}
use Rattle.access.specs.Viewing.{chosen_bytes}
use Rattle.access.proofs.Laws.Viewing.{shows}
use Rattle.access.proofs.viewing.view.Goals as goal

-- a part lies inside the images
pub part_of-requires : goal.part_of-requires
part_of-requires c =
    let a = c.args in
    let o = c.view_choice-x.ensures in
    (shows a.r a.images.now a.scratch.now a.b _ o.answer o.choice).0

-- the bytes of the choice are those that the call shows ..
pub returns-clause-view : goal.returns-clause-view
returns-clause-view c =
    let a = c.args in
    let x = c.view_choice-x.result in
    let o = c.view_choice-x.ensures in
    c.part_of.ensures.view ∙ ap (chosen_bytes x a.r.block a.images.now) o.scratch ∙ (shows a.r a.images.now a.scratch.now a.b x o.answer o.choice).1

-- .. and begin where the call has them
pub returns-clause-place : goal.returns-clause-place
returns-clause-place c =
    let a = c.args in
    let o = c.view_choice-x.ensures in
    c.part_of.ensures.place ∙ (shows a.r a.images.now a.scratch.now a.b _ o.answer o.choice).2 _ _
