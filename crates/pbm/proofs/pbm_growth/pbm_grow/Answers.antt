-- `pbm_grow` meets its contract. Assumes nothing.
use mathlib.Core.Path.{refl, sym, ◌∙◌}
use mathlib.Core.List.{[]}
use Rattle.calls.specs.Call.{grow, Event, on}
use Rattle.pbm.proofs.Opened.{long, unopened, on_record}
use Rattle.pbm.proofs.Closed.{closed}
use Rattle.pbm.proofs.pbm_growth.pbm_grow.Goals as goal
use Rattle.pbm.proofs.pbm_growth.pbm_grow.Goals.{Start}

abbrev event : Start → Event
event c = on (grow c.args.m) c.args.images.now []

pub returns-in_default : goal.returns-in_default
returns-in_default c =
    rw (c.from.ensures, unopened (event (goal.at.returns-in_default c).Start) c.args.rec.now refl c.in_default.ensures.record) (record { answer = refl; state = refl; images = refl })

pub close-requires : goal.close-requires
close-requires c = long _ c.in-Some.ensures.record

pub returns : goal.returns
returns c =
    let x = on_record (event (goal.at.returns c).Start) c.args.rec.now c.in-Some.ensures.record in
    let e = c.grow.ensures in
    let f = c.close.ensures in
    let q = closed x _ c.grow.result e.answer e.state in
    record { answer = f.answer ∙ q.0; state = f.state ∙ q.1; images = e.images ∙ sym x.images }
