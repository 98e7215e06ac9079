-- `pbm_write` meets its contract. Assumes nothing.
use mathlib.Core.Path.{refl, sym, ◌∙◌}
use mathlib.Core.List.{[]}
use Rattle.calls.specs.Call.{write, Event, on}
use Rattle.pbm.proofs.Opened.{unopened, on_record}
use Rattle.pbm.proofs.Closed.{numbered}
use Rattle.pbm.proofs.pbm_access.pbm_write.Goals as goal
use Rattle.pbm.proofs.pbm_access.pbm_write.Goals.{Start}

abbrev event : Start → Event
event c = on (write c.args.b c.args.bytes.now) c.args.images.now []

pub returns-in_default : goal.returns-in_default
returns-in_default c =
    rw (c.from.ensures, unopened (event (goal.at.returns-in_default c).Start) c.args.rec.now refl c.in_default.ensures.record) (record { answer = refl; images = refl })

pub returns : goal.returns
returns c =
    let x = on_record (event (goal.at.returns c).Start) c.args.rec.now c.in-Some.ensures.record in
    let e = c.write.ensures in
    record { answer = c.number_of.ensures.number ∙ numbered x e.answer; images = e.images ∙ sym x.images }
