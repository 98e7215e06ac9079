-- `pbm_sweep` meets its contract. Assumes nothing.
use mathlib.Core.Path.{refl}
use mathlib.Core.List.{[]}
use Rattle.calls.specs.Call.{sweep, Event, on}
use Rattle.pbm.proofs.Opened.{unopened, answered}
use Rattle.pbm.proofs.pbm_scrub.pbm_sweep.Goals as goal
use Rattle.pbm.proofs.pbm_scrub.pbm_sweep.Goals.{Start}

abbrev event : Start → Event
event c = on sweep c.args.images.now []

pub returns-in_default : goal.returns-in_default
returns-in_default c =
    rw (c.from.ensures, unopened (event (goal.at.returns-in_default c).Start) c.args.rec.now refl c.in_default.ensures.record) (record { answer = refl; beside = refl })

pub returns-in-Err : goal.returns-in-Err
returns-in-Err c =
    rw (answered (event (goal.at.returns-in-Err c).Start) c.args.rec.now c.in-Some.ensures.record c.in-Err.ensures.answer, c.from-in-Err.ensures) (record { answer = refl; beside = refl })

pub returns-in-Some-unsound : goal.returns-in-Some-unsound
returns-in-Some-unsound c =
    rw (answered (event (goal.at.returns-in-Some-unsound c).Start) c.args.rec.now c.in-Some.ensures.record c.in-Ok.ensures.answer, c.in-Some-unsound.is) (record { answer = refl; beside = refl })

pub returns-in_default-unsound : goal.returns-in_default-unsound
returns-in_default-unsound c =
    rw (answered (event (goal.at.returns-in_default-unsound c).Start) c.args.rec.now c.in-Some.ensures.record c.in-Ok.ensures.answer, c.in_default-unsound.is) (record { answer = refl; beside = refl })
