-- `pbm_owner` meets its contract. Assumes nothing.
use mathlib.Core.Path.{refl}
use mathlib.Core.List.{[]}
use Rattle.calls.specs.Call.{owner, Event, on}
use Rattle.pbm.proofs.Opened.{unopened, answered}
use Rattle.pbm.proofs.pbm_queries.pbm_owner.Goals as goal
use Rattle.pbm.proofs.pbm_queries.pbm_owner.Goals.{Start}

abbrev event : Start → Event
event c = on (owner c.args.s c.args.d) [] []

pub returns-in_default : goal.returns-in_default
returns-in_default c =
    rw (c.from.ensures, unopened (event (goal.at.returns-in_default c).Start) c.args.rec.now refl c.in_default.ensures.record) (record { answer = refl; beside = refl })

pub returns-in-Err : goal.returns-in-Err
returns-in-Err c =
    rw (answered (event (goal.at.returns-in-Err c).Start) c.args.rec.now c.in-Some.ensures.record c.in-Err.ensures.answer, c.from-in-Err.ensures) (record { answer = refl; beside = refl })

pub returns-in-Ok : goal.returns-in-Ok
returns-in-Ok c =
    rw (answered (event (goal.at.returns-in-Ok c).Start) c.args.rec.now c.in-Some.ensures.record c.in-Ok.ensures.answer) (record { answer = refl; beside = rw (c.role_number.ensures.number, c.role_block.ensures.block) refl })
