-- `pbm_continue` meets its contract. Assumes nothing.
use mathlib.Core.Path.{refl, sym, ap, ◌∙◌}
use mathlib.Core.List.{[], ◌∷◌}
use Prim.Native.Nat.{ℕ}
use Rattle.calls.specs.Call.{continue, Event, on}
use Rattle.pbm.proofs.Opened.{long, unopened, on_record}
use Rattle.pbm.proofs.Closed.{closed_counted}
use Rattle.pbm.proofs.pbm_repair.pbm_continue.Goals as goal
use Rattle.pbm.proofs.pbm_repair.pbm_continue.Goals.{Start}

abbrev event : Start → Event
event c = on (continue c.args.k) c.args.images.now []

pub returns-in_default : goal.returns-in_default
returns-in_default c =
    rw (c.from.ensures, unopened (event (goal.at.returns-in_default c).Start) c.args.rec.now refl c.in_default.ensures.record) (record { answer = refl; beside = refl; state = refl; images = refl })

pub close_counted-requires : goal.close_counted-requires
close_counted-requires c = long _ c.in-Some.ensures.record

pub returns : goal.returns
returns c =
    let x = on_record (event (goal.at.returns c).Start) c.args.rec.now c.in-Some.ensures.record in
    let e = c.continue_rebuild-x.ensures in
    let f = c.close_counted.ensures in
    let q = closed_counted x _ c.continue_rebuild-x.result e.answer e.state in
    record { answer = f.answer ∙ q.0; beside = ap (λ (n : ℕ). n ∷ []) c.made_in.ensures.count ∙ q.1; state = f.state ∙ q.2; images = e.images ∙ sym x.images }
