-- `pbm_format` meets its contract. Assumes nothing.
use mathlib.Core.Path.{refl, sym, ◌∙◌}
use mathlib.Core.List.{[]}
use Rattle.state.specs.Bytes.{decode}
use Rattle.calls.specs.Call.{format, Event, on}
use Rattle.calls.proofs.Laws.OnBytes.{bytes-short, format-seals}
use Rattle.pbm.proofs.Closed.{closed}
use Rattle.pbm.proofs.pbm_growth.pbm_format.Goals as goal
use Rattle.pbm.proofs.pbm_growth.pbm_format.Goals.{Start}

abbrev event : Start → Event
event c = on (format c.args.n c.args.block c.args.stripes) c.args.images.now []

pub returns-then-rec-ne-RECORD_LENGTH : goal.returns-then-rec-ne-RECORD_LENGTH
returns-then-rec-ne-RECORD_LENGTH c =
    rw (c.from.ensures, bytes-short (event (goal.at.returns-then-rec-ne-RECORD_LENGTH c).Start) c.args.rec.now c.if-rec-ne-RECORD_LENGTH.true) (record { answer = refl; state = refl; images = refl })

pub returns : goal.returns
returns c =
    let e = c.format.ensures in
    let a = c.args in
    let r = decode a.rec.now in
    let x = format-seals a.n a.block a.stripes a.images.now [] a.rec.now r c.if-rec-ne-RECORD_LENGTH.false in
    let f = c.close.ensures in
    let q = closed x r c.format.result (e.answer r) (e.state r) in
    record { answer = f.answer ∙ q.0; state = f.state ∙ q.1; images = e.images r ∙ sym x.images }
