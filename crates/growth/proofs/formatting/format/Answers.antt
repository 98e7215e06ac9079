-- `format` meets its contract, whatever record it is lent. Assumes nothing.
use mathlib.Core.Path.{◌≡◌, refl, sym}
use mathlib.Core.List.{[]}
use Rattle.std.proofs.Common.{rules}
use Rattle.state.specs.declared.types.Record.{Record}
use Rattle.calls.specs.Call.{format, Event, on, fed}
use Rattle.calls.specs.Effect.{effect, act, called}
use Rattle.calls.specs.Table.{refusal_of}
use Rattle.refusals.specs.Answers.{number_of}
use Rattle.refusals.proofs.Laws.Called.{called-stopped, called-done, err-changed, err-unchanged}
use Rattle.growth.proofs.formatting.format.Goals as goal
use Rattle.growth.proofs.formatting.format.Goals.{Start}

abbrev event : Start → Event
event c = on (format c.args.n c.args.block c.args.stripes) c.args.images.now []

pub returns-in_err-of_format : goal.returns-in_err-of_format
returns-in_err-of_format c =
    let e = event (goal.at.returns-in_err-of_format c).Start in
    let x = c.from_residual.result in
    let l = c.from_residual.ensures.0 in
    let n : (r : Record) → number_of x ≡ refusal_of r (fed e) = search rules in
    record { answer = λ r. rw (called-stopped e r x l (n r)) (err-changed x l); state = λ r. rw (called-stopped e r x l (n r)) (err-unchanged r x l); images = λ r. rw (called-stopped e r x l (n r)) refl }

pub returns : goal.returns
unfolding effect
returns c =
    let e = event (goal.at.returns c).Start in
    let made : (r : Record) → called e r ≡ act e r = λ r. called-done e r (sym (c.in_ok-of_format.ensures.number r)) in
    record { answer = λ r. rw (made r) refl; state = λ r. rw (made r) (c.clear.ensures.state r); images = λ r. rw (made r) (c.clear.ensures.images r) }
