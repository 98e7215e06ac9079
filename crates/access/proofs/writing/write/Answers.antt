-- `write` meets its contract. Assumes nothing.
use mathlib.Core.Path.{◌≡◌, refl, sym, ◌∙◌}
use mathlib.Core.List.{[]}
use lib.ListN.{length}
use Rattle.layout.specs.Layout.{capacity}
use Rattle.state.specs.Good.{geometry}
use Rattle.calls.specs.Call.{read, write, feed, on}
use Rattle.calls.specs.Table.{refusal_of}
use Rattle.calls.specs.Effect.{effect}
use Rattle.refusals.proofs.Laws.Called.{called-stopped, called-done}
use Rattle.refusals.proofs.Laws.Ready.{ok-number}
use Rattle.refusals.specs.Answers.{number_of}
use Rattle.std.proofs.Common.{rules}
use Rattle.calls.proofs.Laws.Table.{write-rows}
use Rattle.access.proofs.writing.write.Goals as goal
use Rattle.access.proofs.writing.write.Goals.{After-of_reach}

-- the number is the table's
numbered : (c : After-of_reach) →
    let a = c.args in
    number_of c.of_reach.result ≡ refusal_of a.r (feed (write a.b a.bytes.now) (length a.images.now) 0)
numbered c =
    let a = c.args in
    let n : number_of c.of_reach.result ≡ refusal_of a.r (feed (read a.b) (length a.images.now) (length a.bytes.now)) = c.of_reach.ensures.number in
    n ∙ sym (write-rows a.r (capacity (geometry a.r)) (length a.images.now) 0 a.b a.bytes.now)

pub returns-in_err-a : goal.returns-in_err-a
returns-in_err-a c =
    let a = c.args in
    let x = c.from_residual.result in
    let n : number_of x ≡ number_of c.of_reach.result = search rules in
    let p = (goal.at.returns-in_err-a c).After-of_reach in
    rw (called-stopped (on (write a.b a.bytes.now) a.images.now []) a.r x c.from_residual.ensures.0 (n ∙ numbered p)) (record { answer = refl; images = refl })

pub put-requires : goal.put-requires
put-requires c = rw c.in_ok-a.ensures.same (sym (numbered (goal.at.put-requires c).After-of_reach) ∙ ok-number c.in_ok-a.was)

pub returns : goal.returns
unfolding effect
returns c =
    let a = c.args in
    rw (called-done (on (write a.b a.bytes.now) a.images.now []) a.r (sym (numbered (goal.at.returns c).After-of_reach) ∙ ok-number c.in_ok-a.was)) (record { answer = refl; images = rw c.in_ok-a.ensures.same at c.put.ensures.images })
