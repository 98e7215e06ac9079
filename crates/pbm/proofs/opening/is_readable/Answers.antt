-- `is_readable` meets its contract. Assumes nothing.
use mathlib.Core.Path.{sym, ◌∙◌}
use borrow.Author.Tests.{eq-eqb, ne_eqb}
use Rattle.conditions.proofs.Tests.{and-true, and-false}
use Rattle.pbm.specs.Opening.{readable}
use Rattle.pbm.proofs.opening.is_readable.Goals as goal

pub returns-then-bytes-eq-RECORD_LENGTH : goal.returns-then-bytes-eq-RECORD_LENGTH
unfolding readable
returns-then-bytes-eq-RECORD_LENGTH c =
    record { answer = c.is_plain.ensures ∙ sym (and-true _ _ (eq-eqb _ _ c.if-bytes-eq-RECORD_LENGTH.true)) }

pub returns-else-bytes-eq-RECORD_LENGTH : goal.returns-else-bytes-eq-RECORD_LENGTH
unfolding readable
returns-else-bytes-eq-RECORD_LENGTH c =
    let z = ne_eqb _ _ c.if-bytes-eq-RECORD_LENGTH.false in
    record { answer = z ∙ sym (and-false _ _ z) }
