-- `is_formable` meets its contract. Assumes nothing.
use mathlib.Core.Path.{sym, ◌∙◌}
use Rattle.std.proofs.lemmas.Bool.{false≢true}
use Rattle.calls.specs.Table.{formable}
use Rattle.refusals.proofs.refusal.is_formable.Goals as goal
use Rattle.refusals.proofs.refusal.is_formable.Goals.{then-old_is_good, else-old_is_good}

pub returns-then-block_is_good : goal.returns-then-block_is_good
unfolding formable
returns-then-block_is_good c =
    elim c.if-old_is_good.branch [
      | then-old_is_good w ↦
          record {
            answer = rw (sym w.if-old_is_good.ensures, sym w.block_is_good.ensures ∙ sym w.value-is ∙ c.if-block_is_good.true) c.stripes_are_good.ensures;
          }
      | else-old_is_good w ↦ absurd (false≢true (sym w.if-old_is_good.false ∙ sym w.value-is ∙ c.if-block_is_good.true))
    ]

pub returns-else-block_is_good : goal.returns-else-block_is_good
unfolding formable
returns-else-block_is_good c =
    elim c.if-old_is_good.branch [
      | then-old_is_good w ↦
          record {
            answer = rw (sym w.if-old_is_good.ensures, sym w.block_is_good.ensures ∙ sym w.value-is ∙ c.if-block_is_good.false) c.if-block_is_good.false;
          }
      | else-old_is_good w ↦ record { answer = rw (sym w.if-old_is_good.ensures) c.if-block_is_good.false }
    ]
