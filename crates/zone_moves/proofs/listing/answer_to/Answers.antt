-- `answer_to` meets its contract: the lines of a zone, or the refusal. Assumes nothing.
use mathlib.Core.Path.{sym, ◌∙◌}
use native.Mathlib.Omega.{arith}
use Rattle.zone_moves.proofs.Laws.Answers.{zone-sized, answer-zone, answer-refused, answer-stored}
use Rattle.zone_moves.proofs.listing.answer_to.Goals as goal

pub overflow_mul-z : goal.overflow_mul-z
overflow_mul-z c = omega (arith, zone-sized _ (sym c.request_of.ensures ∙ c.in-Zone.is))

pub overflow_mul-z-in-Zone : goal.overflow_mul-z-in-Zone
overflow_mul-z-in-Zone c = omega (arith, zone-sized _ (sym c.request_of.ensures ∙ c.in-Zone.is))

pub overflow_mul-m : goal.overflow_mul-m
overflow_mul-m c = omega (arith, zone-sized _ (sym c.request_of.ensures ∙ c.in-Zone.is))

pub put_lines-requires : goal.put_lines-requires
put_lines-requires c = let t = zone-sized _ (sym c.request_of.ensures ∙ c.in-Zone.is) in (t.disks, t.new, omega (arith, t.room), omega arith)

pub returns-in-Zone-clause-value : goal.returns-in-Zone-clause-value
returns-in-Zone-clause-value c = (answer-stored _ (answer-zone _ (sym c.request_of.ensures ∙ c.in-Zone.is)) c.put_lines.ensures).0

pub returns-in-Zone-clause-out_after : goal.returns-in-Zone-clause-out_after
returns-in-Zone-clause-out_after c = (answer-stored _ (answer-zone _ (sym c.request_of.ensures ∙ c.in-Zone.is)) c.put_lines.ensures).1

pub returns-in-Refused-clause-value : goal.returns-in-Refused-clause-value
returns-in-Refused-clause-value c = (answer-stored _ (answer-refused _ (sym c.request_of.ensures ∙ c.in-Refused.is)) c.put_text.ensures).0

pub returns-in-Refused-clause-out_after : goal.returns-in-Refused-clause-out_after
returns-in-Refused-clause-out_after c = (answer-stored _ (answer-refused _ (sym c.request_of.ensures ∙ c.in-Refused.is)) c.put_text.ensures).1
