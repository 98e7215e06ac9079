-- `checked` makes an array of a good record alone. Assumes nothing.
use mathlib.Core.Path.{sym}
use Rattle.state.proofs.Laws.Good.{limits}
use Rattle.state.proofs.checking.checked.Goals as goal

pub invariant_of-result : goal.invariant_of-result
invariant_of-result c = record { good = limits c.args.r (sym c.if-is_good.ensures) }
