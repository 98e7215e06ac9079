-- `opened` meets its contract. Assumes nothing.
use mathlib.Core.Path.{sym}
use Rattle.pbm.proofs.Opened.{long-if}
use Rattle.pbm.proofs.opening.opened.Goals as goal

pub decode-requires : goal.decode-requires
decode-requires c = long-if _ (sym c.if-is_readable.ensures.answer)
