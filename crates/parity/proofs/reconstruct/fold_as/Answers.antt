-- `fold_as` meets its contract. The loop has stored the new parity from `first` to before `at`. Assumes nothing.
use native.Mathlib.Omega.{arith}
use Rattle.parity.proofs.Laws.Replace.{replaced-none}
use Rattle.parity.proofs.Laws.Fold.{others-more}
use Rattle.parity.proofs.reconstruct.fold_as.Goals as goal

pub loop-at-init : goal.loop-at-init
loop-at-init g c = replaced-none c.requires.1

pub loop-at-preserved : goal.loop-at-preserved
loop-at-preserved g c =
    rw c.LEN-at.ensures
    (others-more c.args.bytes.now c.requires.0 c.loop-at.invariant g.W.Wide.LEN (omega (arith, c.LEN.ensures, c.loop-at.invariant.within)) c.load.ensures.bytes c.sum_wide-sum.ensures
    c.offset_of-to.ensures.start
    c.store.ensures.target)
