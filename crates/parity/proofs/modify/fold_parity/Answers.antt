-- `fold_parity` meets its contract: lanes, and the bytes from where they end. Assumes nothing.
use Prim.Native.Nat.{zero-le}
use native.Mathlib.Omega.{arith}
use Rattle.parity.proofs.Laws.Replace.{replaced-none, replaced-on, replaced-all}
use Rattle.parity.proofs.Laws.Modify.{modify-steady}
use Rattle.parity.proofs.modify.fold_parity.Goals as goal

pub returns : goal.returns
returns c =
    let a = c.args in
    let w = modify-steady a.parity a.at a.bytes.now a.images.now c.requires in
    let l = c.modify_as-lanes.ensures in
    let r = c.modify_as.ensures in
    let most = replaced-on w (replaced-none zero-le) c.modify_as-lanes.result l.end.0 l.end.1 l.images in
    record {
      images = replaced-all w (replaced-on w most c.modify_as.result r.end.0 r.end.1 r.images) (omega arith);
    }
