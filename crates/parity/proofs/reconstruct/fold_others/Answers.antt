-- `fold_others` meets its contract: quads, lanes and bytes, each from where the one before it has ended. Assumes nothing.
use Prim.Native.Nat.{zero-le}
use mathlib.Core.Path.{refl}
use native.Mathlib.Omega.{arith}
use lib.ListN.{length}
use Rattle.parity.specs.declared.types.Gapped.{Gapped}
use Rattle.parity.specs.Fold.{FoldInside}
use Rattle.parity.proofs.Laws.Replace.{replaced-none, replaced-on}
use Rattle.parity.proofs.Laws.Fold.{others-steady, others-all}
use Rattle.parity.proofs.reconstruct.fold_others.Goals as goal
use Rattle.parity.proofs.reconstruct.fold_others.Goals.{Start}

abbrev gaps : Start → Gapped
gaps c = let a = c.args in record { disks = a.disks; stripes = a.stripes; len = length a.bytes.now; stripe = a.s; out = a.out; parity = a.parity }

inside : (c : Start) → FoldInside (gaps c) (length c.args.images.now) (length c.args.bytes.now)
inside c = let p = c.requires.0 in (record { long = p.0; stripe_lt = p.2; parity_lt = p.3; within = p.4 }, refl)

pub returns : goal.returns
returns c =
    let b = c.args.bytes.now in
    let w = inside (goal.at.returns c).Start in
    let k = others-steady b w c.args.images.now in
    let q = c.fold_as-quads.ensures in
    let l = c.fold_as-lanes.ensures in
    let r = c.fold_as.ensures in
    let some = replaced-on k (replaced-none zero-le) c.fold_as-quads.result q.end.0 q.end.1 q.images in
    let most = replaced-on k some c.fold_as-lanes.result l.end.0 l.end.1 l.images in
    record {
      images = others-all b w c.requires.1 (replaced-on k most c.fold_as.result r.end.0 r.end.1 r.images) (omega arith);
    }
