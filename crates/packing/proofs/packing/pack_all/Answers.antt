-- `pack_all` meets its contract: the first point, lanes as far as they go, and the rest. Assumes nothing.
use Rattle.std.proofs.Common.{arith}
use Rattle.points.proofs.Laws.Pack.{packed-first, packed-by}
use Rattle.packing.proofs.packing.pack_all.Goals as goal

pub returns : goal.returns
returns c =
    record {
      target =
          let source = c.args.source.now in
          let target = c.args.target.now in
          let first = packed-first source target (omega arith) c.point_at.type_inv c.point_at.ensures.point c.to_le_bytes.ensures in
          let e = c.pack_lanes-i.ensures in
          packed-by source target c.requires.0 c.requires.1 (omega arith) first e.end.0 e.end.1 e.target c.pack_points.ensures.target;
    }
