-- `unpack` meets its contract. Assumes nothing.
use Rattle.std.proofs.Common.{rules}
use Rattle.points.proofs.Laws.Answer.{accepted}
use Rattle.points.proofs.Laws.Unpack.{joined-even, unpacked-by}
use Rattle.packing.proofs.unpacking.unpack.Goals as goal

pub join_sides-requires : goal.join_sides-requires
join_sides-requires c = search (rules, accepted)

pub add_up-requires : goal.add_up-requires
add_up-requires c = search (rules, joined-even)

pub returns-clause-target : goal.returns-clause-target
returns-clause-target c =
    let way = unpacked-by c.args.source.now c.join_sides.ensures.target c.add_up.ensures.target in
    search rules
