-- `pack` meets its contract. Assumes nothing.
use Rattle.std.proofs.Common.{rules}
use Rattle.points.proofs.Laws.Answer.{accepted}
use Rattle.packing.proofs.packing.pack.Goals as goal

pub pack_all-requires : goal.pack_all-requires
pack_all-requires c = search (rules, accepted)
