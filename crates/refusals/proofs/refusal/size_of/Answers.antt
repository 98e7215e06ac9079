-- `size_of` meets its contract. Assumes nothing.
use Rattle.refusals.proofs.refusal.size_of.Goals as goal

pub size_with-requires : goal.size_with-requires
size_with-requires c = c.args.a.good.array.disks.m_high
