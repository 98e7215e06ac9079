-- `is_zero_on` meets its contract. Assumes nothing.
use Rattle.refusals.proofs.Laws.Places.{place-ends}
use Rattle.scrub.proofs.sweeping.Stripes.is_zero_on.Goals as goal

pub is_zero-requires : goal.is_zero-requires
is_zero-requires c =
    let x = c.args.self.now in
    place-ends x.array.rec _ _ c.requires.0 c.requires.1 x.long c.place_at-at.ensures.start
