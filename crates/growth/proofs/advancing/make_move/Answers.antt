-- `make_move` meets its contract: the places of the next move lie in the images. Assumes nothing.
use Rattle.growth.proofs.Laws.Advancing.{Step, step, stepped}
use Rattle.growth.proofs.advancing.make_move.Goals as goal
use Rattle.growth.proofs.advancing.make_move.Goals.{Start}

-- the move at the cursor
at-cursor : (s : Start) → Step s.args.a.rec s.args.at
at-cursor s = step s.args.a.rec s.args.a.good s.requires.0 s.args.at s.requires.1

pub place_at-from-requires : goal.place_at-from-requires
place_at-from-requires c = ((at-cursor (goal.at.place_at-from-requires c).Start).stripe_lt, (at-cursor (goal.at.place_at-from-requires c).Start).from_lt)

pub place_at-to-requires : goal.place_at-to-requires
place_at-to-requires c = ((at-cursor (goal.at.place_at-to-requires c).Start).stripe_lt, (at-cursor (goal.at.place_at-to-requires c).Start).to-lt)

pub move_block-requires : goal.move_block-requires
move_block-requires c =
    rw (c.place_at-from.ensures.start, c.place_at-to.ensures.start, c.requires.2) (c.args.a.good.block_high, (at-cursor (goal.at.move_block-requires c).Start).from_in, (at-cursor (goal.at.move_block-requires c).Start).to_in)

pub returns : goal.returns
returns c =
    record {
      images =
          stepped c.args.a.rec c.args.images.now c.args.at c.requires.1 c.place_at-from.ensures.start c.place_at-to.ensures.start c.move_block.ensures.images;
    }
