-- `store` meets its contract: one write is a store. Assumes nothing.
use mathlib.Core.Path.{sym}
use Rattle.blocks.proofs.Laws.Block.{store-one}
use Rattle.lanes.proofs.wide.U8Wide.store.Goals as goal

pub returns : goal.returns
returns c = record {
  target = sym (store-one c.args.target.now c.args.at c.args.self);
}
