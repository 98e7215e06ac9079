-- `encode` meets its contract. Assumes nothing.
use Rattle.std.proofs.Common.{◌≡◌, [], ◌∷◌, ◌∙◌, arith}
use Rattle.state.specs.Bytes.{encode}
use Rattle.state.proofs.Laws.Bytes.{spelled, le-two, le-four}
use Rattle.state.proofs.bytes.encode.Goals as goal

pub returns : goal.returns
unfolding encode
returns c =
    let r = c.args.r in
    let block = c.copy_from_slice.ensures.after ∙ c.to_le_bytes.ensures ∙ le-two r.block (omega arith) in
    let zero : c.fill.new.self ≡ 0 ∷ 0 ∷ [] = c.fill.ensures.after (λ y e. e) ∙ rw (← spelled c.args.bytes.now c.requires, block) in
    let stripes = c.copy_from_slice-2.ensures.after ∙ c.to_le_bytes-2.ensures ∙ le-four r.stripes (omega arith) in
    let moves = c.copy_from_slice-3.ensures.after ∙ c.to_le_bytes-3.ensures ∙ le-four r.moves (omega arith) in
    let done = c.copy_from_slice-4.ensures.after ∙ c.to_le_bytes-4.ensures ∙ le-four c.stripes_done.result (omega arith) in
    rw (← spelled c.args.bytes.now c.requires, block, zero, stripes, moves, done, c.health_byte.ensures, c.disk_byte.ensures, c.stripes_done.ensures)
