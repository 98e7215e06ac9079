-- `main` meets its contract: the answer lies within its buffer. Assumes nothing.
use Rattle.zone_moves.proofs.Laws.Answers.{answer-within}
use Rattle.zone_moves.proofs.main.Goals as goal

pub slice_bounds-out-end : goal.slice_bounds-out-end
slice_bounds-out-end c = (answer-within _ _ c.answer_buffer-out.ensures c.answer_to-k.ensures.out_after c.answer_to-k.ensures.value).0

pub slice_bounds-write_all-end : goal.slice_bounds-write_all-end
slice_bounds-write_all-end c = (answer-within _ _ c.answer_buffer-out.ensures c.answer_to-k.ensures.out_after c.answer_to-k.ensures.value).1
