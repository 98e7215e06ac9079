-- `start_rebuild` meets its contract. Assumes nothing.
use mathlib.Core.Path.{◌∙◌}
use Rattle.repair.proofs.Laws.Rebuilding.{begin-passed, begin-done}
use Rattle.repair.proofs.rebuilding.start_rebuild.Goals as goal

pub overflow_cast-disk : goal.overflow_cast-disk
overflow_cast-disk c =
    record { fits = begin-passed c.args.images.now c.args.r c.args.d c.requires }

pub returns : goal.returns
returns c =
    let q = begin-done c.args.images.now c.args.r c.args.d c.requires in
    record { state = c.with_health.ensures ∙ q.1 }
