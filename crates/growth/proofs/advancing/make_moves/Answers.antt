-- `make_moves` meets its contract. After `made` turns so many moves are made, and the cursor is at the next. Assumes nothing.
use native.Mathlib.Omega.{arith}
use Rattle.layout.proofs.Laws.Bounds.{total-high}
use Rattle.state.specs.Good.{geometry}
use Rattle.calls.proofs.Laws.Table.{some-new, some_left}
use Rattle.growth.proofs.Laws.Advancing.{made_none, made-good, made-next, made-index, made_more}
use Rattle.growth.proofs.advancing.make_moves.Goals as goal

pub cursor_of-at-requires : goal.cursor_of-at-requires
cursor_of-at-requires c =
    let g = geometry c.args.a.rec in
    let a = c.args.a.good.array in
    (a.disks, omega (arith, some-new g c.requires.0), omega (arith, some_left g a c.requires.0, total-high g a))

pub loop-made-init : goal.loop-made-init
loop-made-init c = let a = c.args in made_none a.a.rec a.images.now a.count _ c.cursor_of-at.ensures

pub overflow_add-r : goal.overflow_add-r
overflow_add-r c =
    omega (arith, c.loop-made-test.true, c.requires.1, total-high (geometry c.args.a.rec) c.args.a.good.array)

pub invariant_of-make_move : goal.invariant_of-make_move
invariant_of-make_move c =
    let a = c.args in
    record { good = made-good a.a.rec a.images.now a.count a.a.good c.requires.0 c.requires.1 c.requires.2 c.loop-made-test.true c.loop-made.invariant _ c.with_moves-rec.ensures }

pub make_move-requires : goal.make_move-requires
make_move-requires c =
    let a = c.args in
    made-next a.a.rec a.images.now a.count a.a.good c.requires.0 c.requires.1 c.requires.2 c.loop-made-test.true c.loop-made.invariant _ c.with_moves-rec.ensures

pub next_move-at-requires : goal.next_move-at-requires
next_move-at-requires c =
    let a = c.args in
    made-index a.a.rec a.images.now a.count a.a.good c.requires.0 c.requires.1 c.requires.2 c.loop-made-test.true c.loop-made.invariant

pub loop-made-preserved : goal.loop-made-preserved
loop-made-preserved c =
    let a = c.args in
    made_more a.a.rec a.images.now a.count a.a.good c.requires.0 c.requires.1 c.requires.2 c.loop-made-test.true c.loop-made.invariant
    c.with_moves-rec.ensures c.make_move.ensures.images c.next_move-at.ensures
