-- `make_due` meets its contract, by what its calls ensure. Assumes nothing.
use Prim.Native.Nat.{ℕ, ◌-◌, min}
use mathlib.Core.Path.{◌≡◌, ap, ◌∙◌}
use native.Mathlib.Omega.{arith}
use Rattle.layout.specs.declared.Geometry.{Geometry}
use Rattle.layout.specs.Layout.{total_of}
use Rattle.layout.proofs.Laws.Bounds.{sized}
use Rattle.state.specs.Good.{geometry}
use Rattle.growth.proofs.Laws.Advancing.{advance-passed, advance-done}
use Rattle.growth.proofs.advancing.make_due.Goals as goal
use Rattle.state.specs.declared.types.Record.{Record}

-- the total
total_is : {t : ℕ} {g : Geometry} (r : Record) → t ≡ total_of g → g ≡ geometry r → t ≡ total_of (geometry r)
total_is r e q = e ∙ ap (λ (g : Geometry). total_of g) q

-- the moves that are made
due-is : {due : ℕ} (k : ℕ) (r : Record) (t : ℕ) → due ≡ min k (t - r.moves) → t ≡ total_of (geometry r)
    → due ≡ min k (total_of (geometry r) - r.moves)
due-is k r t e q = e ∙ ap (λ (n : ℕ). min k (n - r.moves)) q

pub total_of-requires : goal.total_of-requires
total_of-requires c = rw c.geometry_of.ensures (sized _ c.args.a.good.array)

pub overflow_sub-left : goal.overflow_sub-left
overflow_sub-left c = rw (total_is c.args.a.rec c.total_of.ensures c.geometry_of.ensures) c.args.a.good.array.moves

pub make_moves-requires : goal.make_moves-requires
make_moves-requires c =
    let a = c.args in
    advance-passed a.images.now a.a.rec a.a.good a.k c.requires _ (omega (arith, c.due-count.ensures.count, total_is c.args.a.rec c.total_of.ensures c.geometry_of.ensures, c.args.a.good.array.moves))

pub returns : goal.returns
returns c =
    let a = c.args in
    let q = advance-done a.images.now a.a.rec a.a.good a.k c.requires _ (due-is a.k a.a.rec _ c.due-count.ensures.count (total_is a.a.rec c.total_of.ensures c.geometry_of.ensures)) in
    record { answer = q.0; state = c.with_moves.ensures ∙ q.1; images = c.make_moves.ensures.images ∙ q.2 }
