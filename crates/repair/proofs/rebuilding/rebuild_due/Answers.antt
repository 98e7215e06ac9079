-- `rebuild_due` meets its contract, by what its calls ensure. Assumes nothing.
use Prim.Native.Nat.{ℕ, ◌-◌, min}
use mathlib.Core.Path.{◌≡◌, ap, ◌∙◌}
use native.Mathlib.Omega.{arith}
use Rattle.state.specs.declared.types.Health.{Health}
use Rattle.state.specs.declared.types.Record.{Record}
use Rattle.state.specs.Bytes.{stripes_done}
use Rattle.state.specs.Update.{with_health}
use Rattle.repair.proofs.Laws.Rebuilding.{continue-passed, continue-done}
use Rattle.repair.proofs.rebuilding.rebuild_due.Goals as goal
use Rattle.repair.proofs.rebuilding.rebuild_due.Goals.{After-due-count}

-- how many are made
count-is : (c : After-due-count) →
    let a = c.args in
    c.due-count.result ≡ min a.k (a.a.rec.stripes - stripes_done a.a.rec.health)
count-is c =
    let a = c.args in
    c.due-count.ensures.count ∙ ap (λ (x : ℕ). min a.k (a.a.rec.stripes - x)) c.stripes_done-done.ensures

pub overflow_sub-r : goal.overflow_sub-r
overflow_sub-r c =
    let a = c.args in
    omega (arith, c.stripes_done-done.ensures, (continue-passed a.images.now a.a.rec a.k c.requires a.a.good).1)

pub fill_disk_alone-requires : goal.fill_disk_alone-requires
fill_disk_alone-requires c =
    let a = c.args in
    let p = continue-passed a.images.now a.a.rec a.k c.requires a.a.good in
    (rw c.disk_byte-disk.ensures p.0, rw (c.stripes_done-done.ensures, count-is (goal.at.fill_disk_alone-requires c).After-due-count) p.2, p.3)

pub returns : goal.returns
returns c =
    let a = c.args in
    let q = continue-done a.images.now a.a.rec a.k c.requires _ (count-is (goal.at.returns c).After-due-count) in
    let q' = rw (← c.stripes_done-done.ensures, ← c.disk_byte-disk.ensures) at q in
    record { answer = q'.0; state = c.with_health.ensures ∙ ap {B = Record} (λ (x : Health). with_health a.a.rec x) c.rebuilt_to.ensures.health ∙ q'.1; images = c.fill_disk_alone.ensures.images ∙ q'.2 }
