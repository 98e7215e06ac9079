-- `sweep` meets its contract. Assumes nothing.
use Prim.Native.Nat.{ℕ}
use mathlib.Core.Path.{◌≡◌, refl, sym}
use mathlib.Core.List.{[]}
use Rattle.std.proofs.Common.{rules}
use Rattle.layout.specs.Layout.{capacity}
use Rattle.state.specs.declared.types.Health.TheVariants.{Whole}
use Rattle.state.specs.declared.types.Record.{Record}
use Rattle.state.specs.Good.{geometry, GoodRecord}
use Rattle.calls.specs.Call.{sweep, feed, on}
use Rattle.calls.specs.Images.{size}
use Rattle.calls.specs.Table.{refusal_of}
use Rattle.calls.specs.Effect.{effect}
use Rattle.calls.proofs.Laws.Passed.{passed, in-limits, sweeps}
use Rattle.refusals.proofs.Laws.Called.{called-stopped, called-done, err-swept}
use Rattle.scrub.proofs.sweeping.sweep.Goals as goal
use Rattle.scrub.proofs.sweeping.sweep.Goals.{In_ok-array}
use lib.ListN.{length}

-- what the call has passed
asked : (r : Record) (n : ℕ) → refusal_of r (feed sweep n 0) ≡ 0 → GoodRecord r × (r.health ≡ Whole) × (n ≡ size r)
asked r n q =
    let cap = capacity (geometry r) in
    let e = feed sweep n 0 in
    let p = sweeps r cap n 0 (passed r cap e q) in
    (in-limits r cap e refl q, p.all_in, p.long)

-- of the array that it answers
held : (c : In_ok-array) → let r = c.in_ok-array.array.rec in
    GoodRecord r × (r.health ≡ Whole) × (length c.args.images.now ≡ size r)
held c = rw c.in_ok-array.ensures.same (asked c.args.r _ (sym c.in_ok-array.ensures.number))

pub invariant_of-stripes : goal.invariant_of-stripes
invariant_of-stripes c =
    let p = held (goal.at.invariant_of-stripes c).In_ok-array in
    record { whole = p.1; long = p.2; counted = search (rules, p) }

pub returns-in_err-array : goal.returns-in_err-array
returns-in_err-array c =
    let a = c.args in
    let x = c.from_residual.result in
    let l = c.from_residual.ensures.0 in
    rw (called-stopped (on sweep a.images.now []) a.r x l (search rules)) (record { answer = err-swept x l })

pub returns : goal.returns
unfolding effect
returns c =
    let a = c.args in
    rw (called-done (on sweep a.images.now []) a.r (sym c.in_ok-array.ensures.number)) (record { answer = rw c.in_ok-array.ensures.same at c.look.ensures.answer })
