-- `blanks_are_zero` meets its contract. Assumes nothing.
use Prim.Native.Nat.{ℕ, ◌≤◌}
use borrow.Author.Tests.{tests}
use mathlib.Core.Bool.{Bool, ◌||◌}
use mathlib.Core.Path.{refl, ap, ◌∙◌}
use native.Mathlib.Omega.{arith}
use Rattle.std.proofs.Common.{rules}
use Rattle.std.proofs.lemmas.Iterator.{YieldsList-from_range}
use Rattle.std.proofs.lemmas.Iterator.Search.{all_from_yields_List}
use Rattle.layout.specs.Closed.{taken}
use Rattle.blocks.specs.Block.{is_zeros}
use Rattle.calls.specs.Images.{place_in, disks_of}
use Rattle.scrub.specs.declared.sweeping.Stripes.{Stripes}
use Rattle.scrub.proofs.Laws.Sweeping.{taken-there, all-asked}
use Rattle.layout.specs.Layout.{open_stripes}
use Rattle.state.specs.Good.{geometry}
use Rattle.scrub.proofs.sweeping.Stripes.blanks_are_zero.Goals as goal

closed : (x : Stripes) (s : ℕ) → x.full ≤ s → open_stripes (geometry x.array.rec) ≤ s
closed x s l = omega (arith, x.counted)

pub returns : goal.returns
returns c =
    let x = c.args.self.now in
    let s = c.args.s in
    let row = c.of-x.result in
    let zero : ℕ → Bool = λ d. is_zeros x.array.rec.block (place_in x.array.rec x.images.now s d) in
    let f : ℕ → Bool = λ d. taken row.array.old row.array.new row.array.moves row.stripe.number d || zero d in
    let disks = YieldsList-from_range 0 c.disks_of-disks.result (disks_of x.array.rec) refl (omega (arith, c.disks_of-disks.ensures.count)) in
    let all = all_from_yields_List f _ _ c.all.result c.all.ensures.ran disks (λ d b q k. search (rules, tests)) in
    let is = λ (d : ℕ). ap (λ (t : Bool). t || zero d) (taken-there x.array.rec s d _ _ _ c.geometry_of.ensures c.of-x.ensures) in
    record { answer = all ∙ all-asked x.array.rec x.images.now s x.whole (closed x s c.requires.0) f is }
