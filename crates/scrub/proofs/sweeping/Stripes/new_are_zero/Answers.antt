-- `new_are_zero` meets its contract. Assumes nothing.
use Prim.Native.Nat.{ℕ, ◌+◌, ◌≤◌}
use borrow.Author.Tests.{tests}
use mathlib.Core.Bool.{Bool}
use mathlib.Core.Path.{refl, ◌∙◌}
use native.Mathlib.Omega.{arith}
use Rattle.std.proofs.Common.{rules}
use Rattle.std.proofs.lemmas.Iterator.{YieldsList-from_range}
use Rattle.std.proofs.lemmas.Iterator.Search.{all_from_yields_List}
use Rattle.blocks.specs.Block.{is_zeros}
use Rattle.calls.specs.Images.{place_in, disks_of}
use Rattle.scrub.specs.declared.sweeping.Stripes.{Stripes}
use Rattle.scrub.proofs.Laws.Sweeping.{new-asked}
use Rattle.layout.specs.Layout.{open_stripes}
use Rattle.state.specs.Good.{geometry}
use Rattle.scrub.proofs.sweeping.Stripes.new_are_zero.Goals as goal

far : (x : Stripes) (s : ℕ) → x.full + disks_of x.array.rec ≤ s → open_stripes (geometry x.array.rec) + disks_of x.array.rec ≤ s
far x s l = omega (arith, x.counted)

pub returns : goal.returns
returns c =
    let x = c.args.self.now in
    let f : ℕ → Bool = λ d. is_zeros x.array.rec.block (place_in x.array.rec x.images.now c.args.s d) in
    let news = YieldsList-from_range x.array.rec.old (x.array.rec.old + x.array.rec.new) x.array.rec.new refl (omega arith) in
    let all = all_from_yields_List f _ _ c.all.result c.all.ensures.ran news (λ d b q k. search (rules, tests)) in
    record { answer = all ∙ new-asked x.array.rec x.images.now c.args.s x.array.good x.whole (far x c.args.s c.requires.0) c.requires.1 }
