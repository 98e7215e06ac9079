-- `of_format` meets its contract. Assumes nothing.
use Prim.Native.Nat.{◌*◌}
use mathlib.Core.Path.{◌≡◌, refl, sym, ap, ◌∙◌}
use mathlib.Core.Bool.{true, not}
use mathlib.Core.List.{[], ◌∷◌}
use native.Mathlib.Omega.{arith}
use Rattle.conditions.proofs.Tests.{went_on, returned}
use Rattle.calls.specs.Table.{formable, images}
use Rattle.calls.proofs.Laws.Table.{given, skipped, format-rows}
use Rattle.layout.specs.Layout.{capacity}
use Rattle.state.specs.Good.{geometry}
use Rattle.conditions.proofs.Asked.{same, other}
use Rattle.refusals.proofs.Laws.Bounds.{Bounded, bounded}
use Rattle.calls.proofs.Laws.Format.{limits}
use Rattle.refusals.proofs.refusal.of_format.Goals as goal
use Rattle.refusals.proofs.refusal.of_format.Goals.{Else-not-is_formable}

-- what the first test has shown
fits : (c : Else-not-is_formable) → formable c.args.n c.args.block c.args.stripes ≡ true
fits c = went_on c.is_formable.ensures.answer c.if-not-is_formable.false

sizes : (c : Else-not-is_formable) → Bounded c.args.n c.args.stripes c.args.block
sizes c =
    let l = limits _ _ _ (fits c) in
    bounded _ _ _ (omega (arith, l.array.disks.n_high)) l.array.stripes_high l.block_high

pub returns-then-not-is_formable : goal.returns-then-not-is_formable
returns-then-not-is_formable c =
    record {
      number =
          λ r.
          let a = c.args in
          sym (format-rows r (capacity (geometry r)) a.images 0 a.n a.block a.stripes
          ∙ given 6 (images (a.n * (a.stripes * a.block)) a.images ∷ []) (ap not (returned c.is_formable.ensures.answer c.if-not-is_formable.true)));
    }

pub overflow_mul-stripes : goal.overflow_mul-stripes
overflow_mul-stripes c = omega (arith, (sizes (goal.at.overflow_mul-stripes c).Else-not-is_formable).disk)

pub overflow_mul-n : goal.overflow_mul-n
overflow_mul-n c = omega (arith, (sizes (goal.at.overflow_mul-n c).Else-not-is_formable).all)

pub returns-then-images-n : goal.returns-then-images-n
returns-then-images-n c =
    record {
      number =
          λ r.
          let a = c.args in
          sym (format-rows r (capacity (geometry r)) a.images 0 a.n a.block a.stripes
          ∙ skipped 6 (images (a.n * (a.stripes * a.block)) a.images ∷ []) (ap not (fits (goal.at.returns-then-images-n c).Else-not-is_formable)) ∙ given 7 [] (ap not (other refl c.if-images-n.true)));
    }

pub returns : goal.returns
returns c =
    record {
      number =
          λ r.
          let a = c.args in
          sym (format-rows r (capacity (geometry r)) a.images 0 a.n a.block a.stripes
          ∙ skipped 6 (images (a.n * (a.stripes * a.block)) a.images ∷ []) (ap not (fits (goal.at.returns c).Else-not-is_formable)) ∙ skipped 7 [] (ap not (same refl c.if-images-n.false)));
    }
