-- `write_marks` meets its contract. The loop has written the first b blocks. Assumes nothing.
use Prim.Native.Nat.{ℕ, ◌+◌}
use mathlib.Core.Path.{◌≡◌, refl, sym, ap, ap₂, ◌∙◌}
use mathlib.Core.List.{List, []}
use native.Mathlib.Numerals.{add-one}
use native.Mathlib.Omega.{arith}
use Rattle.state.specs.declared.types.Record.{Record}
use Rattle.calls.specs.Call.{write, on}
use Rattle.calls.specs.Effect.{called}
use Rattle.viewer.specs.Marks.{mark, marked}
use Rattle.viewer.proofs.marks.write_marks.Goals as goal

-- the turn of block b
one_more : (r : Record) (before images bytes after : List ℕ) (b : ℕ) → images ≡ marked r before b → bytes ≡ mark b
    → after ≡ (called (on (write b bytes) images []) r).images → after ≡ marked r before (b + 1)
unfolding marked
one_more r before images bytes after b p q e =
    e ∙ ap₂ (λ (x y : List ℕ). (called (on (write b x) y []) r).images) q p ∙ ap (marked r before) (sym (add-one b))

pub loop-b-init : goal.loop-b-init
unfolding marked
loop-b-init c = (refl, refl, omega arith)

pub loop-b-preserved : goal.loop-b-preserved
loop-b-preserved c = (one_more _ _ _ _ _ _ c.loop-b.invariant.0 c.mark.ensures c.write.ensures.images, omega arith, omega arith)
