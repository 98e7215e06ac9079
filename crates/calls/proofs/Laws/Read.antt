-- Read and view: both give the block of the list, and leave the images as they were lent. Assumes nothing.
use Prim.Native.Nat.{ℕ}
use mathlib.Core.Path.{◌≡◌, refl, ap, ◌∙◌}
use mathlib.Core.Bool.{Bool, true, false, cond}
use mathlib.Core.List.{List, []}
use lib.ListN.{length, get_or}
use Rattle.layout.specs.Layout.{capacity}
use Rattle.blocks.specs.Stripe.{offset}
use Rattle.state.specs.declared.types.Record.{Record}
use Rattle.state.specs.Good.{geometry}
use Rattle.calls.specs.Call.{read, view, on, bytes}
use Rattle.calls.specs.Health.{absent}
use Rattle.calls.specs.Images.{size, place_in, others_in, seen, stored, recorded}
use Rattle.calls.specs.Table.{later_rows, word}
use Rattle.calls.specs.Effect.{place_of, block_of, part, scratch, view_of, scratch_left, viewed, effect, act}
use Rattle.calls.proofs.Laws.Holding.{Holding, Leaves, block-is}
use Rattle.calls.proofs.Laws.Passed as passed
use Rattle.calls.proofs.Laws.Passed.{Reaches}

-- a view shows the block, in the images or in the scratch
pub viewed-is : (r : Record) (img room : List ℕ) (b : ℕ) → viewed (view_of r b) img (scratch_left r img b room) ≡ block_of r img b
unfolding view_of scratch_left seen
viewed-is r img room b = go (absent r.health S d)
  where
    S : ℕ
    S = (place_of r b).stripe

    d : ℕ
    d = (place_of r b).disk

    go : (c : Bool) → viewed (cond c scratch (part (offset r.block r.stripes S d) r.block)) img (cond c (others_in r img S d) room) ≡ cond c (others_in r img S d) (place_in r img S d)
    go true = refl
    go false = refl

module _ (r : Record) (img room : List ℕ) (bs : List (List ℕ)) (lends : length img ≡ size r → Holding r img bs) (b : ℕ) where
  given : Reaches r (capacity (geometry r)) (length img) b (length room) → (block_of r img b ≡ get_or bs b []) × Holding r img bs
  given q = let h : Holding r img bs = lends q.long in (block-is r img bs h b q.block-lt q.here, h)

  pub reads : word (later_rows (read b) r (capacity (geometry r)) (length img) (length room)) ≡ 0
      → Leaves (act (on (read b) img room) r) (bytes (get_or bs b [])) r bs
  unfolding effect stored recorded
  reads z = let (p, h) = given (passed.reads r (capacity (geometry r)) (length img) (length room) b z) in record { answer = ap bytes p; state = refl; holding = h }

  pub views : word (later_rows (view b) r (capacity (geometry r)) (length img) (length room)) ≡ 0
      → Leaves (act (on (view b) img room) r) (bytes (get_or bs b [])) r bs
  unfolding effect stored recorded
  views z = let (p, h) = given (passed.views r (capacity (geometry r)) (length img) (length room) b z) in record { answer = ap bytes (viewed-is r img room b ∙ p); state = refl; holding = h }
