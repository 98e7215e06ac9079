-- Grow: what it leaves, its zeroes as one run. Assumes nothing.
use Prim.Native.Nat.{ℕ, ◌-◌, ◌*◌, ◌≤◌}
use mathlib.Core.Path.{◌≡◌, refl, sym, ap, ◌∙◌}
use mathlib.Core.List.{List, []}
use native.Mathlib.Omega.{arith}
use lib.ListN.{length}
use Rattle.blocks.specs.Block.{store, zeros}
use Rattle.layout.specs.Layout.{capacity}
use Rattle.state.specs.declared.types.Record.{Record}
use Rattle.state.specs.Good.{geometry, GoodRecord}
use Rattle.state.specs.Update.{grown_by}
use Rattle.state.proofs.Laws.Good.{within-true}
use Rattle.calls.specs.Call.{grow, feed, on, done}
use Rattle.calls.specs.Images.{zero_disks}
use Rattle.calls.specs.Table.{refusal_of}
use Rattle.calls.specs.Effect.{effect, act}
use Rattle.calls.proofs.Laws.Stores.{stored_last, recorded-last}
use Rattle.calls.proofs.Laws.Runs.{zeroed}
use Rattle.calls.proofs.Laws.Passed.{passed, in-limits, Grows, grows}
use Rattle.refusals.proofs.Laws.Bounds.{Bounded, bounded}

-- of a grow to m more disks
pub record Sizes (r : Record) (len m : ℕ) : Type 0 where
  pub small : m ≤ 16
  pub sizes : Bounded r.old r.stripes r.block
  pub within : r.old * (r.stripes * r.block) ≤ len

module _ (img : List ℕ) (r : Record) (m : ℕ) (z : refusal_of r (feed (grow m) (length img) 0) ≡ 0) where
  grow-passed : Grows r (length img) m
  grow-passed = grows r (capacity (geometry r)) (length img) 0 m (passed r (capacity (geometry r)) (feed (grow m) (length img) 0) z)

  -- the bounds that its arithmetic needs
  pub grow-sizes : Sizes r (length img) m
  grow-sizes =
      let p : Grows r (length img) m = grow-passed in
      let l : GoodRecord r = in-limits r (capacity (geometry r)) (feed (grow m) (length img) 0) refl z in
      let b : Bounded r.old r.stripes r.block = bounded r.old r.stripes r.block (omega (arith, l.array.disks.n_high)) l.array.stripes_high l.block_high in
      record { small = (within-true 1 _ 16 p.fits).1; sizes = b; within = omega (arith, p.long) }

  pub grow-done : let x = act (on (grow m) img []) r in
      let at = r.old * (r.stripes * r.block) in
      (done ≡ x.answer) × (grown_by r m ≡ x.state) × (store img at (zeros (length img - at)) ≡ x.images)
  unfolding effect
  grow-done =
      let ps = zero_disks r.block r.stripes r.old m in
      let at : ℕ = r.old * (r.stripes * r.block) in
      let len : m * (r.stripes * r.block) ≡ length img - at = omega (arith, grow-passed.long) in (
        refl,
        sym (recorded-last ps (grown_by r m) r),
        sym (stored_last r.block r.stripes ps (grown_by r m) img ∙ zeroed r.block r.stripes r.old img m
            ∙ ap (λ (n : ℕ). store img at (zeros n)) len),
      )
