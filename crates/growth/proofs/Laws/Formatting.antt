-- Format: what it leaves, its zeroes as one run. Assumes nothing.
use Prim.Native.Nat.{ℕ, ◌*◌}
use mathlib.Core.Path.{◌≡◌, refl, sym, ap₂, ◌∙◌}
use mathlib.Core.List.{List, []}
use native.Mathlib.Nat.{zero-mul}
use lib.ListN.{length}
use Rattle.blocks.specs.Block.{store, zeros}
use Rattle.layout.specs.Layout.{capacity}
use Rattle.state.specs.declared.types.Record.{Record}
use Rattle.state.specs.Good.{geometry}
use Rattle.state.specs.Update.{formatted}
use Rattle.calls.specs.Call.{format, feed, on, done}
use Rattle.calls.specs.Images.{zero_disks}
use Rattle.calls.specs.Table.{refusal_of}
use Rattle.calls.specs.Effect.{effect, act}
use Rattle.calls.proofs.Laws.Stores.{stored_last, recorded-last}
use Rattle.calls.proofs.Laws.Runs.{zeroed}
use Rattle.calls.proofs.Laws.Passed.{passed, Formats, formats}

module _ (img : List ℕ) (r : Record) (n B T : ℕ) (z : refusal_of r (feed (format n B T) (length img) 0) ≡ 0) where
  pub format-passed : Formats n B T (length img)
  format-passed = formats r (capacity (geometry r)) (length img) 0 n B T (passed r (capacity (geometry r)) (feed (format n B T) (length img) 0) z)

  pub format-done : let x = act (on (format n B T) img []) r in
      (done ≡ x.answer) × (formatted n B T ≡ x.state) × (store img 0 (zeros (length img)) ≡ x.images)
  unfolding effect
  format-done = (
    refl,
    sym (recorded-last (zero_disks B T 0 n) (formatted n B T) r),
    sym (stored_last B T (zero_disks B T 0 n) (formatted n B T) img ∙ zeroed B T 0 img n
        ∙ ap₂ (λ (at len : ℕ). store img at (zeros len)) (zero-mul (T * B)) (sym format-passed.long)),
  )
