-- Stores of zeroes over whole disks are one store of one run. Assumes nothing.
use Prim.Native.Nat.{ℕ, zero, suc, ◌+◌, ◌*◌}
use mathlib.Core.Path.{◌≡◌, sym, ap, ap₂, ◌∙◌}
use mathlib.Core.List.{List, [], ◌∷◌}
use native.Mathlib.Omega.{arith}
use lib.ListN.{length-replicate}
use Rattle.blocks.specs.Block.{store, zeros}
use Rattle.blocks.specs.Stripe.{offset}
use Rattle.blocks.proofs.Laws.Block.{store-nil, store-append, zeros-append}
use Rattle.calls.specs.Images.{block, stored, fill_disk, zero_disks}
use Rattle.calls.proofs.Laws.Stores.{stored-append}

-- one run of zeroes after another
zeros-behind : (img : List ℕ) (at a b : ℕ) → store (store img at (zeros a)) (at + a) (zeros b) ≡ store img at (zeros (a + b))
zeros-behind img at a b =
    ap (λ (n : ℕ). store (store img at (zeros a)) (at + n) (zeros b)) (sym (length-replicate {A = ℕ} a 0))
    ∙ sym (store-append img at (zeros a) (zeros b))
    ∙ ap (store img at) (sym (zeros-append a b))

module _ (B T : ℕ) (img : List ℕ) where
  zeroed-disk : (k d : ℕ) → stored B T (fill_disk 0 k d (λ S. zeros B)) img ≡ store img (d * (T * B)) (zeros (k * B))
  unfolding stored fill_disk
  zeroed-disk zero d = sym (ap (λ (n : ℕ). store img (d * (T * B)) (zeros n)) (let z : 0 * B ≡ 0 = omega arith in z) ∙ store-nil img (d * (T * B)))
  zeroed-disk (suc k) d =
      let at : offset B T (0 + k) d ≡ d * (T * B) + k * B = omega arith in
      let len : k * B + B ≡ suc k * B = omega arith in
      stored-append B T (fill_disk 0 k d (λ S. zeros B)) (block (0 + k) d (zeros B) ∷ []) img
      ∙ ap₂ (λ (l : List ℕ) (n : ℕ). store l n (zeros B)) (zeroed-disk k d) at
      ∙ zeros-behind img (d * (T * B)) (k * B) B
      ∙ ap (λ (n : ℕ). store img (d * (T * B)) (zeros n)) len

pub zeroed : (B T first : ℕ) (img : List ℕ) (more : ℕ) → stored B T (zero_disks B T first more) img ≡ store img (first * (T * B)) (zeros (more * (T * B)))
unfolding stored zero_disks
zeroed B T first img zero = sym (ap (λ (n : ℕ). store img (first * (T * B)) (zeros n)) (let z : 0 * (T * B) ≡ 0 = omega arith in z) ∙ store-nil img (first * (T * B)))
zeroed B T first img (suc more) =
    let at : (first + more) * (T * B) ≡ first * (T * B) + more * (T * B) = omega arith in
    let len : more * (T * B) + T * B ≡ suc more * (T * B) = omega arith in
    stored-append B T (zero_disks B T first more) (fill_disk 0 T (first + more) (λ S. zeros B)) img
    ∙ zeroed-disk B T (stored B T (zero_disks B T first more) img) T (first + more)
    ∙ ap₂ (λ (l : List ℕ) (n : ℕ). store l n (zeros (T * B))) (zeroed B T first img more) at
    ∙ zeros-behind img (first * (T * B)) (more * (T * B)) (T * B)
    ∙ ap (λ (n : ℕ). store img (first * (T * B)) (zeros n)) len
