-- What stores leave alone: within an array they stay inside its images, and a place that they leave byte by byte they leave whole. Assumes nothing.
use Prim.Native.Nat.{ℕ, zero, suc, ◌*◌, ◌<◌}
use mathlib.Core.Path.{◌≡◌, refl, sym, ◌∙◌}
use mathlib.Core.Bool.{Bool, true, false, cond}
use mathlib.Core.Logic.{◌≢◌}
use mathlib.Core.List.{List, [], ◌∷◌, ◌++◌}
use native.Mathlib.Decide.{ℕ_discrete}
use native.Mathlib.Omega.{arith}
use lib.ListN.{length}
use lib.Seq.{ext_get_or}
use Rattle.layout.specs.Limits.{GoodArray}
use Rattle.blocks.specs.Stripe.{place}
use Rattle.blocks.proofs.Laws.Grid.{Grid, store_at, store_at-row, store_at-far}
use Rattle.blocks.proofs.Laws.Stripe.{cell, place-in, length-place, get_or-place}
use Rattle.state.specs.declared.types.Record.{Record}
use Rattle.state.specs.Good.{geometry}
use Rattle.calls.specs.Images.{disks_of, size, Store, block, header, stored, recorded}
use Rattle.calls.specs.Table.{idle}
use Rattle.calls.specs.Effect.{move_stores, advance_stores}
use Rattle.calls.specs.Alone.{Inside}
use Rattle.calls.proofs.Laws.Column.{Mask, store_if}
use Rattle.calls.proofs.Laws.Stores.{Within, within-append}
use Rattle.calls.proofs.Laws.Moved.{moved, good-moved, within-move, long-move}

-- ---- N disks of T stripes of B bytes

module _ (N B T len : ℕ) (whole : len ≡ N * (T * B)) where
  pub inside-within : (ps : List Store) → Within N B T ps → Inside len B T ps
  unfolding Within Inside
  inside-within [] w = tt
  inside-within (block S d v ∷ ps) w = (w.2, rw whole (place-in B T S d N w.0 w.1), inside-within ps w.3)
  inside-within (header x ∷ ps) w = inside-within ps w

  pub same_place : (img J : List ℕ) → length img ≡ len → length J ≡ len → (S d : ℕ) → S < T → d < N
      → ((j : ℕ) → j < B → cell B T J j S d ≡ cell B T img j S d) → place B T J S d ≡ place B T img S d
  same_place img J long long' S d lS ld same =
      let full : length (place B T img S d) ≡ B = length-place B T img S d N lS ld (rw (long, whole) (omega arith)) in
      let full' : length (place B T J S d) ≡ B = length-place B T J S d N lS ld (rw (long', whole) (omega arith)) in
      ext_get_or 0 (place B T J S d) (place B T img S d) (full' ∙ sym full)
      (λ j l. let lj : j < B = rw full' at l in get_or-place B T J S d j lj ∙ same j lj ∙ sym (get_or-place B T img S d j lj))

-- ---- a store that skips what is masked, seen from any other place and from a masked one

module _ (a : Mask) (I : Grid) (S d v : ℕ) (s e : ℕ) where
  pub store_if-other : (s ≡ S → e ≢ d) → store_if a I S d v s e ≡ I s e
  store_if-other ne = go (a S d) (ℕ_discrete s S)
    where
      go : (b : Bool) → Dec (s ≡ S) → cond b I (store_at I S d v) s e ≡ I s e
      go true x = refl
      go false (yes q) = rw (q, store_at-row I S d v e (ne q))
      go false (no n) = store_at-far I S d v s e n

  pub store_if-masked : a s e ≡ true → store_if a I S d v s e ≡ I s e
  store_if-masked u = go (a S d) refl (ℕ_discrete s S) (ℕ_discrete e d)
    where
      go : (b : Bool) → a S d ≡ b → Dec (s ≡ S) → Dec (e ≡ d) → cond b I (store_at I S d v) s e ≡ I s e
      go true q x y = refl
      go false q (yes p) (yes p') = let z : true ≡ false = sym u ∙ rw (p, p') q in let w : store_at I S d v s e ≡ I s e = cc in w
      go false q (yes p) (no n) = rw (p, store_at-row I S d v e n)
      go false q (no n) y = store_at-far I S d v s e n

-- ---- the moves of an advance, each on what the ones before left

pub within-advance : (k : ℕ) (r : Record) (img : List ℕ) → GoodArray (geometry r) → length img ≡ size r → Within (disks_of r) r.block r.stripes (advance_stores k r img)
unfolding advance_stores stored recorded move_stores Within
within-advance zero r img good long = tt
within-advance (suc k) r img good long = go (idle (geometry r)) refl (λ q. within-advance k (moved r) J (good-moved r good q) (long-move r img good q long))
  where
    J : List ℕ
    J = stored r.block r.stripes (move_stores r img) img

    qs : List Store
    qs = advance_stores k (moved r) J

    go : (b : Bool) → idle (geometry r) ≡ b → (idle (geometry r) ≡ false → Within (disks_of r) r.block r.stripes qs)
        → Within (disks_of r) r.block r.stripes (elim b as (λ y. List Store) [ true ↦ [] | false ↦ move_stores r img ++ qs ])
    go true q f = tt
    go false q f = within-append (disks_of r) r.block r.stripes (move_stores r img) qs (within-move r img good q long) (f q)
