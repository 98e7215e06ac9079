-- One byte of every place, as a grid: one place of it replaced. Assumes nothing.
use Prim.Native.Nat.{ℕ}
use mathlib.Core.Path.{◌≡◌}
use mathlib.Core.Logic.{◌≢◌}
use native.Mathlib.Decide.{ℕ_discrete}
use Rattle.blocks.proofs.Laws.Rows.{put, put_same, put_other}

-- stripes, then disks
abbrev pub Grid : Type 0
Grid = ℕ → ℕ → ℕ

unfoldable pub store_at : Grid → ℕ → ℕ → ℕ → Grid
store_at I S d v = put I S (put (I S) d v)

module _ (I : Grid) (S d v : ℕ) where
  -- the row stored into, and every other
  pub store_at-this-row : store_at I S d v S ≡ put (I S) d v
  unfolding store_at
  store_at-this-row = put_same I S (put (I S) d v)

  pub store_at-far-row : (S' : ℕ) → S' ≢ S → store_at I S d v S' ≡ I S'
  unfolding store_at
  store_at-far-row S' h = put_other I S (put (I S) d v) S' h

  pub store_at-same : store_at I S d v S d ≡ v
  store_at-same = rw (store_at-this-row, put_same (I S) d v)

  pub store_at-row : (d' : ℕ) → d' ≢ d → store_at I S d v S d' ≡ I S d'
  store_at-row d' h = rw (store_at-this-row, put_other (I S) d v d' h)

  pub store_at-far : (S' d' : ℕ) → S' ≢ S → store_at I S d v S' d' ≡ I S' d'
  store_at-far S' d' h = rw (store_at-far-row S' h)

-- a store changes one place whatever the grid
pub store_at-cong : (I J : Grid) (S d v S' d' : ℕ) → I S' d' ≡ J S' d' → store_at I S d v S' d' ≡ store_at J S d v S' d'
store_at-cong I J S d v S' d' q = go (ℕ_discrete S' S) (ℕ_discrete d' d)
  where
    go : Dec (S' ≡ S) → Dec (d' ≡ d) → store_at I S d v S' d' ≡ store_at J S d v S' d'
    go (yes p) (yes p') = rw (p, p', store_at-same I S d v, store_at-same J S d v)
    go (yes p) (no n) = rw (p, store_at-row I S d v d' n, store_at-row J S d v d' n, ← p) q
    go (no n) x = rw (store_at-far I S d v S' d' n, store_at-far J S d v S' d' n) q
