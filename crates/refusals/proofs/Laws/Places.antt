-- Where a place of a good array lies. Assumes nothing.
use Prim.Native.Nat.{ℕ, ◌+◌, ◌≤◌, ◌<◌}
use mathlib.Core.Path.{◌≡◌}
use native.Mathlib.Omega.{arith}
use Rattle.blocks.specs.Stripe.{offset}
use Rattle.blocks.proofs.Laws.Stripe.{place-in}
use Rattle.state.specs.declared.types.Record.{Record}
use Rattle.state.specs.Good.{GoodRecord}
use Rattle.calls.specs.Images.{disks_of, size}
use Rattle.refusals.proofs.Laws.Bounds.{bounded}

-- a place of the images begins below 2^64
pub place-fits : (r : Record) (s d : ℕ) → GoodRecord r → s < r.stripes → d < disks_of r → offset r.block r.stripes s d < 18446744073709551616
place-fits r s d l ls ld =
    let a = l.array in
    let n : disks_of r ≤ 32 = omega (arith, a.disks.n_high, a.disks.m_high) in
    omega (arith, place-in r.block r.stripes s d (disks_of r) ls ld, (bounded (disks_of r) r.stripes r.block n a.stripes_high l.block_high).all)

-- and ends inside the images
pub place-ends : (r : Record) (s d : ℕ) {at len : ℕ} → s < r.stripes → d < disks_of r → len ≡ size r → at ≡ offset r.block r.stripes s d
    → at + r.block ≤ len
place-ends r s d ls ld long q = rw (q, long) (place-in r.block r.stripes s d (disks_of r) ls ld)
