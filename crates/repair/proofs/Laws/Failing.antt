-- Out: what holds of what it is given once the table lets it through. Assumes nothing.
use Prim.Native.Nat.{ℕ, ◌<◌}
use mathlib.Core.Path.{◌≡◌, refl}
use native.Mathlib.Omega.{arith}
use Rattle.layout.specs.Layout.{capacity}
use Rattle.state.specs.declared.types.Record.{Record}
use Rattle.state.specs.Good.{geometry}
use Rattle.calls.specs.Call.{out, feed}
use Rattle.calls.specs.Table.{refusal_of}
use Rattle.calls.proofs.Laws.Passed.{passed, in-limits, falls}

pub out-asks : (r : Record) (d : ℕ) → refusal_of r (feed (out d) 0 0) ≡ 0 → d < 32
out-asks r d z =
    let p = falls r (capacity (geometry r)) 0 0 d (passed r (capacity (geometry r)) (feed (out d) 0 0) z) in
    let l = (in-limits r (capacity (geometry r)) (feed (out d) 0 0) refl z).array.disks in
    omega (arith, p.disk_lt, l.n_high, l.m_high)
