-- Status, locate and owner: what holds of what they are given once the table lets them through. Assumes nothing.
use Prim.Native.Nat.{ℕ, ◌<◌}
use mathlib.Core.Path.{◌≡◌, refl, sym, subst}
use Rattle.layout.specs.declared.Geometry.{Geometry}
use Rattle.layout.specs.Layout.{capacity, disks}
use Rattle.layout.specs.Limits.{GoodArray}
use Rattle.state.specs.declared.types.Record.{Record}
use Rattle.state.specs.Good.{geometry}
use Rattle.calls.specs.Call.{status, locate, owner, feed}
use Rattle.calls.specs.Table.{refusal_of}
use Rattle.calls.proofs.Laws.Passed.{passed, in-limits, locates, owns}

-- the code holds the geometry of r as g
module _ (r : Record) {g : Geometry} (is : g ≡ geometry r) where
  pub status-asks : refusal_of r (feed status 0 0) ≡ 0 → GoodArray g
  status-asks z = subst GoodArray (sym is) (in-limits r (capacity (geometry r)) (feed status 0 0) refl z).array

  pub locate-asks : (b : ℕ) → refusal_of r (feed (locate b) 0 0) ≡ 0 → GoodArray g × (b < capacity g)
  locate-asks b z =
      let e = feed (locate b) 0 0 in
      let lb : b < capacity (geometry r) = locates r (capacity (geometry r)) 0 0 b (passed r (capacity (geometry r)) e z) in
      (subst GoodArray (sym is) (in-limits r (capacity (geometry r)) e refl z).array, subst (λ (x : Geometry). b < capacity x) (sym is) lb)

  pub owner-asks : (S d : ℕ) → refusal_of r (feed (owner S d) 0 0) ≡ 0 → GoodArray g × (S < g.stripes) × (d < disks g)
  owner-asks S d z =
      let e = feed (owner S d) 0 0 in
      let p = owns r (capacity (geometry r)) 0 0 S d (passed r (capacity (geometry r)) e z) in (
        subst GoodArray (sym is) (in-limits r (capacity (geometry r)) e refl z).array,
        subst (λ (x : Geometry). S < x.stripes) (sym is) p.stripe_lt,
        subst (λ (x : Geometry). d < disks x) (sym is) p.disk_lt,
      )
