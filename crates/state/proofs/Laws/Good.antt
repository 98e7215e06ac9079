-- The limits of a record, from the tests to the facts and back. Assumes nothing.
use Prim.Native.Nat.{ℕ, ◌+◌, ◌≤◌, ◌<◌}
use mathlib.Core.Path.{◌≡◌, refl, ◌∙◌, subst}
use mathlib.Core.Bool.{true}
use native.Mathlib.Decide.{ℕ_discrete}
use native.Mathlib.Omega.{arith}
use lib.Dec.{eqb}
use borrow.Author.Tests.{ltb-true, leb-true, lt-ltb, le-leb, eq-eqb, ne_eqb}
use Rattle.layout.specs.declared.Geometry.{Geometry}
use Rattle.layout.specs.Layout.{total_of}
use Rattle.state.specs.declared.types.Health.TheVariants.{Whole, Out, Lost, Rebuilding}
use Rattle.state.specs.declared.types.Health.{Health}
use Rattle.state.specs.declared.types.Record.{Record}
use Rattle.state.specs.Update.{with_health}
use Rattle.state.specs.Good.{geometry, within, new_good, added_good, moves_good, health_good, good, HealthWithin, GoodRecord}
use Rattle.conditions.proofs.Tests.{both, and-true, second}

-- ---- between two bounds

pub within-true : (low x high : ℕ) → within low x high ≡ true → (low ≤ x) × (x ≤ high)
within-true low x high e = let p = both _ _ e in (leb-true _ _ p.0, leb-true _ _ p.1)

pub true-within : (low x high : ℕ) → low ≤ x → x ≤ high → within low x high ≡ true
true-within low x high p q = and-true _ _ (le-leb _ _ p) ∙ le-leb _ _ q

-- ---- new disks

pub added-high : (m : ℕ) → added_good m ≡ true → m ≤ 16
added-high m e = elim (ℕ_discrete m 0) [ yes z ↦ omega arith | no z ↦ (within-true 1 m 16 (second (eqb m 0) (new_good m) e (ne_eqb m 0 z))).1 ]

high-added : (m : ℕ) → m ≤ 16 → added_good m ≡ true
high-added m h = elim (ℕ_discrete m 0) [ yes z ↦ rw (eq-eqb m 0 z) refl | no z ↦ rw (ne_eqb m 0 z) (true-within 1 m 16 (omega arith) h) ]

-- ---- moves

module _ (g : Geometry) where
  moves-good : moves_good g ≡ true → (g.new ≤ 16) × (g.moves ≤ total_of g)
  unfolding moves_good
  moves-good e = let p = both _ _ e in (added-high g.new p.0, leb-true _ _ p.1)

  good-moves : g.new ≤ 16 → g.moves ≤ total_of g → moves_good g ≡ true
  unfolding moves_good
  good-moves p q = and-true _ _ (high-added g.new p) ∙ le-leb _ _ q

-- ---- health

module _ (N T : ℕ) where
  health-within : (h : Health) → health_good N T h ≡ true → HealthWithin N T h
  health-within Whole e = tt
  health-within (Out d) e = ltb-true d N e
  health-within Lost e = tt
  health-within (Rebuilding d c) e = let p = both _ _ e in (ltb-true d N p.0, ltb-true c T p.1)

  within-health : (h : Health) → HealthWithin N T h → health_good N T h ≡ true
  within-health Whole o = refl
  within-health (Out d) o = lt-ltb d N o
  within-health Lost o = refl
  within-health (Rebuilding d c) o = and-true _ _ (lt-ltb d N o.0) ∙ lt-ltb c T o.1

-- ---- the record

pub limits : (r : Record) → good r ≡ true → GoodRecord r
unfolding good
limits r e =
    let a = both _ _ e in
    let b = both _ _ a.1 in
    let c = both _ _ b.1 in
    let d = both _ _ c.1 in
    let n = within-true 3 r.old 16 a.0 in
    let l = within-true 1 r.block 4096 b.0 in
    let s = within-true 1 r.stripes 1048576 c.0 in
    let v = moves-good (geometry r) d.0 in
    record {
      array = record {
        disks = record { n_low = n.0; n_high = n.1; m_high = v.0 };
        stripes_low = s.0;
        stripes_high = s.1;
        moves = v.1;
      };
      block_low = l.0;
      block_high = l.1;
      health = health-within (r.old + r.new) r.stripes r.health d.1;
    }

pub within-limits : (r : Record) → GoodRecord r → good r ≡ true
unfolding good
within-limits r l =
    let a = l.array in
    and-true _ _ (true-within 3 r.old 16 a.disks.n_low a.disks.n_high)
    ∙ and-true _ _ (true-within 1 r.block 4096 l.block_low l.block_high)
    ∙ and-true _ _ (true-within 1 r.stripes 1048576 a.stripes_low a.stripes_high)
    ∙ and-true _ _ (good-moves (geometry r) a.disks.m_high a.moves)
    ∙ within-health (r.old + r.new) r.stripes r.health l.health

-- the disk that is out is a disk of the array
pub out-lt : (r : Record) (d : ℕ) → GoodRecord r → r.health ≡ Out d → d < r.old + r.new
out-lt r d l e = subst (λ (x : Health). HealthWithin (r.old + r.new) r.stripes x) e l.health

-- so is one that is being rebuilt, and not all of its stripes are done
pub rebuilding-lt : (r : Record) (d c : ℕ) → GoodRecord r → r.health ≡ Rebuilding d c → (d < r.old + r.new) × (c < r.stripes)
rebuilding-lt r d c l e = subst (λ (x : Health). HealthWithin (r.old + r.new) r.stripes x) e l.health

-- another health
pub turned : (r : Record) (h : Health) → GoodRecord r → HealthWithin (r.old + r.new) r.stripes h → GoodRecord (with_health r h)
turned r h l o = record { array = l.array; block_low = l.block_low; block_high = l.block_high; health = o }
