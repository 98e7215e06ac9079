-- Out: with one disk out the images hold the same list, whatever that disk then holds, also if some of it was rebuilt; a second one out is
-- lost. Assumes nothing.
use Prim.Native.Nat.{ℕ, ◌<◌}
use mathlib.Core.Path.{◌≡◌, refl}
use mathlib.Core.Bool.{Bool, true, false, cond, ◌&&◌}
use mathlib.Core.List.{List}
use native.Mathlib.Omega.{arith}
use lib.Dec.{eqb, leb}
use borrow.Author.Tests.{eqb-true}
use Rattle.layout.specs.Layout.{layout}
use Rattle.blocks.proofs.Laws.Rows.{rest}
use Rattle.state.specs.declared.types.Health.TheVariants.{Whole, Out, Lost, Rebuilding}
use Rattle.state.specs.declared.types.Health.{Health}
use Rattle.state.specs.declared.types.Record.{Record}
use Rattle.state.specs.Good.{geometry, HealthWithin}
use Rattle.state.specs.Update.{with_health}
use Rattle.state.proofs.Laws.Good.{turned}
use Rattle.calls.specs.Call.{out}
use Rattle.calls.specs.Health.{is_lost, absent, after_out}
use Rattle.calls.specs.Images.{disks_of}
use Rattle.calls.specs.Table.{later_rows, word}
use Rattle.calls.proofs.Laws.Column.{reseen}
use Rattle.calls.proofs.Laws.Holding.{Holding, bytes_at, cell_in, single}
use Rattle.calls.proofs.Laws.Passed as passed

module _ (r : Record) (left : List ℕ) (bs : List (List ℕ)) (h : Holding r left bs) (d : ℕ) (c len room : ℕ) where
  out_within : (x : Health) → d < disks_of r → HealthWithin (disks_of r) r.stripes (after_out x d)
  out_within Whole l = l
  out_within (Out o) l = tt
  out_within Lost l = tt
  out_within (Rebuilding o q) l = go (eqb d o)
    where
      go : (b : Bool) → HealthWithin (disks_of r) r.stripes (cond b (Out d) Lost)
      go true = l
      go false = tt

  -- what is seen of a place that stays is what was seen of it
  same_seen : (x : Health) → is_lost (after_out x d) ≡ false → (j S e : ℕ) → absent (after_out x d) S e ≡ false
      → cell_in r left j S e ≡ cond (absent x S e) (rest (disks_of r) e (cell_in r left j S)) (cell_in r left j S e)
  same_seen Whole u j S e q = refl
  same_seen (Out o) u j S e q = absurd (let w : ◌≡◌ {A = ℕ} 0 1 = cc in omega arith)
  same_seen Lost u j S e q = absurd (let w : ◌≡◌ {A = ℕ} 0 1 = cc in omega arith)
  same_seen (Rebuilding o k) u j S e q = go (eqb d o) refl u q
    where
      -- the same disk out: every other is in, as it was
      go : (b : Bool) → eqb d o ≡ b → is_lost (cond b (Out d) Lost) ≡ false → absent (cond b (Out d) Lost) S e ≡ false
          → cell_in r left j S e ≡ cond (eqb e o && leb k S) (rest (disks_of r) e (cell_in r left j S)) (cell_in r left j S e)
      go true p u q = let z : eqb e o ≡ false = rw (← eqb-true d o p) q in rw z refl
      go false p u q = absurd (let w : ◌≡◌ {A = ℕ} 0 1 = cc in omega arith)

  pub outs : word (later_rows (out d) r c len room) ≡ 0 → Holding (with_health r (after_out r.health d)) left bs
  outs z =
      let q = passed.falls r c len room d z in
      record {
        limits = turned r (after_out r.health d) h.limits (out_within r.health q.disk_lt);
        long = h.long;
        count = h.count;
        whole = h.whole;
        stored = λ u j lj.
            reseen (disks_of r) r.stripes (layout (geometry r)).owner (absent r.health) (absent (after_out r.health d)) (cell_in r left j) (cell_in r left j) (bytes_at j bs)
            (single (disks_of r) r.stripes r.health q.here) (h.stored q.here j lj) (λ S e lS le x. same_seen r.health u j S e x);
      }
