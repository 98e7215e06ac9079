-- What a read, a view or a write stands on that the table lets through. Assumes nothing.
use Prim.Native.Nat.{ℕ, ◌+◌, ◌*◌, ◌≤◌, ◌<◌}
use mathlib.Core.Path.{◌≡◌, refl, sym, ap, ◌∙◌, subst}
use mathlib.Core.Bool.{true, false}
use mathlib.Core.Logic.{◌≢◌}
use mathlib.Core.List.{List}
use native.Mathlib.Omega.{arith}
use Rattle.layout.specs.declared.Geometry.{Geometry}
use Rattle.layout.specs.declared.Place.{Place}
use Rattle.layout.specs.declared.Slot.{Slot}
use Rattle.layout.specs.declared.Standing.{Standing}
use Rattle.layout.specs.Layout.{capacity, layout}
use Rattle.layout.specs.Limits.{GoodArray}
use Rattle.layout.specs.Slots.{slot_of}
use Rattle.blocks.specs.Block.{block_at}
use Rattle.blocks.specs.Stripe.{offset}
use Rattle.blocks.proofs.Laws.Stripe.{place-in}
use Rattle.state.specs.declared.types.Record.{Record}
use Rattle.state.specs.Good.{geometry, GoodRecord}
use Rattle.access.specs.declared.types.Choice.TheVariants.{Part, Scratch}
use Rattle.access.specs.Viewing.{choice_of}
use Rattle.calls.specs.Call.{read, feed}
use Rattle.calls.specs.Health.{is_lost, absent}
use Rattle.calls.specs.Images.{disks_of, size, others_in, seen}
use Rattle.calls.specs.Table.{refusal_of}
use Rattle.calls.specs.Effect.{standing, block_of, view_of, scratch_left}
use Rattle.calls.proofs.Laws.Passed.{passed, Reaches, reads}
use Rattle.calls.proofs.Laws.Write.{lS, ld, lp, parity-apart}

-- block b stands as y says, inside the images, and its parity on another disk
pub record Reached (r : Record) (len b room : ℕ) (y : Standing) : Type 0 where
  pub limits : GoodRecord r
  pub here : is_lost r.health ≡ false
  pub long : len ≡ size r
  pub whole : room ≡ r.block
  pub is : y ≡ standing r b
  pub stripe_lt : y.block.stripe < r.stripes
  pub disk_lt : y.block.disk < disks_of r
  pub parity_lt : y.parity.disk < disks_of r
  pub apart : y.parity.disk ≢ y.block.disk

module _ (r : Record) (good : GoodRecord r) (len b room : ℕ) (z : refusal_of r (feed (read b) len room) ≡ 0) (g : Geometry) (e : g ≡ geometry r) where
  lets : Reaches r (capacity (geometry r)) len b room
  lets = reads r (capacity (geometry r)) len room b (passed r (capacity (geometry r)) (feed (read b) len room) z)

  pub asked : GoodArray g × (b < capacity g)
  asked = subst (λ (x : Geometry). GoodArray x × (b < capacity x)) (sym e) (good.array, lets.block-lt)

  -- for place_of, which has the block's slot from slot_of
  pub asked-slot : (s : Slot) → s ≡ slot_of g b → GoodArray g × (b < capacity g) × (s ≡ slot_of g b)
  asked-slot s f = (asked.0, asked.1, f)

  pub reached : (y : Standing) → y ≡ (layout g).place b → Reached r len b room y
  reached y f =
      let is : y ≡ standing r b = f ∙ ap (λ (x : Geometry). (layout x).place b) e in
      let a = good.array in
      let lb = lets.block-lt in
      record {
        limits = good;
        here = lets.here;
        long = lets.long;
        whole = lets.whole;
        is = is;
        stripe_lt = rw is (lS (geometry r) a b lb);
        disk_lt = rw is (ld (geometry r) a b lb);
        parity_lt = rw is (lp (geometry r) a b lb);
        apart = rw is (parity-apart (geometry r) a b lb);
      }

module _ {r : Record} {len b room : ℕ} {y : Standing} (x : Reached r len b room y) where
  abbrev q : Place
  q = y.block

  -- its place lies inside the images
  pub inside : {at : ℕ} → at ≡ offset r.block r.stripes q.stripe q.disk → at + room ≤ len
  inside e = rw (e, x.whole, x.long) (place-in r.block r.stripes q.stripe q.disk (disks_of r) x.stripe_lt x.disk_lt)

  -- no block is longer than what a copy goes through
  pub short : room ≤ 4096
  short = rw x.whole x.limits.block_high

  pub summed : {N : ℕ} → N ≡ disks_of r → (1 ≤ room) × (q.stripe < r.stripes) × (N * (r.stripes * room) ≤ len)
  summed e = rw (e, x.whole, x.long) (x.limits.block_low, x.stripe_lt, omega arith)

  -- what is seen there, by whether its disk is absent
  pub block_out : (img : List ℕ) → absent r.health q.stripe q.disk ≡ true → others_in r img q.stripe q.disk ≡ block_of r img b
  unfolding seen
  block_out img u = rw (x.is, rw x.is at u) refl

  pub block_in : (img : List ℕ) {at : ℕ} → at ≡ offset r.block r.stripes q.stripe q.disk → absent r.health q.stripe q.disk ≡ false
      → block_at img at room ≡ block_of r img b
  unfolding seen
  block_in img e u = rw (e, x.whole, x.is, rw x.is at u) refl

  -- .. and which view it is
  pub choice-out : (img scratch : List ℕ) → absent r.health q.stripe q.disk ≡ true
      → (Scratch ≡ choice_of (view_of r b)) × (others_in r img q.stripe q.disk ≡ scratch_left r img b scratch)
  unfolding view_of scratch_left
  choice-out img scratch u = rw (x.is, rw x.is at u) (refl, refl)

  pub choice-in : (img scratch : List ℕ) {at : ℕ} → at ≡ offset r.block r.stripes q.stripe q.disk → absent r.health q.stripe q.disk ≡ false
      → (Part at ≡ choice_of (view_of r b)) × (scratch ≡ scratch_left r img b scratch)
  unfolding view_of scratch_left
  choice-in img scratch e u = rw (e, x.is, rw x.is at u) (refl, refl)
