-- The stores of a write, by which of its two disks is absent. Assumes nothing.
use Prim.Native.Nat.{ℕ, ◌+◌, ◌≤◌}
use mathlib.Core.Path.{◌≡◌, refl, sym, ap, ◌∙◌}
use mathlib.Core.Bool.{Bool, true, false}
use mathlib.Core.Logic.{◌≢◌, inr}
use mathlib.Core.List.{List}
use lib.ListN.{length}
use Rattle.layout.specs.declared.Place.{Place}
use Rattle.layout.specs.declared.Standing.{Standing}
use Rattle.blocks.specs.Block.{store, Disjoint}
use Rattle.blocks.specs.Xor.{xor_b}
use Rattle.blocks.specs.Stripe.{offset, place, PlaceInside, others}
use Rattle.parity.specs.Fold.{folded}
use Rattle.blocks.proofs.Laws.Block.{length-store}
use Rattle.blocks.proofs.Laws.Stripe.{place-in, places-apart}
use Rattle.state.specs.declared.types.Record.{Record}
use Rattle.calls.specs.Health.{absent}
use Rattle.calls.specs.Images.{disks_of, seen, stored}
use Rattle.calls.specs.Effect.{write_stores}
use Rattle.calls.proofs.Laws.Column.{Single}
use Rattle.calls.proofs.Laws.Holding.{single}
use Rattle.access.proofs.Laws.Reaching.{Reached, inside, short, summed}

-- a write of v to block b, which stands as y says (a record, so that a proof need not name v)
pub record Aimed (r : Record) (len b : ℕ) (v : List ℕ) (y : Standing) : Type 0 where
  pub reach : Reached r len b (length v) y

module _ {r : Record} {len b : ℕ} {v : List ℕ} {y : Standing} (a : Aimed r len b v y) where
  abbrev x : Reached r len b (length v) y
  x = a.reach

  abbrev q : Place
  q = y.block

  -- the parity's disk
  abbrev p : ℕ
  p = y.parity.disk

  apart : q.disk ≢ p
  apart z = x.apart (sym z)

  -- with the data's disk out the parity's is in
  other-in : absent r.health q.stripe q.disk ≡ true → absent r.health q.stripe p ≡ false
  unfolding Single
  other-in u = go (absent r.health q.stripe p) refl
    where
      go : (c : Bool) → absent r.health q.stripe p ≡ c → c ≡ false
      go true w = absurd (apart (sym (single (disks_of r) r.stripes r.health x.here q.stripe p q.disk w u)))
      go false w = refl

  -- ---- what the folds ask for

  pub sums : {N : ℕ} → N ≡ disks_of r → PlaceInside (length v) r.stripes q.stripe p N len × (q.disk ≢ p)
  sums e = let (i, s, l) = summed x e in ((i, short x, s, rw e x.parity_lt, l), apart)

  pub folds : {at to : ℕ} → at ≡ offset r.block r.stripes q.stripe q.disk → to ≡ offset r.block r.stripes q.stripe p
      → (to + length v ≤ len) × (at + length v ≤ len) × Disjoint to (length v) at (length v)
  folds f t = (
    rw (t, x.whole, x.long) (place-in r.block r.stripes q.stripe p (disks_of r) x.stripe_lt x.parity_lt),
    inside x f,
    rw (f, t, x.whole) (places-apart r.block r.stripes q.stripe p q.stripe q.disk x.stripe_lt x.stripe_lt (inr apart)),
  )

  -- ---- what the stores leave

  pub data-out : (img : List ℕ) {N : ℕ} → N ≡ disks_of r → absent r.health q.stripe q.disk ≡ true
      → store img (offset (length v) r.stripes q.stripe p) (xor_b (xor_b (place (length v) r.stripes img q.stripe p) (others (length v) r.stripes img q.stripe N q.disk)) v)
      ≡ stored r.block r.stripes (write_stores r img b v) img
  unfolding write_stores stored seen
  data-out img e u = rw (e, x.whole, x.is, rw x.is at (other-in u), rw x.is at u) refl

  -- the data over what is left of the images by the fold, or with no fold
  pub both-in : (img : List ℕ) {left : List ℕ} {at to : ℕ} → at ≡ offset r.block r.stripes q.stripe q.disk → to ≡ offset r.block r.stripes q.stripe p
      → absent r.health q.stripe q.disk ≡ false → absent r.health q.stripe p ≡ false → left ≡ store img to (folded img to at v)
      → (length left ≡ length img) × (store left at v ≡ stored r.block r.stripes (write_stores r img b v) img)
  unfolding write_stores stored seen
  both-in img {left} {at} {to} f t u w z = (ap length z ∙ length-store img to (folded img to at v), rw (z, f, t, x.whole, x.is, rw x.is at w, rw x.is at u) refl)

  pub parity-out : (img : List ℕ) {left : List ℕ} {at : ℕ} → at ≡ offset r.block r.stripes q.stripe q.disk
      → absent r.health q.stripe q.disk ≡ false → absent r.health q.stripe p ≡ true → left ≡ img
      → (length left ≡ length img) × (store left at v ≡ stored r.block r.stripes (write_stores r img b v) img)
  unfolding write_stores stored seen
  parity-out img f u w z = (ap length z, rw (z, f, x.is, rw x.is at w, rw x.is at u) refl)
