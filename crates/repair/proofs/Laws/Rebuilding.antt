-- Begin; and continue: disk d, stripe by stripe from S₀ on, as the xor of the others; what is stored on it changes none of these. Assumes nothing.
use Prim.Native.Nat.{ℕ, suc, ◌+◌, ◌-◌, ◌≤◌, ◌<◌, min}
use mathlib.Core.Path.{◌≡◌, refl, sym, ap, ap₂, ◌∙◌}
use mathlib.Core.List.{List, [], ◌∷◌}
use native.Mathlib.Nat.{le_antisymm}
use native.Mathlib.Numerals.{add-one}
use native.Mathlib.Omega.{arith}
use lib.ListN.{length}
use Rattle.layout.specs.Layout.{capacity}
use Rattle.blocks.specs.Block.{store}
use Rattle.blocks.specs.Stripe.{offset, others}
use Rattle.blocks.proofs.Laws.Stripe.{length-others}
use Rattle.state.specs.declared.types.Health.TheVariants.{Rebuilding}
use Rattle.state.specs.declared.types.Record.{Record}
use Rattle.state.specs.Good.{geometry, GoodRecord}
use Rattle.state.specs.Update.{with_health}
use Rattle.state.specs.Bytes.{disk_byte, stripes_done}
use Rattle.state.proofs.Laws.Good.{out-lt, rebuilding-lt}
use Rattle.calls.specs.Call.{begin, continue, feed, on, done, made}
use Rattle.calls.specs.Health.{rebuilt_to}
use Rattle.calls.specs.Images.{disks_of, size, others_in, Store, block, stored, recorded, fill_disk}
use Rattle.calls.specs.Table.{refusal_of}
use Rattle.calls.specs.Effect.{continue_stores, effect, act}
use Rattle.calls.proofs.Laws.Stores.{length-stored, stored-append, stored_last, recorded-last}
use Rattle.calls.proofs.Laws.Passed.{passed, in-limits, begins, Continues, continues}
use Rattle.calls.proofs.Laws.Rebuild.{sums, others-filled}

module _ (B T N d S₀ : ℕ) (img : List ℕ) where
  -- the xors of the others, before any of it
  abbrev before : ℕ → List ℕ
  before = sums B T N d S₀ img

  -- after k turns of count: the images, and the block that is summed into
  pub record Filled (count : ℕ) (l b : List ℕ) (k : ℕ) : Type 0 where
    pub most : k ≤ count
    pub images : l ≡ stored B T (fill_disk S₀ k d before) img
    pub long : length l ≡ length img
    pub whole : length b ≡ B

  pub filled_none : (count : ℕ) (b : List ℕ) → length b ≡ B → Filled count img b 0
  unfolding stored fill_disk
  filled_none count b e = record { most = omega arith; images = refl; long = refl; whole = e }

  filled : (k : ℕ) → stored B T (fill_disk S₀ (suc k) d before) img ≡ store (stored B T (fill_disk S₀ k d before) img) (offset B T (S₀ + k) d) (before (S₀ + k))
  unfolding stored fill_disk
  filled k = stored-append B T (fill_disk S₀ k d before) (block (S₀ + k) d (before (S₀ + k)) ∷ []) img

  pub filled_more : {count : ℕ} {l b l' b' : List ℕ} {k : ℕ} → S₀ + count ≤ T → k < count → Filled count l b k
      → l' ≡ store l (offset (length b) T (S₀ + k) d) (others (length b) T l (S₀ + k) N d) → b' ≡ others (length b) T l (S₀ + k) N d → Filled count l' b' (k + 1)
  filled_more {count} {l} {b} {l'} {b'} {k} high h f el eb =
      let s : ℕ = S₀ + k in
      let sum : others (length b) T l s N d ≡ before s =
      ap₂ (λ (n : ℕ) (x : List ℕ). others n T x s N d) f.whole f.images ∙ others-filled B T N d S₀ img k s (omega (arith, f.most)) (omega arith) in
      let el' : l' ≡ stored B T (fill_disk S₀ (k + 1) d before) img =
      el ∙ ap₂ (λ (n : ℕ) (v : List ℕ). store l (offset n T s d) v) f.whole sum
      ∙ ap (λ (x : List ℕ). store x (offset B T s d) (before s)) f.images
      ∙ sym (filled k) ∙ ap (λ (n : ℕ). stored B T (fill_disk S₀ n d before) img) (sym (add-one k)) in
      record {
        most = omega arith;
        images = el';
        long = ap length el' ∙ length-stored B T (fill_disk S₀ (k + 1) d before) img;
        whole = ap length (eb ∙ sum) ∙ length-others B T img s N d;
      }

  pub filled_all : {count : ℕ} {l b : List ℕ} {k : ℕ} → Filled count l b k → count ≤ k → l ≡ stored B T (fill_disk S₀ count d before) img
  filled_all f h = f.images ∙ ap (λ (n : ℕ). stored B T (fill_disk S₀ n d before) img) (le_antisymm f.most h)

-- ---- begin

module _ (img : List ℕ) (r : Record) (d : ℕ) (z : refusal_of r (feed (begin d) (length img) 0) ≡ 0) where
  pub begin-passed : d < 256
  begin-passed =
      let l : GoodRecord r = in-limits r (capacity (geometry r)) (feed (begin d) (length img) 0) refl z in
      let q = begins r (capacity (geometry r)) (length img) 0 d (passed r (capacity (geometry r)) (feed (begin d) (length img) 0) z) in
      omega (arith, out-lt r d l q.is-out, l.array.disks)

  pub begin-done : let x = act (on (begin d) img []) r in (done ≡ x.answer) × (with_health r (Rebuilding d 0) ≡ x.state)
  unfolding effect recorded
  begin-done = (refl, refl)

-- ---- continue

module _ (img : List ℕ) (r : Record) (k : ℕ) (z : refusal_of r (feed (continue k) (length img) 0) ≡ 0) where
  at_once : Continues r (length img)
  at_once = continues r (capacity (geometry r)) (length img) 0 k (passed r (capacity (geometry r)) (feed (continue k) (length img) 0) z)

  abbrev pub disk : ℕ
  disk = disk_byte r.health

  abbrev pub first : ℕ
  first = stripes_done r.health

  -- what it goes on with, and what filling a disk asks for
  pub continue-passed : GoodRecord r → (disk < disks_of r) × (first < r.stripes) × (first + min k (r.stripes - first) ≤ r.stripes) × (length img ≡ size r)
  continue-passed within =
      let q = at_once in
      let (ld, lc) = rebuilding-lt r q.disk q.done within q.health in
      let ld' : disk < disks_of r = rw q.health ld in
      let lc' : first < r.stripes = rw q.health lc in
      (ld', lc', omega (arith, lc'), q.long)

  pub continue-done : (count : ℕ) → count ≡ min k (r.stripes - first)
      → let x = act (on (continue k) img []) r in
      (made count ≡ x.answer)
      × (with_health r (rebuilt_to r.stripes disk (first + count)) ≡ x.state)
      × (stored r.block r.stripes (fill_disk first count disk (λ S. others_in r img S disk)) img ≡ x.images)
  unfolding effect continue_stores
  continue-done count e =
      let left : ℕ → Record = λ n. with_health r (rebuilt_to r.stripes disk (first + n)) in
      let ps : ℕ → List Store = λ n. fill_disk first n disk (λ S. others_in r img S disk) in
      let n : ℕ = min k (r.stripes - first) in (
        ap made e,
        ap left e ∙ sym (recorded-last (ps n) (left n) r),
        ap (λ (i : ℕ). stored r.block r.stripes (ps i) img) e ∙ sym (stored_last r.block r.stripes (ps n) (left n) img),
      )
