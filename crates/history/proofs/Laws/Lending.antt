-- What may be lent: `free-to-lend`. Assumes nothing.
use Prim.Native.Nat.{ℕ, ◌+◌, ◌≤◌, ◌<◌}
use mathlib.Core.Path.{◌≡◌, refl, sym, ap, ◌∙◌, subst}
use mathlib.Core.Bool.{true, false, true≢false}
use mathlib.Core.Logic.{◌⊎◌, inl, inr, ◌≢◌}
use mathlib.Core.List.{List, ◌++◌}
use native.Mathlib.Omega.{arith}
use lib.ListN.{length, length-append, get_or-append}
use lib.Seq.{ext_get_or}
use borrow.Author.Tests.{eqb-false, eq-eqb}
use Rattle.layout.proofs.Laws.Basics.{le-or-lt}
use Rattle.blocks.specs.Stripe.{offset}
use Rattle.blocks.proofs.Laws.Stripe.{place-in, length-place, get_or-place}
use Rattle.state.specs.declared.types.Health.TheVariants.{Out, Rebuilding}
use Rattle.state.specs.declared.types.Health.{Health}
use Rattle.state.specs.declared.types.Record.{Record}
use Rattle.calls.specs.Call.{Call, Event}
use Rattle.calls.specs.Health.{absent}
use Rattle.calls.specs.Images.{disks_of, size, place_in}
use Rattle.calls.specs.Table.{Takes, nothing, anything, those, terms}
use Rattle.calls.proofs.Laws.Asked.{turned-away}
use Rattle.calls.proofs.Laws.Health.{from-count}
use Rattle.history.specs.Lent.{takes, Keeps, Lent, Lends}
use Rattle.history.specs.Theorem.{FreeToLend}

-- ---- what stands may be lent

module _ (r : Record) (left behind : List ℕ) (long : length left ≡ size r) where
  keeps : Keeps r left (left ++ behind)
  unfolding Keeps
  keeps S d lS ld q =
      let more : size r ≤ length (left ++ behind) = rw (length-append left behind, long) (omega arith) in
      let len : length (place_in r (left ++ behind) S d) ≡ r.block = length-place r.block r.stripes (left ++ behind) S d (disks_of r) lS ld more in
      let len' : length (place_in r left S d) ≡ r.block = length-place r.block r.stripes left S d (disks_of r) lS ld (rw long (omega arith)) in
      ext_get_or 0 (place_in r (left ++ behind) S d) (place_in r left S d) (len ∙ sym len')
      (λ j l.
      let lj : j < r.block = rw len at l in
      get_or-place r.block r.stripes (left ++ behind) S d j lj
      ∙ get_or-append left behind 0 (offset r.block r.stripes S d + j) (omega (arith, place-in r.block r.stripes S d (disks_of r) lS ld))
      ∙ sym (get_or-place r.block r.stripes left S d j lj))

module _ (e : Event) (r : Record) (left : List ℕ) where
  -- it is enough that images of the length asked for keep what stands
  pub by-asked : ((len : ℕ) → takes e.call r ≡ those len → length e.images ≡ len → Keeps r left e.images) → Lends e r left
  unfolding Lends
  by-asked k = go (takes e.call r) refl
    where
      go : (t : Takes) → takes e.call r ≡ t → Lent t r left e.images
      go nothing q = tt
      go (anything len) q = tt
      go (those len) q = k len q

  by-keeping : Keeps r left e.images → Lends e r left
  by-keeping k = by-asked (λ len q z. k)

  by_length : ((len : ℕ) → takes e.call r ≡ those len → length e.images ≢ len) → Lends e r left
  by_length ne = by-asked (λ len q z. absurd (ne len q z))

  same_length : {m n : ℕ} → those m ≡ those n → m ≡ n
  same_length q = ap asked-length q
    where
      asked-length : Takes → ℕ
      asked-length nothing = 0
      asked-length (anything len) = 0
      asked-length (those len) = len

  -- a disk that is not out is another one
  others : (o : ℕ) → r.health ≡ Out o → (S d : ℕ) → absent r.health S d ≡ false → d ≢ o
  others o h S d u = eqb-false d o (ap (λ (x : Health). absent x S d) (sym h) ∙ u)

  -- a place of a disk that is being rebuilt and counts as in is of a stripe that is done
  done-there : (o c : ℕ) → r.health ≡ Rebuilding o c → {S d : ℕ} → absent r.health S d ≡ false → d ≡ o → S < c
  done-there o c h {S} {d} u q = go (le-or-lt c S)
    where
      go : (c ≤ S) ⊎ (S < c) → S < c
      go (inr l) = l
      go (inl l) =
          let z : absent r.health S d ≡ true = ap (λ (x : Health). absent x S d) h ∙ from-count o c S d l ∙ eq-eqb d o q in
          absurd (true≢false (sym z ∙ u))

  pub free-to-lend : FreeToLend e r left
  unfolding Keeps Lends terms
  free-to-lend =
      record {
        what_stands = λ behind long q. by-keeping (subst (Keeps r left) (sym q) (keeps r left behind long));
        any_format = λ n B T q. subst (λ (c : Call). Lent (takes c r) r left e.images) (sym q) tt;
        any_length = λ len q ne. by_length (λ n p z. ne (z ∙ same_length (sym p ∙ q)));
        turned-away = λ c z. by_length (λ n q. turned-away r c (length e.images) (length e.room) n e.call q z);
        any_out = λ o h k. by-keeping (λ S d lS ld u. k S d lS ld (others o h _ d u));
        any_not_rebuilt = λ o c h k. by-keeping (λ S d lS ld u. k S d lS ld (done-there o c h u));
        any_lost = λ h. by-keeping (λ S d lS ld u. absurd (let w : ◌≡◌ {A = ℕ} 0 1 = cc (ap (λ (x : Health). absent x S d) h) in omega arith));
        no_images = λ q. subst (λ (t : Takes). Lent t r left e.images) (sym q) tt;
      }
