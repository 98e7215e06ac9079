-- What the sweep asks of a stripe, and what that shows of it: its places as they stand, its blanks one by one, and the sum of the old disks
-- where the new ones are the blanks. Assumes nothing.
use Prim.Native.Nat.{ℕ, zero, suc, ◌+◌, ◌*◌, ◌≤◌, ◌<◌}
use mathlib.Core.Path.{◌≡◌, refl, sym, ap, ◌∙◌, subst}
use mathlib.Core.Bool.{Bool, true, false, cond, not, ◌&&◌, ◌||◌}
use mathlib.Core.Logic.{◌⊎◌, inl, inr}
use mathlib.Core.List.{List, [], ◌++◌}
use native.Mathlib.Nat.{le_refl, mul-le-mul}
use native.Mathlib.Omega.{arith}
use lib.Dec.{ltb}
use lib.ListN.{length}
use Rattle.std.specs.List.{list_all, range_with_len}
use Rattle.std.proofs.Math.Bool.{and_assoc}
use borrow.Author.Tests.{lt-ltb, le-ltb}
use Rattle.layout.specs.declared.Geometry.{Geometry}
use Rattle.layout.specs.declared.Stripe.{Stripe}
use Rattle.layout.specs.Closed.{taken, stripe_of}
use Rattle.layout.specs.Layout.{open_stripes, is_blank, layout}
use Rattle.layout.proofs.Laws.Basics.{le-or-lt}
use Rattle.layout.proofs.Laws.Vacant.{open_full, closed-blank, far-taken}
use Rattle.blocks.specs.Block.{zeros, is_zeros}
use Rattle.blocks.specs.Xor.{xor_b, xor_all}
use Rattle.blocks.specs.declared.types.Group.{Group}
use Rattle.blocks.specs.Stripe.{others}
use Rattle.blocks.specs.Sum.{sum_to, GroupBegun}
use Rattle.blocks.proofs.Laws.Xor.{xor_b-zeros, xor_all-snoc}
use Rattle.blocks.proofs.Laws.Stripe.{length-others}
use Rattle.blocks.proofs.Laws.Zero.{is-zeros}
use Rattle.conditions.proofs.Tests.{both, and-true, and-false, and_no, and_yes, went_on, returned}
use Rattle.state.specs.declared.types.Health.TheVariants.{Whole}
use Rattle.state.specs.declared.types.Record.{Record}
use Rattle.state.specs.Good.{geometry, GoodRecord}
use Rattle.calls.specs.Images.{disks_of, size, place_in, seen}
use Rattle.calls.specs.Call.{all_sound, unsound_at}
use Rattle.calls.specs.Sound.{seen_stripe, blanks_zero, is_sound, unsound_below, unsound_stripes}
use Rattle.calls.specs.Effect.{swept_to}
use Rattle.scrub.specs.declared.sweeping.Stripes.{Stripes}
use Rattle.calls.proofs.Laws.Unsound.{seen-whole, summed-whole, length-summed, more-sound, first_below}

module _ (r : Record) (img : List ℕ) (S : ℕ) where
  abbrev B : ℕ
  B = r.block

  abbrev N : ℕ
  N = disks_of r

  -- place d passes: it is not blank, or zero
  abbrev free : ℕ → Bool
  free d = not (is_blank ((layout (geometry r)).owner S d)) || is_zeros B (seen r img S d)

  -- the sum of the first k disks
  abbrev summed : ℕ → List ℕ
  summed k = xor_all B (seen_stripe r img S k)

  -- ---- the blanks, disk by disk

  -- n disks from d on, each asked if it passes, after those before them
  asked : (f : ℕ → Bool) (n d : ℕ) → ((e : ℕ) → d ≤ e → f e ≡ free e)
      → (blanks_zero r img S d && list_all f (range_with_len d n)) ≡ blanks_zero r img S (n + d)
  unfolding blanks_zero
  asked f zero d q = and_yes (blanks_zero r img S d) ∙ ap (blanks_zero r img S) (let e : d ≡ 0 + d = omega arith in e)
  asked f (suc n) d q =
      let more : (blanks_zero r img S (d + 1) && list_all f (range_with_len (d + 1) n)) ≡ blanks_zero r img S (n + (d + 1)) =
      asked f n (d + 1) (λ e l. q e (omega (arith, l))) in
      let next : blanks_zero r img S (d + 1) ≡ (blanks_zero r img S d && free d) = ap (blanks_zero r img S) (let e : d + 1 ≡ suc d = omega arith in e) in
      sym (and_assoc (blanks_zero r img S d) (f d) (list_all f (range_with_len (d + 1) n)))
      ∙ ap (λ (b : Bool). (blanks_zero r img S d && b) && list_all f (range_with_len (d + 1) n)) (q d (le_refl d))
      ∙ ap (λ (b : Bool). b && list_all f (range_with_len (d + 1) n)) (sym next)
      ∙ more
      ∙ ap (blanks_zero r img S) (let e : n + (d + 1) ≡ suc n + d = omega arith in e)

  module _ (whole : r.health ≡ Whole) (closed : open_stripes (geometry r) ≤ S) where
    abbrev is-zero : ℕ → Bool
    is-zero d = is_zeros B (place_in r img S d)

    abbrev there : ℕ → Bool
    there d = taken r.old r.new r.moves S d

    -- a disk passes if something stands there, or the place is zero
    asks : (d : ℕ) → free d ≡ (there d || is-zero d)
    asks d = (λ i. not (closed-blank (geometry r) S d closed i) || is_zeros B (seen-whole r img S whole d i)) ∙ go (there d) (is-zero d)
      where
        go : (t z : Bool) → (not (not t) || z) ≡ (t || z)
        go true z = refl
        go false z = refl

    asks-taken : (d : ℕ) → there d ≡ true → free d ≡ true
    asks-taken d t = asks d ∙ rw t refl

    asks-blank : (d : ℕ) → there d ≡ false → free d ≡ is-zero d
    asks-blank d t = asks d ∙ rw t refl

    pub all-asked : (f : ℕ → Bool) → ((d : ℕ) → f d ≡ (there d || is-zero d)) → list_all f (range_with_len 0 N) ≡ blanks_zero r img S N
    unfolding blanks_zero
    all-asked f q = asked f N 0 (λ d l. q d ∙ sym (asks d)) ∙ ap (blanks_zero r img S) (let e : N + 0 ≡ N = omega arith in e)

-- what the code asks of a stripe that it has taken apart is asked of the stripe
pub taken-there : (r : Record) (S d : ℕ) (g h : Geometry) (x : Stripe) → g ≡ geometry r → (h ≡ g) × (x ≡ stripe_of g.old g.new S)
    → taken h.old h.new h.moves x.number d ≡ taken r.old r.new r.moves S d
taken-there r S d g h x eg e =
    ap (λ (y : Stripe). taken h.old h.new h.moves y.number d) e.1 ∙ ap (λ (h : Geometry). taken h.old h.new h.moves S d) (e.0 ∙ eg)

-- ---- a zone further on, where the blanks are the new disks

module _ (r : Record) (img : List ℕ) (S : ℕ) (limits : GoodRecord r) (whole : r.health ≡ Whole) (far : open_stripes (geometry r) + disks_of r ≤ S) (inside : S < r.stripes) where
  closed : open_stripes (geometry r) ≤ S
  closed = omega arith

  new-free : (d : ℕ) → r.old ≤ d → taken r.old r.new r.moves S d ≡ false
  new-free d l = far-taken (geometry r) limits.array S far inside d ∙ le-ltb d r.old l

  old-zero : (d : ℕ) → d ≤ r.old → blanks_zero r img S d ≡ true
  unfolding blanks_zero
  old-zero zero l = refl
  old-zero (suc d) l =
      rw (old-zero d (omega arith), asks-taken r img S whole closed d (far-taken (geometry r) limits.array S far inside d ∙ lt-ltb d r.old (omega arith))) refl

  pub new-asked : list_all (λ d. is_zeros r.block (place_in r img S d)) (range_with_len r.old r.new) ≡ blanks_zero r img S (disks_of r)
  new-asked =
      let f : ℕ → Bool = λ d. is_zeros r.block (place_in r img S d) in
      let new : (blanks_zero r img S r.old && list_all f (range_with_len r.old r.new)) ≡ blanks_zero r img S (r.new + r.old) =
      asked r img S f r.new r.old (λ d l. sym (asks-blank r img S whole closed d (new-free d l))) in
      sym (and-true (blanks_zero r img S r.old) (list_all f (range_with_len r.old r.new)) (old-zero r.old (le_refl r.old)))
      ∙ new
      ∙ ap (blanks_zero r img S) (let e : r.new + r.old ≡ disks_of r = omega arith in e)

  -- zeroes there add nothing to the sum of the old ones
  new-adds-none : (k : ℕ) → blanks_zero r img S (k + r.old) ≡ true → summed r img S (k + r.old) ≡ summed r img S r.old
  unfolding blanks_zero seen_stripe
  new-adds-none zero q = ap (summed r img S) (let e : 0 + r.old ≡ r.old = omega arith in e)
  new-adds-none (suc k) q =
      let d : ℕ = k + r.old in
      let e : suc k + r.old ≡ suc (k + r.old) = omega arith in
      let q' : (blanks_zero r img S d && free r img S d) ≡ true = rw e at q in
      let (p, z) = both (blanks_zero r img S d) (free r img S d) q' in
      let free-is : free r img S d ≡ is_zeros r.block (place_in r img S d) = asks-blank r img S whole closed d (new-free d (omega arith)) in
      let zero-there : place_in r img S d ≡ zeros r.block = is-zeros r.block (place_in r img S d) (sym free-is ∙ z) in
      ap (summed r img S) e
      ∙ xor_all-snoc r.block (seen_stripe r img S d) (seen r img S d)
      ∙ ap (xor_b (summed r img S d)) (seen-whole r img S whole d ∙ zero-there)
      ∙ xor_b-zeros (summed r img S d) r.block (omega (arith, length-summed r img S whole d))
      ∙ new-adds-none k p

  -- so the stripe is sound if the old ones xor to zero and the new ones are
  far-sound : is_sound r img S ≡ (is_zeros r.block (summed r img S r.old) && blanks_zero r img S (disks_of r))
  unfolding is_sound
  far-sound = go (blanks_zero r img S (disks_of r)) refl
    where
      go : (b : Bool) → blanks_zero r img S (disks_of r) ≡ b
          → (is_zeros r.block (summed r img S (disks_of r)) && b) ≡ (is_zeros r.block (summed r img S r.old) && b)
      go true q =
          let e : disks_of r ≡ r.new + r.old = omega arith in
          let s : summed r img S (disks_of r) ≡ summed r img S r.old = ap (summed r img S) e ∙ new-adds-none r.new (ap (blanks_zero r img S) (sym e) ∙ q) in
          ap (λ (v : List ℕ). is_zeros r.block v && true) s
      go false q = and_no (is_zeros r.block (summed r img S (disks_of r))) ∙ sym (and_no (is_zeros r.block (summed r img S r.old)))

-- ---- where a stripe's blanks are blocks there is nothing to look at

full-blanks : (r : Record) (img : List ℕ) (S k : ℕ) → S < open_stripes (geometry r) → blanks_zero r img S k ≡ true
unfolding blanks_zero
full-blanks r img S zero l = refl
full-blanks r img S (suc k) l = rw (full-blanks r img S k l, open_full (geometry r) S k l) refl

full-sound : (r : Record) (img : List ℕ) (S : ℕ) → S < open_stripes (geometry r) → is_sound r img S ≡ is_zeros r.block (summed r img S (disks_of r))
unfolding is_sound
full-sound r img S l = rw (full-blanks r img S (disks_of r) l) (and_yes (is_zeros r.block (summed r img S (disks_of r))))

-- ---- the sum of the first k disks: those before the last group have left theirs in block

pub record Ahead (r : Record) (img : List ℕ) (S k first : ℕ) (block : List ℕ) : Type 0 where
  pub begun : (first ≡ 0) ⊎ (block ≡ others r.block r.stripes img S first k)
  pub order : first ≤ k
  pub long : length block ≡ r.block

pub made-ahead : (r : Record) (img : List ℕ) (S k : ℕ) (b : List ℕ) {first g : ℕ} {block : List ℕ} → length b ≡ r.block → first ≡ g → g ≤ k
    → block ≡ others (length b) r.stripes img S g k → Ahead r img S k first block
made-ahead r img S k b {first} {g} {block} lb is l q =
    let q' : block ≡ others r.block r.stripes img S first k =
    q ∙ ap (λ (n : ℕ). others n r.stripes img S g k) lb ∙ ap (λ (x : ℕ). others r.block r.stripes img S x k) (sym is) in
    record { begun = inr q'; order = omega arith; long = ap length q' ∙ length-others r.block r.stripes img S first k }

-- as the last group
abbrev rest_of : Record → ℕ → ℕ → ℕ → Group
rest_of r S k first = record { stripes = r.stripes; stripe = S; out = k; first = first; last = k }

module _ {r : Record} {img : List ℕ} {S k first : ℕ} {block : List ℕ} (limits : GoodRecord r) (whole : r.health ≡ Whole) (few : k ≤ disks_of r) (inside : S < r.stripes)
    (long : length img ≡ size r) (h : Ahead r img S k first block) where
  pub last-asked : GroupBegun (rest_of r S k first) img block
  last-asked = (
    record { long = rw h.long limits.block_low; stripe_lt = inside; order = h.order; within = rw (h.long, long) (mul-le-mul few (le_refl (r.stripes * r.block))) },
    subst (λ (n : ℕ). (first ≡ 0) ⊎ (block ≡ others n r.stripes img S first k)) (sym h.long) h.begun,
  )

  pub last-shows : {z : Bool} → z ≡ is_zeros (length block) (sum_to (length block) img (rest_of r S k first) k) → z ≡ is_zeros r.block (summed r img S k)
  last-shows q = q ∙ ap (λ (n : ℕ). is_zeros n (others n r.stripes img S k k)) h.long ∙ ap (is_zeros r.block) (summed-whole r img S whole k)

-- ---- a stripe, by what its sum is and where it stands: k is how many disks are summed, all of them up to a zone past the open stripes

module _ (x : Stripes) (S : ℕ) {k disks : ℕ} {z : Bool} (inside : S < x.array.rec.stripes) (all : disks ≡ disks_of x.array.rec)
    (is : k ≡ cond (ltb S (x.full + disks)) (disks_of x.array.rec) x.array.rec.old) (q : z ≡ is_zeros x.array.rec.block (summed x.array.rec x.images.now S k)) where
  abbrev r : Record
  r = x.array.rec

  abbrev img : List ℕ
  img = x.images.now

  near : S < open_stripes (geometry r) + disks_of r → z ≡ is_zeros r.block (summed r img S (disks_of r))
  near l = q ∙ ap (λ (n : ℕ). is_zeros r.block (summed r img S n)) (is ∙ rw (lt-ltb S (x.full + disks) (omega (arith, x.counted, all, l))) refl)

  beyond : open_stripes (geometry r) + disks_of r ≤ S → z ≡ is_zeros r.block (summed r img S r.old)
  beyond l = q ∙ ap (λ (n : ℕ). is_zeros r.block (summed r img S n)) (is ∙ rw (le-ltb S (x.full + disks) (omega (arith, x.counted, all, l))) refl)

  by_both : is_sound r img S ≡ (z && blanks_zero r img S (disks_of r))
  unfolding is_sound
  by_both = elim (le-or-lt (open_stripes (geometry r) + disks_of r) S) [
    | inr l ↦ ap (λ (b : Bool). b && blanks_zero r img S (disks_of r)) (sym (near l))
    | inl l ↦ far-sound r img S x.array.good x.whole l inside ∙ ap (λ (b : Bool). b && blanks_zero r img S (disks_of r)) (sym (beyond l))
  ]

  pub odd : z ≡ false → z ≡ is_sound r img S
  odd u = u ∙ sym (by_both ∙ and-false z (blanks_zero r img S (disks_of r)) u)

  pub even-full : z ≡ true → S < x.full → ltb S x.full ≡ is_sound r img S
  even-full u l =
      let l' : S < open_stripes (geometry r) = omega (arith, x.counted, l) in
      lt-ltb S x.full l ∙ sym (full-sound r img S l' ∙ sym (near (omega arith)) ∙ u)

  pub even : z ≡ true → {b : Bool} → b ≡ blanks_zero r img S (disks_of r) → b ≡ is_sound r img S
  even u e = e ∙ sym (by_both ∙ and-true z (blanks_zero r img S (disks_of r)) u)

-- ---- the loop over the stripes: none of the first s is unsound

pub record None (r : Record) (img : List ℕ) (s : ℕ) (block : List ℕ) : Type 0 where
  pub none : unsound_below r img s ≡ []
  pub within : s ≤ r.stripes
  pub long : length block ≡ r.block

pub none_first : (r : Record) (img : List ℕ) {block : List ℕ} → length block ≡ r.block → None r img 0 block
unfolding unsound_below
none_first r img l = record { none = refl; within = omega arith; long = l }

module _ {r : Record} {img : List ℕ} {s : ℕ} {block : List ℕ} (h : None r img s block) where
  pub none_more : {z : Bool} (block' : List ℕ) → s < r.stripes → z ≡ is_sound r img s → z ≡ true → length block' ≡ length block → None r img (s + 1) block'
  none_more block' l q u same =
      let e : s + 1 ≡ suc s = omega arith in
      record { none = ap (unsound_below r img) e ∙ more-sound r img s (went_on q u) ∙ ap (λ (l' : List ℕ). l' ++ []) h.none; within = omega arith; long = same ∙ h.long }

  pub found : {z : Bool} → s < r.stripes → z ≡ is_sound r img s → z ≡ false → unsound_at s (s + 1) ≡ swept_to r.stripes (unsound_stripes r img)
  found l q u = let (more, e) = first_below r img r.stripes s l h.none (returned q u) in ap (swept_to r.stripes) (sym e)

  pub all_read : r.stripes ≤ s → all_sound s ≡ swept_to r.stripes (unsound_stripes r img)
  all_read l =
      let e : s ≡ r.stripes = omega (arith, h.within, l) in
      ap all_sound e ∙ ap (swept_to r.stripes) (sym h.none ∙ ap (unsound_below r img) e)
