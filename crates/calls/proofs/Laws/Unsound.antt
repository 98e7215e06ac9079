-- The test of a stripe is `Sound`; the list of unsound stripes, and what a sweep answers of it. Assumes nothing.
use Prim.Native.Nat.{ℕ, zero, suc, ◌+◌, ◌≤◌, ◌<◌}
use mathlib.Core.Path.{◌≡◌, refl, sym, ap, ap₂, ◌∙◌}
use mathlib.Core.Bool.{Bool, true, false, true≢false, cond, not, ◌||◌}
use mathlib.Core.Logic.{◌⊎◌, inl, inr}
use mathlib.Core.List.{List, [], ◌∷◌, ◌++◌}
use native.Mathlib.Decide.{ℕ_discrete}
use native.Mathlib.Omega.{arith}
use lib.Dec.{eqb}
use lib.Bits.{bit_xor}
use lib.ListN.{length, get_or, length-append, get_or-append}
use lib.Seq.{get_or-append_seam}
use Rattle.layout.specs.declared.Role.TheVariants.{Data, Parity, Blank}
use Rattle.layout.specs.declared.Role.{Role}
use Rattle.layout.specs.Layout.{is_blank, layout}
use Rattle.layout.proofs.Laws.Basics.{le-or-lt}
use Rattle.blocks.specs.Block.{zeros, is_zeros}
use Rattle.blocks.specs.Xor.{xor_all}
use Rattle.blocks.specs.Stripe.{stripe, others}
use Rattle.blocks.proofs.Laws.Rows.{sum, rest, put}
use Rattle.blocks.proofs.Laws.Xor.{get_or-zeros}
use Rattle.blocks.proofs.Laws.Stripe.{get_or-place, get_or-others, length-others, others-all}
use Rattle.blocks.proofs.Laws.Zero.{is-zeros, zeros-are}
use Rattle.conditions.proofs.Tests.{both, second}
use Rattle.state.specs.declared.types.Health.TheVariants.{Whole}
use Rattle.state.specs.declared.types.Health.{Health}
use Rattle.state.specs.declared.types.Record.{Record}
use Rattle.state.specs.Good.{geometry}
use Rattle.calls.specs.Call.{all_sound, unsound_at}
use Rattle.calls.specs.Health.{absent}
use Rattle.calls.specs.Images.{disks_of, size, place_in, others_in, seen}
use Rattle.calls.specs.Sound.{seen_stripe, Sound, blanks_zero, is_sound, unsound_below, unsound_stripes}
use Rattle.calls.specs.Effect.{swept_to}
use Rattle.calls.specs.Sweep.{Listed, byte_at, xor_of}
use Rattle.calls.proofs.Laws.Holding.{length_seen}
use Rattle.calls.proofs.Laws.Sound.{zeroes, length-all, get_or-all}

abbrev Rises : List ℕ → Type 0
Rises l = (i j : ℕ) → i < j → j < length l → get_or l i 0 < get_or l j 0

-- a place that need be zero only if it is blank: from the test, and back
asked : (o : Role) (z : Bool) → (not (is_blank o) || z) ≡ true → o ≡ Blank → z ≡ true
asked o z q b = second (not (is_blank o)) z q (ap (λ (x : Role). not (is_blank x)) b)

answered : (o : Role) (z : Bool) → (o ≡ Blank → z ≡ true) → (not (is_blank o) || z) ≡ true
answered (Data b) z f = refl
answered Parity z f = refl
answered Blank z f = f refl

-- the xor of some bytes, as the laws of rows have it
same_sum : (k : ℕ) (f : ℕ → ℕ) → sum k f ≡ xor_of k f
unfolding sum xor_of
same_sum zero f = refl
same_sum (suc k) f = ap (λ (x : ℕ). bit_xor x (f k)) (same_sum k f)

pub byte-of-others : (r : Record) (img : List ℕ) (S d j : ℕ) → j < r.block
    → get_or (others_in r img S d) j 0 ≡ xor_of (disks_of r) (λ e. cond (eqb e d) 0 (byte_at r img S j e))
unfolding rest put
byte-of-others r img S d j l =
    get_or-others r.block r.stripes img S (disks_of r) d j l ∙ same_sum (disks_of r) (λ e. cond (eqb e d) 0 (byte_at r img S j e))

-- ---- a list l, with k after it unless b

module _ (l : List ℕ) (k : ℕ) where
  abbrev with-k : Bool → List ℕ
  with-k b = l ++ cond b [] (k ∷ [])

  -- a number that is not of l is the last one, and that is k
  last-is : (b : Bool) (i : ℕ) → i < length (with-k b) → length l ≤ i → (b ≡ false) × (i ≡ length l) × (get_or (with-k b) i 0 ≡ k)
  last-is true i h lo = absurd (omega (arith, h, lo, length-append l []))
  last-is false i h lo =
      let e : i ≡ length l = omega (arith, h, lo, length-append l (k ∷ [])) in
      (refl, e, ap (λ (n : ℕ). get_or (l ++ (k ∷ [])) n 0) e ∙ get_or-append_seam l k [] 0)

  before-or-last : (b : Bool) (S : ℕ) → Listed S (with-k b) → Listed S l ⊎ ((b ≡ false) × (S ≡ k))
  before-or-last b S (i, h, e) = elim (le-or-lt (length l) i) [
    | inr lo ↦ inl (i, lo, sym (get_or-append l (cond b [] (k ∷ [])) 0 i lo) ∙ e)
    | inl hi ↦ (let (u, v, w) = last-is b i h hi in inr (u, sym e ∙ w))
  ]

  -- it rises if l does, and k is above all of l
  one_more : (b : Bool) → Rises l → ((i : ℕ) → i < length l → get_or l i 0 < k) → Rises (with-k b)
  one_more b up small i j lt h = elim (le-or-lt (length l) j) [
    | inr lo ↦ rw (get_or-append l (cond b [] (k ∷ [])) 0 i (omega arith), get_or-append l (cond b [] (k ∷ [])) 0 j lo) (up i j lt lo)
    | inl hi ↦ (let (u, v, w) = last-is b j h hi in
        let i_lt : i < length l = omega arith in
        rw (get_or-append l (cond b [] (k ∷ [])) 0 i i_lt, w) (small i i_lt))
  ]

module _ (r : Record) (img : List ℕ) where
  abbrev owner : ℕ → ℕ → Role
  owner S d = (layout (geometry r)).owner S d

  -- ---- the test of a stripe

  module _ (S : ℕ) where
    blanks-zero : (k : ℕ) → blanks_zero r img S k ≡ true → (d : ℕ) → d < k → owner S d ≡ Blank → seen r img S d ≡ zeros r.block
    unfolding blanks_zero
    blanks-zero zero q d l o = absurd (omega arith)
    blanks-zero (suc k) q d l o =
        let (p, z) = both (blanks_zero r img S k) (not (is_blank (owner S k)) || is_zeros r.block (seen r img S k)) q in
        elim (ℕ_discrete d k) [
          | yes e ↦ (let o' : owner S k ≡ Blank = rw e at o in
              rw e (is-zeros r.block (seen r img S k) (asked (owner S k) (is_zeros r.block (seen r img S k)) z o')))
          | no ne ↦ blanks-zero k p d (omega arith) o
        ]

    zero-blanks : (k : ℕ) → ((d : ℕ) → d < k → owner S d ≡ Blank → seen r img S d ≡ zeros r.block) → blanks_zero r img S k ≡ true
    unfolding blanks_zero
    zero-blanks zero f = refl
    zero-blanks (suc k) f =
        rw (zero-blanks k (λ d l. f d (omega arith)))
        (answered (owner S k) (is_zeros r.block (seen r img S k)) (λ o. ap (is_zeros r.block) (f k (omega arith) o) ∙ zeros-are r.block))

    pub tested : is_sound r img S ≡ true → Sound r img S
    unfolding is_sound
    tested q =
        let (p, z) = both (is_zeros r.block (xor_all r.block (seen_stripe r img S (disks_of r)))) (blanks_zero r img S (disks_of r)) q in
        record { xor = is-zeros r.block (xor_all r.block (seen_stripe r img S (disks_of r))) p; blanks = blanks-zero (disks_of r) z }

    pub passes : Sound r img S → is_sound r img S ≡ true
    unfolding is_sound
    passes s = rw (ap (is_zeros r.block) s.xor ∙ zeros-are r.block) (zero-blanks (disks_of r) s.blanks)

    pub unsound : ¬ Sound r img S → is_sound r img S ≡ false
    unsound ns = go (is_sound r img S) refl
      where
        go : (b : Bool) → is_sound r img S ≡ b → is_sound r img S ≡ false
        go true q = absurd (ns (tested q))
        go false q = q

    pub not_sound : is_sound r img S ≡ false → ¬ Sound r img S
    not_sound q s = true≢false (sym (passes s) ∙ q)

  -- ---- a stripe byte by byte, as a call sees it

  module _ (S : ℕ) where
    abbrev seen_byte : ℕ → ℕ → ℕ
    seen_byte j d = get_or (seen r img S d) j 0

    byte-of-seen : (j : ℕ) → get_or (xor_all r.block (seen_stripe r img S (disks_of r))) j 0 ≡ xor_of (disks_of r) (seen_byte j)
    byte-of-seen j = get_or-all r img S j (disks_of r) ∙ same_sum (disks_of r) (seen_byte j)

    pub to-seen : Sound r img S → ((j : ℕ) → j < r.block → xor_of (disks_of r) (seen_byte j) ≡ 0)
        × ((d j : ℕ) → d < disks_of r → j < r.block → owner S d ≡ Blank → seen_byte j d ≡ 0)
    to-seen s = (
      (λ j l. sym (byte-of-seen j) ∙ ap (λ (v : List ℕ). get_or v j 0) s.xor ∙ get_or-zeros r.block j),
      (λ d j ld l o. ap (λ (v : List ℕ). get_or v j 0) (s.blanks d ld o) ∙ get_or-zeros r.block j),
    )

    pub from-seen : length img ≡ size r → S < r.stripes → ((j : ℕ) → j < r.block → xor_of (disks_of r) (seen_byte j) ≡ 0)
        → ((d j : ℕ) → d < disks_of r → j < r.block → owner S d ≡ Blank → seen_byte j d ≡ 0) → Sound r img S
    from-seen long lS x b =
        record {
          xor = zeroes r.block (xor_all r.block (seen_stripe r img S (disks_of r))) (length-all r img S long lS (disks_of r) (omega arith)) (λ j l. byte-of-seen j ∙ x j l);
          blanks = λ d ld o. zeroes r.block (seen r img S d) (length_seen r img S d long lS ld) (λ j l. b d j ld l o);
        }

  -- ---- a stripe of which all disks are in

  module _ (S : ℕ) (whole : r.health ≡ Whole) where
    pub seen-whole : (d : ℕ) → seen r img S d ≡ place_in r img S d
    unfolding seen
    seen-whole d = ap (λ (h : Health). cond (absent h S d) (others_in r img S d) (place_in r img S d)) whole

    pub stripe-whole : (k : ℕ) → seen_stripe r img S k ≡ stripe r.block r.stripes img S k
    unfolding seen_stripe
    stripe-whole zero = refl
    stripe-whole (suc k) = λ i. stripe-whole k i ++ (seen-whole k i ∷ [])

    -- the sum of the first k disks is that of all but one that is not among them
    pub summed-whole : (k : ℕ) → others r.block r.stripes img S k k ≡ xor_all r.block (seen_stripe r img S k)
    summed-whole k = others-all r.block r.stripes img S k k (omega arith) ∙ ap (xor_all r.block) (sym (stripe-whole k))

    pub length-summed : (k : ℕ) → length (xor_all r.block (seen_stripe r img S k)) ≡ r.block
    length-summed k = ap length (sym (summed-whole k)) ∙ length-others r.block r.stripes img S k k

    byte-of-place : (d j : ℕ) → j < r.block → seen_byte S j d ≡ byte_at r img S j d
    byte-of-place d j l = ap (λ (v : List ℕ). get_or v j 0) (seen-whole d) ∙ get_or-place r.block r.stripes img S d j l

    same_bytes : (k j : ℕ) → j < r.block → xor_of k (seen_byte S j) ≡ xor_of k (byte_at r img S j)
    unfolding xor_of
    same_bytes zero j l = refl
    same_bytes (suc k) j l = ap₂ bit_xor (same_bytes k j l) (byte-of-place k j l)

    pub to-bytes : Sound r img S → ((j : ℕ) → j < r.block → xor_of (disks_of r) (byte_at r img S j) ≡ 0)
        × ((d j : ℕ) → d < disks_of r → j < r.block → owner S d ≡ Blank → byte_at r img S j d ≡ 0)
    to-bytes s =
        let (x, b) = to-seen S s in
        ((λ j l. sym (same_bytes (disks_of r) j l) ∙ x j l), (λ d j ld l o. sym (byte-of-place d j l) ∙ b d j ld l o))

    pub from_bytes : length img ≡ size r → S < r.stripes → ((j : ℕ) → j < r.block → xor_of (disks_of r) (byte_at r img S j) ≡ 0)
        → ((d j : ℕ) → d < disks_of r → j < r.block → owner S d ≡ Blank → byte_at r img S j d ≡ 0) → Sound r img S
    from_bytes long lS x b =
        from-seen S long lS (λ j l. same_bytes (disks_of r) j l ∙ x j l) (λ d j ld l o. byte-of-place d j l ∙ b d j ld l o)

  -- ---- the list: one stripe more

  pub more-sound : (S : ℕ) → is_sound r img S ≡ true → unsound_below r img (suc S) ≡ unsound_below r img S ++ []
  unfolding unsound_below
  more-sound S q = rw q refl

  pub more-unsound : (S : ℕ) → is_sound r img S ≡ false → unsound_below r img (suc S) ≡ unsound_below r img S ++ (S ∷ [])
  unfolding unsound_below
  more-unsound S q = rw q refl

  -- it is empty as long as all are sound ..
  pub none_below : (k : ℕ) → ((S : ℕ) → S < k → is_sound r img S ≡ true) → unsound_below r img k ≡ []
  unfolding unsound_below
  none_below zero f = refl
  none_below (suc k) f = rw (f k (omega arith), none_below k (λ S l. f S (omega arith))) refl

  -- .. and from the first that is not on, that is its head
  pub first_below : (k S : ℕ) → S < k → unsound_below r img S ≡ [] → is_sound r img S ≡ false → (more : List ℕ) × (unsound_below r img k ≡ S ∷ more)
  unfolding unsound_below
  first_below zero S l none q = absurd (omega arith)
  first_below (suc k) S l none q = elim (ℕ_discrete S k) [
    | yes e ↦ ([], rw (← e) (rw (none, q) refl))
    | no ne ↦ (let (more, h) = first_below k S (omega arith) none q in
        (more ++ cond (is_sound r img k) [] (k ∷ []), ap (λ (l' : List ℕ). l' ++ cond (is_sound r img k) [] (k ∷ [])) h))
  ]

  -- ---- what a sweep answers

  pub answers-none : ((S : ℕ) → S < r.stripes → Sound r img S) → swept_to r.stripes (unsound_stripes r img) ≡ all_sound r.stripes
  answers-none f = ap (swept_to r.stripes) (none_below r.stripes (λ S l. passes S (f S l)))

  pub answers-first : (S : ℕ) → S < r.stripes → ¬ Sound r img S → ((R : ℕ) → R < S → Sound r img R)
      → swept_to r.stripes (unsound_stripes r img) ≡ unsound_at S (S + 1)
  answers-first S l ns f =
      let (more, h) = first_below r.stripes S l (none_below S (λ R lR. passes R (f R lR))) (unsound S ns) in
      ap (swept_to r.stripes) h

  -- ---- who is on the list

  pub from_list : (k S : ℕ) → Listed S (unsound_below r img k) → (S < k) × (is_sound r img S ≡ false)
  unfolding unsound_below
  from_list zero S (i, l, e) = absurd (omega arith)
  from_list (suc k) S h = elim (before-or-last (unsound_below r img k) k (is_sound r img k) S h) [
    | inl w ↦ (let (l, q) = from_list k S w in (omega arith, q))
    | inr w ↦ (omega (arith, w.1), ap (is_sound r img) w.1 ∙ w.0)
  ]

  pub on_list : (k S : ℕ) → S < k → is_sound r img S ≡ false → Listed S (unsound_below r img k)
  unfolding unsound_below
  on_list zero S l q = absurd (omega arith)
  on_list (suc k) S l q = elim (ℕ_discrete S k) [
    | yes e ↦ rw (← e) (rw q (length (unsound_below r img S), omega (arith, length-append (unsound_below r img S) (S ∷ [])), get_or-append_seam (unsound_below r img S) S [] 0))
    | no ne ↦ (let (i, h, g) = on_list k S (omega arith) q in
        let more : List ℕ = cond (is_sound r img k) [] (k ∷ []) in
        (i, omega (arith, h, length-append (unsound_below r img k) more), get_or-append (unsound_below r img k) more 0 i h ∙ g))
  ]

  -- ---- it rises

  pub rises : (k : ℕ) → Rises (unsound_below r img k)
  unfolding unsound_below
  rises zero = λ i j lt l. absurd (omega arith)
  rises (suc k) = one_more (unsound_below r img k) k (is_sound r img k) (rises k) (λ i l. (from_list k (get_or (unsound_below r img k) i 0) (i, l, refl)).0)

-- ---- images that agree in a stripe

module _ (r : Record) (img img' : List ℕ) (S : ℕ) (whole : r.health ≡ Whole) (same : (d : ℕ) → d < disks_of r → place_in r img' S d ≡ place_in r img S d) where
  same_seen : (d : ℕ) → d < disks_of r → seen r img' S d ≡ seen r img S d
  same_seen d l = seen-whole r img' S whole d ∙ same d l ∙ sym (seen-whole r img S whole d)

  same-stripe : (k : ℕ) → k ≤ disks_of r → seen_stripe r img' S k ≡ seen_stripe r img S k
  unfolding seen_stripe
  same-stripe zero l = refl
  same-stripe (suc k) l = λ i. same-stripe k (omega arith) i ++ (same_seen k (omega arith) i ∷ [])

  pub sound-alike : Sound r img S → Sound r img' S
  sound-alike s =
      record {
        xor = ap (xor_all r.block) (same-stripe (disks_of r) (omega arith)) ∙ s.xor;
        blanks = λ d l o. same_seen d l ∙ s.blanks d l o;
      }
