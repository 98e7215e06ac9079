-- Begin and continue: a disk that is being rebuilt counts as out from the stripes done on; the next ones are written as they were seen, and
-- then stand. Assumes nothing.
use Prim.Native.Nat.{ℕ, zero, suc, ◌+◌, ◌-◌, ◌≤◌, ◌<◌, min}
use mathlib.Core.Path.{◌≡◌, refl, sym, ap, ap₂, ◌∙◌, subst}
use mathlib.Core.Bool.{false, cond}
use mathlib.Core.Logic.{◌⊎◌, inl, inr}
use mathlib.Core.List.{List, [], ◌∷◌, ◌++◌}
use native.Mathlib.Decide.{ℕ_discrete}
use native.Mathlib.Omega.{arith}
use lib.Dec.{eqb}
use lib.ListN.{length}
use borrow.Author.Tests.{eq-eqb, ne_eqb}
use Rattle.layout.specs.Layout.{layout}
use Rattle.layout.proofs.Laws.Basics.{le-or-lt}
use Rattle.blocks.specs.Stripe.{others}
use Rattle.blocks.proofs.Laws.Grid.{Grid}
use Rattle.blocks.proofs.Laws.Rows.{put, rest, put_same, put_other}
use Rattle.blocks.proofs.Laws.Stripe.{length-others, get_or-others, others-store}
use Rattle.state.specs.declared.types.Health.TheVariants.{Whole, Out, Rebuilding}
use Rattle.state.specs.declared.types.Health.{Health}
use Rattle.state.specs.declared.types.Record.{Record}
use Rattle.state.specs.Good.{geometry, HealthWithin, GoodRecord}
use Rattle.state.specs.Update.{with_health}
use Rattle.state.specs.Bytes.{stripes_done}
use Rattle.state.proofs.Laws.Good.{out-lt, rebuilding-lt, turned}
use Rattle.calls.specs.Call.{begin, continue, on, done, made}
use Rattle.calls.specs.Health.{is_lost, absent, rebuilt_to}
use Rattle.calls.specs.Images.{disks_of, size, others_in, Store, block, header, stored, stored_in, recorded, fill_disk}
use Rattle.calls.specs.Table.{later_rows, word}
use Rattle.calls.specs.Effect.{stripes_made, continue_stores, effect, act}
use Rattle.calls.specs.Theorem.{rising}
use Rattle.calls.proofs.Laws.Column.{see, reseen}
use Rattle.calls.proofs.Laws.Health.{below-count, from-count}
use Rattle.calls.proofs.Laws.Stores.{Within, length-stored, cell-stored, stored-append, stored_last, recorded-last, column_apart, column-fill, fill-append, fill-cong, fill-rising, within-fill}
use Rattle.calls.proofs.Laws.Holding.{Holding, Leaves, bytes_at, cell_in, single}
use Rattle.calls.proofs.Laws.Passed as passed

-- a rebuild that has come to its last stripe is over, any other goes on
pub come-to-end : (T o c : ℕ) → T ≡ c → rebuilt_to T o c ≡ Whole
come-to-end T o c q = rw (eq-eqb c T (sym q)) refl

pub come-to : (T o c : ℕ) → c < T → rebuilt_to T o c ≡ Rebuilding o c
come-to T o c l = rw (ne_eqb c T (omega arith)) refl

-- a place written anew is as it was seen
put-seen : (N : ℕ) (I : ℕ → ℕ) (d e : ℕ) → put I d (rest N d I) e ≡ cond (eqb e d) (rest N e I) (I e)
put-seen N I d e = go (ℕ_discrete e d)
  where
    go : Dec (e ≡ d) → put I d (rest N d I) e ≡ cond (eqb e d) (rest N e I) (I e)
    go (yes q) = rw (q, put_same I d (rest N d I), eq-eqb d d refl)
    go (no n) = rw (put_other I d (rest N d I) e n, ne_eqb e d n)

-- where x stripes from the c-th on are written so, and nothing else, each place that counts as in afterwards is what was seen before
module _ (N T o c x : ℕ) (I J : Grid) (most : c + x ≤ T) where
  resumed : ((S e : ℕ) → S < T → c ≤ S → S < c + x → J S e ≡ put (I S) o (rest N o (I S)) e) → ((S e : ℕ) → S < T → (S < c) ⊎ (c + x ≤ S) → J S e ≡ I S e)
      → (S e : ℕ) → S < T → absent (rebuilt_to T o (c + x)) S e ≡ false → J S e ≡ see N (absent (Rebuilding o c)) I S e
  resumed within apart S e lS u = go (le-or-lt c S) (le-or-lt (c + x) S)
    where
      go : (c ≤ S) ⊎ (S < c) → (c + x ≤ S) ⊎ (S < c + x) → J S e ≡ see N (absent (Rebuilding o c)) I S e
      go (inr l) y = rw (below-count o c S e l) (apart S e lS (inl l))
      go (inl l) (inr h) = rw (from-count o c S e l) (within S e lS l h ∙ put-seen N (I S) o e)
      go (inl l) (inl h) =
          let v : absent (Rebuilding o (c + x)) S e ≡ false = rw (come-to T o (c + x) (omega arith)) at u in
          rw (from-count o c S e l, sym (from-count o (c + x) S e h) ∙ v) (apart S e lS (inr h))

-- what is stored on a disk changes none of the xors of the others
module _ (B T N d S₀ : ℕ) (img : List ℕ) where
  abbrev pub sums : ℕ → List ℕ
  sums S = others B T img S N d

  pub others-filled : (k S : ℕ) → S₀ + k ≤ T → S < T → others B T (stored B T (fill_disk S₀ k d sums) img) S N d ≡ sums S
  unfolding stored fill_disk
  others-filled zero S lk lS = refl
  others-filled (suc k) S lk lS =
      ap (λ (l : List ℕ). others B T l S N d) (stored-append B T (fill_disk S₀ k d sums) (block (S₀ + k) d (sums (S₀ + k)) ∷ []) img)
      ∙ others-store B T (stored B T (fill_disk S₀ k d sums) img) S N d (S₀ + k) d (sums (S₀ + k)) lS (omega arith) (inr refl) (length-others B T img (S₀ + k) N d)
      ∙ others-filled k S (omega arith) lS

-- ---- begin

module _ (r : Record) (img room : List ℕ) (bs : List (List ℕ)) (lends : length img ≡ size r → Holding r img bs) (d : ℕ) (c k : ℕ) where
  pub begins : word (later_rows (begin d) r c (length img) k) ≡ 0 → Leaves (act (on (begin d) img room) r) done (with_health r (Rebuilding d 0)) bs
  unfolding effect stored recorded
  begins z =
      let q = passed.begins r c (length img) k d z in
      let h : Holding r img bs = lends q.long in
      let hd : r.health ≡ Out d = q.is-out in
      let nl : is_lost r.health ≡ false = rw hd refl in
      record {
        answer = refl;
        state = refl;
        holding =
            record {
              limits = turned r (Rebuilding d 0) h.limits (out-lt r d h.limits hd, omega (arith, h.limits.array.stripes_low));
              long = h.long;
              count = h.count;
              whole = h.whole;
              stored = λ u j lj.
                  reseen (disks_of r) r.stripes (layout (geometry r)).owner (absent r.health) (absent (Rebuilding d 0)) (cell_in r img j) (cell_in r img j) (bytes_at j bs)
                  (single (disks_of r) r.stripes r.health nl) (h.stored nl j lj)
                  (λ S e lS le v. rw (hd, sym (from-count d 0 S e (omega arith)) ∙ v) refl);
            };
      }

-- ---- continue: the disk o, of which c stripes are done

module _ (r : Record) (img : List ℕ) (o c : ℕ) (hd : r.health ≡ Rebuilding o c) (k : ℕ) where
  -- how many it makes, its stores, and the health then
  abbrev pub more : ℕ
  more = min k (r.stripes - c)

  abbrev pub remade : List Store
  remade = fill_disk c more o (λ S. others_in r img S o)

  abbrev pub further : Health
  further = rebuilt_to r.stripes o (c + more)

  abbrev pub left : List ℕ
  left = stored r.block r.stripes remade img

  -- what it does, by these
  pub stores-are : continue_stores k r img ≡ remade ++ header (with_health r further) ∷ []
  unfolding continue_stores
  stores-are = rw hd refl

  pub images-are : stored r.block r.stripes (continue_stores k r img) img ≡ left
  images-are = ap (λ (ps : List Store). stored r.block r.stripes ps img) stores-are ∙ stored_last r.block r.stripes remade (with_health r further) img

  pub record_is : recorded (continue_stores k r img) r ≡ with_health r further
  record_is = ap (λ (ps : List Store). recorded ps r) stores-are ∙ recorded-last remade (with_health r further) r

  -- the stripes in rising order, and the record last
  pub risen : continue_stores k r img ≡ rising c more (λ S. block S o (others_in r img S o)) ++ header (recorded (continue_stores k r img) r) ∷ []
  risen =
      stores-are
      ∙ ap₂ (λ (ps : List Store) (x : Record). ps ++ header x ∷ []) (fill-rising o (λ S. others_in r img S o) c more) (sym record_is)

  module _ (limits : GoodRecord r) where
    pub as_many : c + more ≤ r.stripes
    as_many = omega (arith, rebuilding-lt r o c limits hd)

    pub within-remade : Within (disks_of r) r.block r.stripes remade
    within-remade =
        within-fill c o (λ S. others_in r img S o) (disks_of r) r.block r.stripes (rebuilding-lt r o c limits hd).0
        (λ S. length-others r.block r.stripes img S (disks_of r) o) more as_many

    further-within : HealthWithin (disks_of r) r.stripes further
    further-within = go (le-or-lt r.stripes (c + more))
      where
        go : (r.stripes ≤ c + more) ⊎ (c + more < r.stripes) → HealthWithin (disks_of r) r.stripes further
        go (inl l) = rw (come-to-end r.stripes o (c + more) (omega (arith, as_many, l))) tt
        go (inr l) = rw (come-to r.stripes o (c + more) l) ((rebuilding-lt r o c limits hd).0, l)

    module _ (long : length img ≡ size r) where
      pub long-left : length left ≡ size r
      long-left = length-stored r.block r.stripes remade img ∙ long

      module _ (j S e : ℕ) (lj : j < r.block) (lS : S < r.stripes) where
        pub cell_apart : (e ≡ o → (S < c) ⊎ (c + more ≤ S)) → cell_in r left j S e ≡ cell_in r img j S e
        cell_apart far =
            cell-stored r.block r.stripes (disks_of r) remade img within-remade long j S e lj lS
            ∙ column_apart c o (λ s. others_in r img s o) j more (cell_in r img j) S e far

        pub cell-remade : c ≤ S → S < c + more → cell_in r left j S e ≡ put (cell_in r img j S) o (rest (disks_of r) o (cell_in r img j S)) e
        cell-remade l h =
            cell-stored r.block r.stripes (disks_of r) remade img within-remade long j S e lj lS
            ∙ column-fill c o (λ s. others_in r img s o) j more (cell_in r img j) S e l h
            ∙ ap (λ (x : ℕ). put (cell_in r img j S) o x e) (get_or-others r.block r.stripes img S (disks_of r) o j lj)

      pub carries : (room : List ℕ) (bs : List (List ℕ)) → Holding r img bs → Leaves (act (on (continue k) img room) r) (made more) (with_health r further) bs
      unfolding effect
      carries room bs h =
          let nl : is_lost r.health ≡ false = rw hd refl in
          record {
            answer = rw hd refl;
            state = record_is;
            holding =
                record {
                  limits = turned r further limits further-within;
                  long = rw images-are long-left;
                  count = h.count;
                  whole = h.whole;
                  stored = λ u j lj.
                      rw images-are
                      (reseen (disks_of r) r.stripes (layout (geometry r)).owner (absent r.health) (absent further) (cell_in r img j) (cell_in r left j) (bytes_at j bs)
                      (single (disks_of r) r.stripes r.health nl) (h.stored nl j lj)
                      (λ S e lS le v.
                      rw hd
                      (resumed (disks_of r) r.stripes o c more (cell_in r img j) (cell_in r left j) as_many (λ s x ls lo hi. cell-remade j s x lj ls lo hi)
                      (λ s x ls far. cell_apart j s x lj ls (λ p. far)) S e lS v)));
                };
          }

-- ---- i stripes, and then k more

module _ (i k o c : ℕ) (r : Record) (img : List ℕ) (hd : r.health ≡ Rebuilding o c) (l : c + i < r.stripes) where
  -- the record and the images between the two
  abbrev r₁ : Record
  r₁ = with_health r (Rebuilding o (c + i))

  abbrev J : List ℕ
  J = stored r.block r.stripes (fill_disk c i o (λ S. others_in r img S o)) img

  abbrev x : ℕ
  x = min k (r.stripes - (c + i))

  first : min i (r.stripes - c) ≡ i
  first = omega arith

  all : min (i + k) (r.stripes - c) ≡ i + min k (r.stripes - (c + i))
  all = omega arith

  between : recorded (continue_stores i r img) r ≡ r₁
  between =
      record_is r img o c hd i
      ∙ ap {B = Record} (λ (n : ℕ). with_health r (rebuilt_to r.stripes o (c + n))) first
      ∙ ap {B = Record} (λ (h : Health). with_health r h) (come-to r.stripes o (c + i) l)

  left-between : stored r.block r.stripes (continue_stores i r img) img ≡ J
  left-between =
      images-are r img o c hd i
      ∙ ap (λ (n : ℕ). stored r.block r.stripes (fill_disk c n o (λ S. others_in r img S o)) img) first

  abbrev Alike : Record → List ℕ → Type 0
  Alike r' img' =
      (stored_in r (continue_stores (i + k) r img) img ≡ stored_in r' (continue_stores k r' img') img')
      × (recorded (continue_stores (i + k) r img) r ≡ recorded (continue_stores k r' img') r')
      × (stripes_made (i + k) r ≡ stripes_made i r + stripes_made k r')

  images-alike : stored r.block r.stripes (continue_stores (i + k) r img) img ≡ stored r.block r.stripes (continue_stores k r₁ J) J
  images-alike =
      let B : ℕ = r.block in
      let T : ℕ = r.stripes in
      let f : ℕ → List ℕ = λ S. others_in r img S o in
      images-are r img o c hd (i + k)
      ∙ ap (λ (n : ℕ). stored B T (fill_disk c n o f) img) all
      ∙ ap (λ (ps : List Store). stored B T ps img) (fill-append c o f i x)
      ∙ stored-append B T (fill_disk c i o f) (fill_disk (c + i) x o f) img
      ∙ ap (λ (ps : List Store). stored B T ps J)
      (fill-cong (c + i) o f (λ S. others_in r J S o) x (λ S h. sym (others-filled B T (disks_of r) o c img i S (omega arith) (omega arith))))
      ∙ sym (images-are r₁ J o (c + i) refl k)

  record-alike : recorded (continue_stores (i + k) r img) r ≡ recorded (continue_stores k r₁ J) r₁
  record-alike =
      record_is r img o c hd (i + k)
      ∙ ap {B = Record} (λ (n : ℕ). with_health r (rebuilt_to r.stripes o n))
      (let q : c + min (i + k) (r.stripes - c) ≡ c + i + min k (r.stripes - (c + i)) = omega arith in q)
      ∙ sym (record_is r₁ J o (c + i) refl k)

  counts-alike : stripes_made (i + k) r ≡ stripes_made i r + stripes_made k r₁
  counts-alike = omega (arith, (let q : stripes_done r.health ≡ c = ap stripes_done hd in q))

  pub in_two : Alike (recorded (continue_stores i r img) r) (stored r.block r.stripes (continue_stores i r img) img)
  in_two =
      subst (λ (r' : Record). Alike r' (stored r.block r.stripes (continue_stores i r img) img)) (sym between)
      (subst (λ (l : List ℕ). Alike r₁ l) (sym left-between) (images-alike, record-alike, counts-alike))
