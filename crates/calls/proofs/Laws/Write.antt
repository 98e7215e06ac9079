-- A write: the images left hold the list with the block replaced, whatever disk is out. Assumes nothing.
use Prim.Native.Nat.{ℕ, zero, suc, ◌<◌}
use mathlib.Core.Path.{◌≡◌, refl, sym, ap, ap₂, ◌∙◌, subst}
use mathlib.Core.Bool.{false}
use mathlib.Core.Logic.{◌≢◌}
use mathlib.Core.List.{List, [], ◌∷◌, ◌++◌, map}
use native.Mathlib.Decide.{ℕ_discrete}
use native.Mathlib.Omega.{arith}
use lib.ListN.{length, get_or, set, length-set, length-map}
use lib.Seq.{get_or-set_same, get_or-set_other}
use Rattle.layout.specs.declared.Geometry.{Geometry}
use Rattle.layout.specs.declared.Place.{Place}
use Rattle.layout.specs.declared.Role.TheVariants.{Data, Parity}
use Rattle.layout.specs.Layout.{disks, capacity, layout}
use Rattle.layout.specs.Limits.{GoodArray}
use Rattle.layout.proofs.Theorem.{laid}
use Rattle.blocks.specs.Xor.{xor_b}
use Rattle.blocks.proofs.Laws.Grid.{Grid, store_at, store_at-same, store_at-row, store_at-far}
use Rattle.blocks.proofs.Laws.Rows.{◌⊕◌, cancel-l}
use Rattle.blocks.proofs.Laws.Xor.{xor_assoc, length-xor_b, get_or-xor_b}
use Rattle.state.specs.declared.types.Record.{Record}
use Rattle.state.specs.Good.{geometry, GoodRecord}
use Rattle.calls.specs.Call.{write, on, done}
use Rattle.calls.specs.Health.{is_lost, absent}
use Rattle.calls.specs.Images.{disks_of, size, seen, Store, block, stored, recorded, unless}
use Rattle.calls.specs.Table.{later_rows, word}
use Rattle.calls.specs.Effect.{place_of, parity_of, write_stores, effect, act}
use Rattle.calls.proofs.Laws.Column.{Mask, store_if, see, Fits, fits-of, fits-set, Agree, Even, Holds, Single, Stored, seen-is, relent, agree-store, even-pair}
use Rattle.calls.proofs.Laws.Stores.{Within, length-stored, cell-stored, recorded-append, column-append, within-append, within-unless, column-unless, recorded-unless}
use Rattle.calls.proofs.Laws.Holding.{Holding, Leaves, bytes_at, cell_in, single, length_seen, get_or-seen}
use Rattle.calls.proofs.Laws.Passed as passed

-- ---- on one byte of every place, whatever the mask

module _ (g : Geometry) (good : GoodArray g) (b : ℕ) (lb : b < capacity g) where
  abbrev S : ℕ
  S = ((layout g).place b).block.stripe

  abbrev d : ℕ
  d = ((layout g).place b).block.disk

  abbrev p : ℕ
  p = ((layout g).place b).parity.disk

  pub lS : ((layout g).place b).block.stripe < g.stripes
  lS = (laid g good).placed.stripe_lt b lb

  pub ld : ((layout g).place b).block.disk < disks g
  ld = (laid g good).placed.disk_lt b lb

  -- the parity that the place rule gives is that of the block's stripe
  pub parity-is : p ≡ (layout g).parity S
  parity-is = (laid g good).placed.parity-disk b lb ∙ ap (layout g).parity ((laid g good).placed.parity_stripe b lb)

  pub lp : ((layout g).place b).parity.disk < disks g
  lp = rw parity-is ((laid g good).placed.parity_lt S lS)

  parity-owner : (layout g).owner S p ≡ Parity
  parity-owner = rw parity-is ((laid g good).placed.owner_of_parity S lS)

  -- it is not on the block's own disk
  pub parity-apart : ((layout g).place b).parity.disk ≢ ((layout g).place b).block.disk
  parity-apart q =
      let o : (layout g).owner S p ≡ Parity = parity-owner in
      let i : (layout g).owner S d ≡ Data b = (laid g good).placed.owner_of_place b lb in
      let z : ◌≡◌ {A = ℕ} 0 1 = cc in
      omega arith

  holds-write : (bs : List ℕ) (v : ℕ) → length bs ≡ capacity g → (L : Grid) (w : ℕ) → Holds (disks g) g.stripes (layout g).owner bs L
      → Holds (disks g) g.stripes (layout g).owner (set bs b v) (store_at (store_at L S p w) S d v)
  unfolding Holds
  holds-write bs v len L w f s e ls le = go (ℕ_discrete s S) (ℕ_discrete e d) (ℕ_discrete e p)
    where
      M : Grid
      M = store_at L S p w

      L' : Grid
      L' = store_at M S d v

      else-where : (L' s e ≡ L s e) → ((layout g).owner s e ≢ Data b) → Fits (set bs b v) ((layout g).owner s e) (L' s e)
      else-where q ne = rw q (fits-set bs b v ((layout g).owner s e) (L s e) ne (f s e ls le))

      -- the place that block b owns is its own
      its_own : (layout g).owner s e ≡ Data b → (S ≡ s) × (d ≡ e)
      its_own z = let q = (laid g good).placed.place_of_owner s e b ls le z in (ap (λ (x : Place). x.stripe) q, ap (λ (x : Place). x.disk) q)

      go : Dec (s ≡ S) → Dec (e ≡ d) → Dec (e ≡ p) → Fits (set bs b v) ((layout g).owner s e) (L' s e)
      go (yes x) (yes q) y =
          fits-of (set bs b v) ((layout g).owner s e) (Data b) (L' s e) v (rw (x, q) ((laid g good).placed.owner_of_place b lb))
          (rw (x, q, store_at-same M S d v)) (sym (get_or-set_same bs b v 0 (rw len lb)))
      go (yes x) (no q) (yes y) = fits-of (set bs b v) ((layout g).owner s e) Parity (L' s e) (L' s e) (rw (x, y) parity-owner) refl tt
      go (yes x) (no q) (no y) = else-where (rw (x, store_at-row M S d v e q, store_at-row L S p w e y)) (λ z. q (sym (its_own z).1))
      go (no x) q y = else-where (rw (store_at-far M S d v s e x, store_at-far L S p w s e x)) (λ z. x (sym (its_own z).0))

  pub stored-write : (bs : List ℕ) (v : ℕ) → length bs ≡ capacity g → (a : Mask) (I : Grid) → Single (disks g) g.stripes a
      → Stored (disks g) g.stripes (layout g).owner a I bs
      → Stored (disks g) g.stripes (layout g).owner a (store_if a (store_if a I S p (see (disks g) a I S p ⊕ (see (disks g) a I S d ⊕ v))) S d v) (set bs b v)
  stored-write bs v len a I one x =
      let L : Grid = x.grid in
      let w : ℕ = L S p ⊕ (L S d ⊕ v) in
      record {
        grid = store_at (store_at L S p w) S d v;
        agree =
            rw (
              seen-is (disks g) g.stripes a I L one x.agree x.even S p lS lp,
              seen-is (disks g) g.stripes a I L one x.agree x.even S d lS ld,
            )
            (agree-store (disks g) g.stripes a (store_if a I S p w) (store_at L S p w) S d v (agree-store (disks g) g.stripes a I L S p w x.agree));
        even =
            subst (λ (y : ℕ). Even (disks g) g.stripes (store_at (store_at L S p w) S d y)) (rw (cancel-l (L S p) (L S d ⊕ v), cancel-l (L S d) v))
            (even-pair (disks g) g.stripes L S p d w lS lp ld (λ z. parity-apart (sym z)) x.even);
        holds = holds-write bs v len L w x.holds;
      }

-- ---- on the images

map-set : {A B : Type 0} (f : A → B) (l : List A) (i : ℕ) (y : A) → map f (set l i y) ≡ set (map f l) i (f y)
map-set f [] i y = refl
map-set f (x ∷ xs) zero y = refl
map-set f (x ∷ xs) (suc i) y = ap (λ r. f x ∷ r) (map-set f xs i y)

module _ (r : Record) (img : List ℕ) (limits : GoodRecord r) (long : length img ≡ size r) (b : ℕ) (lb : b < capacity (geometry r)) (v : List ℕ) (lv : length v ≡ r.block) where
  abbrev Sb : ℕ
  Sb = (place_of r b).stripe

  abbrev db : ℕ
  db = (place_of r b).disk

  abbrev pb : ℕ
  pb = (parity_of r b).disk

  -- the new parity
  abbrev w : List ℕ
  w = xor_b (xor_b (seen r img Sb pb) (seen r img Sb db)) v

  abbrev parity-store : List Store
  parity-store = unless (absent r.health Sb pb) (block Sb pb w)

  abbrev data-store : List Store
  data-store = unless (absent r.health Sb db) (block Sb db v)

  in-stripes : Sb < r.stripes
  in-stripes = lS (geometry r) limits.array b lb

  pub length-w : length w ≡ r.block
  length-w =
      length-xor_b (xor_b (seen r img Sb pb) (seen r img Sb db)) v r.block
      (length-xor_b (seen r img Sb pb) (seen r img Sb db) r.block (length_seen r img Sb pb long in-stripes (lp (geometry r) limits.array b lb))
      (length_seen r img Sb db long in-stripes (ld (geometry r) limits.array b lb)))
      lv

  get_or-w : (j : ℕ) → j < r.block
      → get_or w j 0 ≡ see (disks_of r) (absent r.health) (cell_in r img j) Sb pb ⊕ (see (disks_of r) (absent r.health) (cell_in r img j) Sb db ⊕ get_or v j 0)
  get_or-w j lj =
      get_or-xor_b (xor_b (seen r img Sb pb) (seen r img Sb db)) v j
      ∙ ap (λ (x : ℕ). x ⊕ get_or v j 0) (get_or-xor_b (seen r img Sb pb) (seen r img Sb db) j ∙ ap₂ ◌⊕◌ (get_or-seen r img Sb pb j lj) (get_or-seen r img Sb db j lj))
      ∙ xor_assoc (see (disks_of r) (absent r.health) (cell_in r img j) Sb pb) (see (disks_of r) (absent r.health) (cell_in r img j) Sb db) (get_or v j 0)

  pub within-write : Within (disks_of r) r.block r.stripes (write_stores r img b v)
  unfolding write_stores
  within-write =
      within-append (disks_of r) r.block r.stripes parity-store data-store
      (within-unless (disks_of r) r.block r.stripes (absent r.health Sb pb) Sb pb w in-stripes (lp (geometry r) limits.array b lb) length-w)
      (within-unless (disks_of r) r.block r.stripes (absent r.health Sb db) Sb db v in-stripes (ld (geometry r) limits.array b lb) lv)

  pub recorded-write : recorded (write_stores r img b v) r ≡ r
  unfolding write_stores
  recorded-write = rw (recorded-append parity-store data-store r, recorded-unless (absent r.health Sb pb) Sb pb w r, recorded-unless (absent r.health Sb db) Sb db v r)

  pub cell-write : (j : ℕ) → j < r.block → (s e : ℕ) → s < r.stripes
      → cell_in r (stored r.block r.stripes (write_stores r img b v) img) j s e
      ≡ store_if (absent r.health) (store_if (absent r.health) (cell_in r img j) Sb pb (get_or w j 0)) Sb db (get_or v j 0) s e
  unfolding write_stores
  cell-write j lj s e ls =
      cell-stored r.block r.stripes (disks_of r) (parity-store ++ data-store) img within-write long j s e lj ls
      ∙ rw (
        column-append j parity-store data-store (cell_in r img j),
        column-unless j (absent r.health Sb pb) Sb pb w (cell_in r img j),
        column-unless j (absent r.health Sb db) Sb db v (store_if (absent r.health) (cell_in r img j) Sb pb (get_or w j 0)),
      )

module _ (r : Record) (img : List ℕ) (bs : List (List ℕ)) (h : Holding r img bs) (b : ℕ) (lb : b < capacity (geometry r)) (v : List ℕ) (lv : length v ≡ r.block) where
  pub holding-write : is_lost r.health ≡ false → Holding r (stored r.block r.stripes (write_stores r img b v) img) (set bs b v)
  unfolding Agree
  holding-write nl =
      record {
        limits = h.limits;
        long = length-stored r.block r.stripes (write_stores r img b v) img ∙ h.long;
        count = length-set bs b v ∙ h.count;
        whole = λ c l. go c (rw (length-set bs b v) at l) (ℕ_discrete c b);
        stored = λ nl' j lj.
            rw (map-set (λ (x : List ℕ). get_or x j 0) bs b v)
            (relent (disks_of r) r.stripes (layout (geometry r)).owner (absent r.health) _
            (cell_in r (stored r.block r.stripes (write_stores r img b v) img) j) (set (bytes_at j bs) b (get_or v j 0))
            (stored-write (geometry r) h.limits.array b lb (bytes_at j bs) (get_or v j 0) (length-map bs (λ (x : List ℕ). get_or x j 0) ∙ h.count) (absent r.health) (cell_in r img j)
            (single (disks_of r) r.stripes r.health nl) (h.stored nl j lj))
            (λ s e ls le u.
            cell-write r img h.limits h.long b lb v lv j lj s e ls
            ∙ ap (λ (x : ℕ). store_if (absent r.health) (store_if (absent r.health) (cell_in r img j) S p x) S d (get_or v j 0) s e)
            (get_or-w r img h.limits h.long b lb v lv j lj)));
      }
    where
      S : ℕ
      S = (place_of r b).stripe

      d : ℕ
      d = (place_of r b).disk

      p : ℕ
      p = (parity_of r b).disk

      go : (c : ℕ) → c < length bs → Dec (c ≡ b) → length (get_or (set bs b v) c []) ≡ r.block
      go c l (yes q) = rw (q, get_or-set_same bs b v [] (rw q at l)) lv
      go c l (no n) = rw (get_or-set_other bs b c v [] n) (h.whole c l)

-- ---- the call

module _ (r : Record) (img room : List ℕ) (bs : List (List ℕ)) (lends : length img ≡ size r → Holding r img bs) (b : ℕ) (v : List ℕ) (k : ℕ) where
  pub writes : word (later_rows (write b v) r (capacity (geometry r)) (length img) k) ≡ 0
      → Leaves (act (on (write b v) img room) r) done r (set bs b v)
  unfolding effect
  writes z =
      let q = passed.writes r (capacity (geometry r)) (length img) k b v z in
      let h : Holding r img bs = lends q.long in
      record {
        answer = refl;
        state = recorded-write r img h.limits h.long b q.block-lt v q.whole;
        holding = holding-write r img bs h b q.block-lt v q.whole q.here;
      }
