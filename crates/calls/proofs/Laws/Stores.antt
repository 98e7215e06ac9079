-- Lists of stores: what they leave, byte by byte; joined, skipped, and over whole disks. Assumes nothing.
use Prim.Native.Nat.{ℕ, zero, suc, ◌+◌, ◌*◌, ◌≤◌, ◌<◌}
use mathlib.Core.Path.{◌≡◌, refl, sym, ap, ap₂, ◌∙◌}
use mathlib.Core.Bool.{Bool, true, false, cond}
use mathlib.Core.List.{List, [], ◌∷◌, ◌++◌, append-nil, append_assoc}
use mathlib.Core.Logic.{◌⊎◌, inl, inr}
use native.Mathlib.Decide.{ℕ_discrete}
use native.Mathlib.Omega.{arith}
use lib.ListN.{length, get_or, length-replicate}
use Rattle.blocks.specs.Block.{store, zeros}
use Rattle.blocks.specs.Stripe.{offset}
use Rattle.blocks.proofs.Laws.Block.{length-store, block_at-store, get_or-block_at}
use Rattle.blocks.proofs.Laws.Grid.{Grid, store_at, store_at-same, store_at-row, store_at-far, store_at-cong}
use Rattle.blocks.proofs.Laws.Rows.{put, put_same, put_other}
use Rattle.blocks.proofs.Laws.Stripe.{cell, cell-store}
use Rattle.blocks.proofs.Laws.Xor.{get_or-zeros}
use Rattle.state.specs.declared.types.Record.{Record}
use Rattle.calls.specs.Stores.{each_disk}
use Rattle.calls.specs.Theorem.{rising}
use Rattle.calls.specs.Images.{Store, block, header, stored, recorded, unless, fill_disk, zero_disks}

-- every block of a list of stores is whole, and goes to one of N disks of T stripes
unfoldable pub Within : ℕ → ℕ → ℕ → List Store → Type 0
Within N B T [] = Unit
Within N B T (block S d v ∷ ps) = (S < T) × (d < N) × (length v ≡ B) × Within N B T ps
Within N B T (header x ∷ ps) = Within N B T ps

-- the bytes of one block
pub get_or-stored : (B T S d j : ℕ) (v img : List ℕ) → offset B T S d + length v ≤ length img → j < length v
    → get_or (stored B T (block S d v ∷ []) img) (offset B T S d + j) 0 ≡ get_or v j 0
unfolding stored
get_or-stored B T S d j v img h l =
    sym (get_or-block_at (store img (offset B T S d) v) (offset B T S d) (length v) j l)
    ∙ ap (λ (x : List ℕ). get_or x j 0) (block_at-store img (offset B T S d) v (length v) refl h)

-- what the stores make of byte j of every place
unfoldable pub column : ℕ → List Store → Grid → Grid
column j [] I = I
column j (block S d v ∷ ps) I = column j ps (store_at I S d (get_or v j 0))
column j (header x ∷ ps) I = column j ps I

column-cong : (j : ℕ) (ps : List Store) (I J : Grid) (S d : ℕ) → I S d ≡ J S d → column j ps I S d ≡ column j ps J S d
unfolding column
column-cong j [] I J S d q = q
column-cong j (block s e v ∷ ps) I J S d q = column-cong j ps (store_at I s e (get_or v j 0)) (store_at J s e (get_or v j 0)) S d (store_at-cong I J s e (get_or v j 0) S d q)
column-cong j (header x ∷ ps) I J S d q = column-cong j ps I J S d q

module _ (B T : ℕ) where
  pub length-stored : (ps : List Store) (img : List ℕ) → length (stored B T ps img) ≡ length img
  unfolding stored
  length-stored [] img = refl
  length-stored (block S d v ∷ ps) img = length-stored ps (store img (offset B T S d) v) ∙ length-store img (offset B T S d) v
  length-stored (header x ∷ ps) img = length-stored ps img

  -- the one law between bytes and columns
  pub cell-stored : (N : ℕ) (ps : List Store) (img : List ℕ) → Within N B T ps → length img ≡ N * (T * B) → (j S d : ℕ) → j < B → S < T
      → cell B T (stored B T ps img) j S d ≡ column j ps (cell B T img j) S d
  unfolding stored Within column
  cell-stored N [] img w z j S d lj lS = refl
  cell-stored N (block s e v ∷ ps) img w z j S d lj lS =
      cell-stored N ps (store img (offset B T s e) v) w.3 (length-store img (offset B T s e) v ∙ z) j S d lj lS
      ∙ column-cong j ps (cell B T (store img (offset B T s e) v) j) (store_at (cell B T img j) s e (get_or v j 0)) S d
      (cell-store B T N img s e v j S d z w.0 w.1 w.2 lj lS)
  cell-stored N (header x ∷ ps) img w z j S d lj lS = cell-stored N ps img w z j S d lj lS

  pub stored-append : (ps qs : List Store) (img : List ℕ) → stored B T (ps ++ qs) img ≡ stored B T qs (stored B T ps img)
  unfolding stored
  stored-append [] qs img = refl
  stored-append (block S d v ∷ ps) qs img = stored-append ps qs (store img (offset B T S d) v)
  stored-append (header x ∷ ps) qs img = stored-append ps qs img

  -- a record stored after blocks
  pub stored_last : (ps : List Store) (x : Record) (img : List ℕ) → stored B T (ps ++ header x ∷ []) img ≡ stored B T ps img
  unfolding stored
  stored_last ps x img = stored-append ps (header x ∷ []) img

pub recorded-append : (ps qs : List Store) (r : Record) → recorded (ps ++ qs) r ≡ recorded qs (recorded ps r)
unfolding recorded
recorded-append [] qs r = refl
recorded-append (block S d v ∷ ps) qs r = recorded-append ps qs r
recorded-append (header x ∷ ps) qs r = recorded-append ps qs x

pub recorded-last : (ps : List Store) (x r : Record) → recorded (ps ++ header x ∷ []) r ≡ x
unfolding recorded
recorded-last ps x r = recorded-append ps (header x ∷ []) r

pub column-append : (j : ℕ) (ps qs : List Store) (I : Grid) → column j (ps ++ qs) I ≡ column j qs (column j ps I)
unfolding column
column-append j [] qs I = refl
column-append j (block S d v ∷ ps) qs I = column-append j ps qs (store_at I S d (get_or v j 0))
column-append j (header x ∷ ps) qs I = column-append j ps qs I

pub within-append : (N B T : ℕ) (ps qs : List Store) → Within N B T ps → Within N B T qs → Within N B T (ps ++ qs)
unfolding Within
within-append N B T [] qs v w = w
within-append N B T (block S d x ∷ ps) qs v w = (v.0, v.1, v.2, within-append N B T ps qs v.3 w)
within-append N B T (header x ∷ ps) qs v w = within-append N B T ps qs v w

-- ---- a store that may be skipped

pub within-unless : (N B T : ℕ) (c : Bool) (S d : ℕ) (v : List ℕ) → S < T → d < N → length v ≡ B → Within N B T (unless c (block S d v))
unfolding Within
within-unless N B T true S d v lS ld lv = tt
within-unless N B T false S d v lS ld lv = (lS, ld, lv, tt)

pub column-unless : (j : ℕ) (c : Bool) (S d : ℕ) (v : List ℕ) (I : Grid) → column j (unless c (block S d v)) I ≡ cond c I (store_at I S d (get_or v j 0))
unfolding column
column-unless j true S d v I = refl
column-unless j false S d v I = refl

pub recorded-unless : (c : Bool) (S d : ℕ) (v : List ℕ) (x : Record) → recorded (unless c (block S d v)) x ≡ x
unfolding recorded
recorded-unless true S d v x = refl
recorded-unless false S d v x = refl

-- ---- a disk from stripe S₀ on

module _ (S₀ d : ℕ) (f : ℕ → List ℕ) where
  -- in k stripes the blocks given, elsewhere what was there
  pub column_apart : (j k : ℕ) (I : Grid) (S e : ℕ) → (e ≡ d → (S < S₀) ⊎ (S₀ + k ≤ S)) → column j (fill_disk S₀ k d f) I S e ≡ I S e
  unfolding fill_disk column
  column_apart j zero I S e far = refl
  column_apart j (suc k) I S e far =
      rw (column-append j (fill_disk S₀ k d f) (block T d (f T) ∷ []) I) (go (ℕ_discrete S T) (ℕ_discrete e d) ∙ column_apart j k I S e nearer)
    where
      T : ℕ
      T = S₀ + k

      J : Grid
      J = column j (fill_disk S₀ k d f) I

      nearer : e ≡ d → (S < S₀) ⊎ (S₀ + k ≤ S)
      nearer q = elim (far q) [ inl l ↦ inl l | inr l ↦ inr (omega (arith, l)) ]

      go : Dec (S ≡ T) → Dec (e ≡ d) → store_at J T d (get_or (f T) j 0) S e ≡ J S e
      go (yes p) (yes q) = absurd (elim (far q) [ inl l ↦ omega (arith, l, p) | inr l ↦ omega (arith, l, p) ])
      go (yes p) (no q) = rw (p, store_at-row J T d (get_or (f T) j 0) e q)
      go (no p) q = store_at-far J T d (get_or (f T) j 0) S e p

  pub column-fill : (j k : ℕ) (I : Grid) (S e : ℕ) → S₀ ≤ S → S < S₀ + k → column j (fill_disk S₀ k d f) I S e ≡ put (I S) d (get_or (f S) j 0) e
  unfolding fill_disk column
  column-fill j zero I S e lo l = absurd (omega arith)
  column-fill j (suc k) I S e lo l =
      rw (column-append j (fill_disk S₀ k d f) (block T d (f T) ∷ []) I) (go (ℕ_discrete S T) (ℕ_discrete e d) (λ h. column-fill j k I S e lo h))
    where
      T : ℕ
      T = S₀ + k

      J : Grid
      J = column j (fill_disk S₀ k d f) I

      go : Dec (S ≡ T) → Dec (e ≡ d) → (S < T → J S e ≡ put (I S) d (get_or (f S) j 0) e) → store_at J T d (get_or (f T) j 0) S e ≡ put (I S) d (get_or (f S) j 0) e
      go (yes q) (yes p) ih = rw (q, p, store_at-same J T d (get_or (f T) j 0), put_same (I T) d (get_or (f T) j 0))
      go (yes q) (no p) ih = rw (q, store_at-row J T d (get_or (f T) j 0) e p, put_other (I T) d (get_or (f T) j 0) e p) (column_apart j k I T e (λ x. inr (omega arith)))
      go (no q) p ih = store_at-far J T d (get_or (f T) j 0) S e q ∙ ih (omega arith)

  -- a part, and then the next
  pub fill-append : (i k : ℕ) → fill_disk S₀ (i + k) d f ≡ fill_disk S₀ i d f ++ fill_disk (S₀ + i) k d f
  unfolding fill_disk
  fill-append i zero = ap (λ (n : ℕ). fill_disk S₀ n d f) (let q : i + 0 ≡ i = omega arith in q) ∙ sym (append-nil (fill_disk S₀ i d f))
  fill-append i (suc k) =
      ap (λ (n : ℕ). fill_disk S₀ n d f) (let q : i + suc k ≡ suc (i + k) = omega arith in q)
      ∙ ap₂ (λ (ps : List Store) (s : ℕ). ps ++ block s d (f s) ∷ []) (fill-append i k) (let q : S₀ + (i + k) ≡ S₀ + i + k = omega arith in q)
      ∙ append_assoc (fill_disk S₀ i d f) (fill_disk (S₀ + i) k d f) (block (S₀ + i + k) d (f (S₀ + i + k)) ∷ [])

  pub fill-cong : (g : ℕ → List ℕ) (k : ℕ) → ((S : ℕ) → S < S₀ + k → f S ≡ g S) → fill_disk S₀ k d f ≡ fill_disk S₀ k d g
  unfolding fill_disk
  fill-cong g zero q = refl
  fill-cong g (suc k) q =
      ap₂ (λ (ps : List Store) (v : List ℕ). ps ++ block (S₀ + k) d v ∷ []) (fill-cong g k (λ S l. q S (omega arith))) (q (S₀ + k) (omega arith))

  pub within-fill : (N B T : ℕ) → d < N → ((S : ℕ) → length (f S) ≡ B) → (k : ℕ) → S₀ + k ≤ T → Within N B T (fill_disk S₀ k d f)
  unfolding fill_disk Within
  within-fill N B T ld lf zero l = tt
  within-fill N B T ld lf (suc k) l =
      within-append N B T (fill_disk S₀ k d f) (block (S₀ + k) d (f (S₀ + k)) ∷ []) (within-fill N B T ld lf k (omega arith)) (omega arith, ld, lf (S₀ + k), tt)

-- one more at the end is one more at the start
rising-last : (g : ℕ → Store) (S k : ℕ) → rising S k g ++ g (S + k) ∷ [] ≡ rising S (suc k) g
unfolding rising
rising-last g S zero = ap (λ (x : ℕ). g x ∷ []) (let q : S + 0 ≡ S = omega arith in q)
rising-last g S (suc k) =
    ap (λ (x : ℕ). g S ∷ (rising (suc S) k g ++ g x ∷ [])) (let q : S + suc k ≡ suc S + k = omega arith in q)
    ∙ ap (λ (ps : List Store). g S ∷ ps) (rising-last g (suc S) k)

pub fill-rising : (d : ℕ) (f : ℕ → List ℕ) (S k : ℕ) → fill_disk S k d f ≡ rising S k (λ x. block x d (f x))
unfolding fill_disk rising
fill-rising d f S zero = refl
fill-rising d f S (suc k) =
    ap (λ (ps : List Store). ps ++ (block (S + k) d (f (S + k)) ∷ [])) (fill-rising d f S k) ∙ rising-last (λ x. block x d (f x)) S k

-- zeroes, disk by disk: one disk more at the end is one more at the start
each_last : (T d k : ℕ) (f : ℕ → ℕ → Store) → each_disk T d k f ++ rising 0 T (f (d + k)) ≡ each_disk T d (suc k) f
unfolding each_disk
each_last T d zero f = (let q : d + 0 ≡ d = omega arith in rw q (sym (append-nil (rising 0 T (f d)))))
each_last T d (suc k) f =
    append_assoc (rising 0 T (f d)) (each_disk T (suc d) k f) (rising 0 T (f (d + suc k)))
    ∙ ap (λ (x : ℕ). rising 0 T (f d) ++ (each_disk T (suc d) k f ++ rising 0 T (f x))) (let q : d + suc k ≡ suc d + k = omega arith in q)
    ∙ ap (λ (ps : List Store). rising 0 T (f d) ++ ps) (each_last T (suc d) k f)

pub zero-each : (B T d k : ℕ) → zero_disks B T d k ≡ each_disk T d k (λ e S. block S e (zeros B))
unfolding zero_disks each_disk
zero-each B T d zero = refl
zero-each B T d (suc k) =
    ap₂ (λ (ps qs : List Store). ps ++ qs) (zero-each B T d k) (fill-rising (d + k) (λ S. zeros B) 0 T)
    ∙ each_last T d k (λ e S. block S e (zeros B))

module _ (B T first : ℕ) where
  pub column-below : (j k : ℕ) (I : Grid) (S e : ℕ) → S < T → e < first → column j (zero_disks B T first k) I S e ≡ I S e
  unfolding zero_disks column
  column-below j zero I S e lS l = refl
  column-below j (suc k) I S e lS l =
      rw (column-append j (zero_disks B T first k) (fill_disk 0 T (first + k) (λ x. zeros B)) I)
      (column-fill 0 (first + k) (λ x. zeros B) j T (column j (zero_disks B T first k) I) S e (omega arith) (omega arith)
      ∙ put_other (column j (zero_disks B T first k) I S) (first + k) (get_or (zeros B) j 0) e (omega arith) ∙ column-below j k I S e lS l)

  pub column-zero : (j k : ℕ) (I : Grid) (S e : ℕ) → S < T → first ≤ e → e < first + k → column j (zero_disks B T first k) I S e ≡ 0
  unfolding zero_disks
  column-zero j zero I S e lS lo hi = absurd (omega arith)
  column-zero j (suc k) I S e lS lo hi =
      rw (column-append j (zero_disks B T first k) (fill_disk 0 T (first + k) (λ x. zeros B)) I)
      (column-fill 0 (first + k) (λ x. zeros B) j T J S e (omega arith) (omega arith) ∙ go (ℕ_discrete e (first + k)) (λ h. column-zero j k I S e lS lo h))
    where
      J : Grid
      J = column j (zero_disks B T first k) I

      go : Dec (e ≡ first + k) → (e < first + k → J S e ≡ 0) → put (J S) (first + k) (get_or (zeros B) j 0) e ≡ 0
      go (yes q) ih = rw (q, put_same (J S) (first + k) (get_or (zeros B) j 0)) (get_or-zeros B j)
      go (no q) ih = put_other (J S) (first + k) (get_or (zeros B) j 0) e q ∙ ih (omega arith)

  pub within-zero : (N k : ℕ) → first + k ≤ N → Within N B T (zero_disks B T first k)
  unfolding zero_disks Within
  within-zero N zero l = tt
  within-zero N (suc k) l =
      within-append N B T (zero_disks B T first k) (fill_disk 0 T (first + k) (λ x. zeros B)) (within-zero N k (omega arith))
      (within-fill 0 (first + k) (λ x. zeros B) N B T (omega arith) (λ x. length-replicate {A = ℕ} B 0) T (omega arith))
