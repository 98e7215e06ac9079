-- The lists of blocks that the images hold: zero at first, longer by zero blocks as stripes are opened. Assumes nothing.
use Prim.Native.Nat.{ℕ, zero, suc, ◌+◌, ◌-◌, ◌≤◌, ◌<◌}
use mathlib.Core.Path.{◌≡◌, refl, sym, ap, ◌∙◌}
use mathlib.Core.List.{List, [], ◌∷◌, ◌++◌, map, map-append, append-nil, append_assoc}
use native.Mathlib.Decide.{dec_lt}
use native.Mathlib.Omega.{arith}
use lib.ListN.{length, get_or, replicate, length-append, length-replicate, get_or-replicate, replicate-append-replicate, get_or-append, get_or-eq_default}
use lib.Seq.{get_or-append-add}
use Rattle.layout.specs.declared.Geometry.{Geometry}
use Rattle.layout.specs.declared.Role.TheVariants.{Data, Parity, Blank}
use Rattle.layout.specs.declared.Role.{Role}
use Rattle.layout.specs.Layout.{capacity}
use Rattle.layout.proofs.Laws.Owners.Opened.{kept, new}
use Rattle.layout.proofs.Laws.Owners.{Opened}
use Rattle.blocks.specs.Block.{zeros}
use Rattle.blocks.proofs.Laws.Grid.{Grid}
use Rattle.blocks.proofs.Laws.Xor.{get_or-zeros}
use Rattle.calls.proofs.Laws.Column.{Mask, Fits, Stored, reowned}
use Rattle.calls.proofs.Laws.Holding.{bytes_at}

-- c blocks of zeroes
abbrev pub blank-blocks : ℕ → ℕ → List (List ℕ)
blank-blocks c B = replicate c (zeros B)

-- a list with zero blocks after it, up to the capacity (the flat list has its own word for this)
abbrev pub with-new : Geometry → ℕ → List (List ℕ) → List (List ℕ)
with-new g B bs = bs ++ blank-blocks (capacity g - length bs) B

map-replicate : {A B : Type 0} (f : A → B) (n : ℕ) (x : A) → map f (replicate n x) ≡ replicate n (f x)
map-replicate f zero x = refl
map-replicate f (suc n) x = ap (λ r. f x ∷ r) (map-replicate f n x)

pub bytes-blank : (c B j : ℕ) → bytes_at j (blank-blocks c B) ≡ zeros c
bytes-blank c B j = map-replicate (λ (v : List ℕ). get_or v j 0) c (zeros B) ∙ ap (replicate c) (get_or-zeros B j)

pub whole-blank : (c B b : ℕ) → b < c → length (get_or (blank-blocks c B) b []) ≡ B
whole-blank c B b h = ap length (get_or-replicate c b (zeros B) [] h) ∙ length-replicate {A = ℕ} B 0

module _ (g : Geometry) (B : ℕ) (bs : List (List ℕ)) where
  abbrev more : List (List ℕ)
  more = blank-blocks (capacity g - length bs) B

  pub bytes-with-new : (j : ℕ) → bytes_at j (with-new g B bs) ≡ bytes_at j bs ++ zeros (capacity g - length bs)
  bytes-with-new j =
      map-append (λ (v : List ℕ). get_or v j 0) bs more ∙ ap (λ (x : List ℕ). bytes_at j bs ++ x) (bytes-blank (capacity g - length bs) B j)

  length-with-new : length (with-new g B bs) ≡ length bs + (capacity g - length bs)
  length-with-new = length-append bs more ∙ ap (λ (x : ℕ). length bs + x) (length-replicate (capacity g - length bs) (zeros B))

  pub count-with-new : length bs ≤ capacity g → length (with-new g B bs) ≡ capacity g
  count-with-new le = length-with-new ∙ omega arith

  pub whole-with-new : ((b : ℕ) → b < length bs → length (get_or bs b []) ≡ B) → (b : ℕ) → b < length (with-new g B bs) → length (get_or (with-new g B bs) b []) ≡ B
  whole-with-new f b h = go (dec_lt b (length bs))
    where
      go : Dec (b < length bs) → length (get_or (bs ++ more) b []) ≡ B
      go (yes l) = rw (get_or-append bs more [] b l) (f b l)
      go (no l) =
          let q : b ≡ length bs + (b - length bs) = omega arith in
          let h' : b < length bs + (capacity g - length bs) = rw length-with-new at h in
          ap (λ (x : ℕ). length (get_or (bs ++ more) x [])) q ∙ ap length (get_or-append-add bs more (b - length bs) []) ∙ whole-blank (capacity g - length bs) B (b - length bs) (omega arith)

  -- a list that is long enough is as it was
  pub same-with-new : length bs ≡ capacity g → with-new g B bs ≡ bs
  same-with-new e =
      let none : capacity g - length bs ≡ 0 = omega arith in
      ap (λ (c : ℕ). bs ++ blank-blocks c B) none ∙ append-nil bs

-- lengthened twice: as if at once
pub twice-with-new : (g g' : Geometry) (B : ℕ) (bs : List (List ℕ)) → length bs ≤ capacity g → capacity g ≤ capacity g' → with-new g' B (with-new g B bs) ≡ with-new g' B bs
twice-with-new g g' B bs le le' =
    let c : ℕ = capacity g - length bs in
    let d : ℕ = capacity g' - length (with-new g B bs) in
    let e : c + d ≡ capacity g' - length bs = omega (arith, count-with-new g B bs le) in
    append_assoc bs (blank-blocks c B) (blank-blocks d B) ∙ ap (λ x. bs ++ x) (replicate-append-replicate c d (zeros B)) ∙ ap (λ (x : ℕ). bs ++ blank-blocks x B) e

-- ---- on one byte of every place

-- zeroes after a list change no entry: where there was none, none is other than zero
padded : (bs : List ℕ) (c b : ℕ) → get_or (bs ++ zeros c) b 0 ≡ get_or bs b 0
padded [] c b = get_or-zeros c b
padded (x ∷ bs) c zero = refl
padded (x ∷ bs) c (suc b) = padded bs c b

fits-opened : (bs : List ℕ) (c : ℕ) {o o' : Role} (x : ℕ) → Opened (length bs) o o' → Fits bs o x → Fits (bs ++ zeros c) o' x
fits-opened bs c {o = Data b} x kept f = f ∙ sym (padded bs c b)
fits-opened bs c {o = Parity} x kept f = tt
fits-opened bs c {o = Blank} x kept f = f
fits-opened bs c x (new b l) f = f ∙ sym (padded bs c b ∙ get_or-eq_default bs 0 l)

-- new blocks, however many, stand on blanks, and are zero
pub stored-opened : (N T : ℕ) (own own' : ℕ → ℕ → Role) (a : Mask) (I : Grid) (bs : List ℕ) (c : ℕ) → ((S d : ℕ) → Opened (length bs) (own S d) (own' S d))
    → Stored N T own a I bs → Stored N T own' a I (bs ++ zeros c)
stored-opened N T own own' a I bs c o s = reowned N T own own' a I bs (bs ++ zeros c) s (λ S d x lS ld f. fits-opened bs c x (o S d) f)
