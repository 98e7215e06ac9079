-- One byte of every place, as a grid: what a call sees of it, what it holds of a list of bytes, and what a store makes of both. Assumes nothing.
use Prim.Native.Nat.{ℕ, ◌<◌}
use mathlib.Core.Path.{◌≡◌, refl, sym, ap, ◌∙◌}
use mathlib.Core.Bool.{Bool, true, false, cond}
use mathlib.Core.Logic.{◌≢◌}
use mathlib.Core.List.{List}
use native.Mathlib.Decide.{ℕ_discrete}
use lib.ListN.{get_or, set}
use lib.Seq.{get_or-set_other}
use Rattle.layout.specs.declared.Role.TheVariants.{Data, Parity, Blank}
use Rattle.layout.specs.declared.Role.{Role}
use Rattle.blocks.proofs.Laws.Rows.{◌⊕◌, put, sum, rest, put_other, sum-put, rest-ext, rest-is, zero-l, self, cancel-l}
use Rattle.blocks.proofs.Laws.Grid.{Grid, store_at, store_at-same, store_at-row, store_at-far, store_at-this-row, store_at-far-row}

-- which places count as out
abbrev pub Mask : Type 0
Mask = ℕ → ℕ → Bool

-- a store that skips those, and a place as a call sees it
abbrev pub store_if : Mask → Grid → ℕ → ℕ → ℕ → Grid
store_if a I S d v = cond (a S d) I (store_at I S d v)

abbrev pub see : ℕ → Mask → Grid → ℕ → ℕ → ℕ
see N a I S d = cond (a S d) (rest N d (I S)) (I S d)

-- what a place has to hold, by its owner
abbrev pub Fits : List ℕ → Role → ℕ → Type 0
Fits bs (Data b) v = v ≡ get_or bs b 0
Fits bs Parity v = Unit
Fits bs Blank v = v ≡ 0

pub fits-of : (bs : List ℕ) (o o' : Role) (x x' : ℕ) → o ≡ o' → x ≡ x' → Fits bs o' x' → Fits bs o x
fits-of bs o o' x x' p q f = rw (p, q) f

pub fits-blank : (bs : List ℕ) (o : Role) (x : ℕ) → o ≡ Blank → Fits bs o x → x ≡ 0
fits-blank bs o x p f = rw p at f

pub fits-data : (bs : List ℕ) (o : Role) (b x : ℕ) → o ≡ Data b → Fits bs o x → x ≡ get_or bs b 0
fits-data bs o b x p f = rw p at f

pub fits-set : (bs : List ℕ) (b v : ℕ) (o : Role) (x : ℕ) → o ≢ Data b → Fits bs o x → Fits (set bs b v) o x
fits-set bs b v (Data c) x ne f = f ∙ sym (get_or-set_other bs b c v 0 (λ q. ne (ap Data q)))
fits-set bs b v Parity x ne f = tt
fits-set bs b v Blank x ne f = f

-- N disks of T stripes
module _ (N T : ℕ) where
  -- equal but where the mask is
  unfoldable pub Agree : Mask → Grid → Grid → Type 0
  Agree a I L = (S d : ℕ) → S < T → d < N → a S d ≡ false → I S d ≡ L S d

  unfoldable pub Even : Grid → Type 0
  Even L = (S : ℕ) → S < T → sum N (L S) ≡ 0

  unfoldable pub Holds : (ℕ → ℕ → Role) → List ℕ → Grid → Type 0
  Holds own bs L = (S d : ℕ) → S < T → d < N → Fits bs (own S d) (L S d)

  -- at most one disk of a stripe is masked
  unfoldable pub Single : Mask → Type 0
  Single a = (S d e : ℕ) → a S d ≡ true → a S e ≡ true → d ≡ e

  -- a grid of sound stripes that holds the bytes, and that the images are but where the mask is
  pub record Stored (own : ℕ → ℕ → Role) (a : Mask) (I : Grid) (bs : List ℕ) : Type 0 where
    pub grid : Grid
    pub agree : Agree a I grid
    pub even : Even grid
    pub holds : Holds own bs grid

  -- what a call sees of a place is what the grid holds
  pub seen-is : (a : Mask) (I L : Grid) → Single a → Agree a I L → Even L → (S d : ℕ) → S < T → d < N → see N a I S d ≡ L S d
  unfolding Agree Even Single
  seen-is a I L one agree even S d lS ld = go (a S d) refl
    where
      other : (e : ℕ) → a S d ≡ true → e ≢ d → (b : Bool) → a S e ≡ b → b ≡ false
      other e p ne true q = absurd (ne (sym (one S d e p q)))
      other e p ne false q = refl

      go : (b : Bool) → a S d ≡ b → cond b (rest N d (I S)) (I S d) ≡ L S d
      go true p = rest-ext N d (I S) (L S) (λ x lx nx. agree S x lS lx (other x p nx (a S x) refl)) ∙ rest-is N d (L S) ld (even S lS)
      go false p = agree S d lS ld p

  -- other images, each place of which, but where their mask is, is what was seen
  pub reseen : (own : ℕ → ℕ → Role) (a a' : Mask) (I J : Grid) (bs : List ℕ) → Single a → Stored own a I bs
      → ((S d : ℕ) → S < T → d < N → a' S d ≡ false → J S d ≡ see N a I S d) → Stored own a' J bs
  unfolding Agree
  reseen own a a' I J bs one s q =
      record { grid = s.grid; agree = λ S d lS ld u. q S d lS ld u ∙ seen-is a I s.grid one s.agree s.even S d lS ld; even = s.even; holds = s.holds }

  -- other images that agree with these
  pub relent : (own : ℕ → ℕ → Role) (a : Mask) (I J : Grid) (bs : List ℕ) → Stored own a I bs → Agree a J I → Stored own a J bs
  unfolding Agree
  relent own a I J bs s q = record { grid = s.grid; agree = λ S d lS ld u. q S d lS ld u ∙ s.agree S d lS ld u; even = s.even; holds = s.holds }

  -- another owner's rule that the same grid keeps
  pub reowned : (own own' : ℕ → ℕ → Role) (a : Mask) (I : Grid) (bs bs' : List ℕ) → Stored own a I bs
      → ((S d x : ℕ) → S < T → d < N → Fits bs (own S d) x → Fits bs' (own' S d) x) → Stored own' a I bs'
  unfolding Holds
  reowned own own' a I bs bs' s f = record { grid = s.grid; agree = s.agree; even = s.even; holds = λ S d lS ld. f S d (s.grid S d) lS ld (s.holds S d lS ld) }

  -- a store that skips what is masked keeps agreement with the store that does not
  pub agree-store : (a : Mask) (I L : Grid) (S d v : ℕ) → Agree a I L → Agree a (store_if a I S d v) (store_at L S d v)
  unfolding Agree
  agree-store a I L S d v q s e ls le u = go (a S d) refl (ℕ_discrete s S) (ℕ_discrete e d)
    where
      go : (b : Bool) → a S d ≡ b → Dec (s ≡ S) → Dec (e ≡ d) → cond b I (store_at I S d v) s e ≡ store_at L S d v s e
      go true x (yes p) (yes p') = let z : true ≡ false = sym x ∙ rw (← p, ← p') u in let w : I s e ≡ store_at L S d v s e = cc in w
      go true x (yes p) (no n') = rw (p, store_at-row L S d v e n', ← p) (q s e ls le u)
      go true x (no n) y = rw (store_at-far L S d v s e n) (q s e ls le u)
      go false x (yes p) (yes p') = rw (p, p', store_at-same I S d v, store_at-same L S d v)
      go false x (yes p) (no n') = rw (p, store_at-row L S d v e n', store_at-row I S d v e n', ← p) (q s e ls le u)
      go false x (no n) y = rw (store_at-far L S d v s e n, store_at-far I S d v s e n) (q s e ls le u)

  -- two places of a stripe changed by the same difference
  pub even-pair : (L : Grid) (S d p v : ℕ) → S < T → d < N → p < N → p ≢ d → Even L → Even (store_at (store_at L S d v) S p (L S p ⊕ (L S d ⊕ v)))
  unfolding Even
  even-pair L S d p v lS ld lp ne z s ls = go (ℕ_discrete s S)
    where
      w : ℕ
      w = L S p ⊕ (L S d ⊕ v)

      go : Dec (s ≡ S) → sum N (store_at (store_at L S d v) S p w s) ≡ 0
      go (yes e) =
          rw (
            e,
            store_at-this-row (store_at L S d v) S p w,
            store_at-this-row L S d v,
            sum-put N (put (L S) d v) p w lp,
            put_other (L S) d v p ne,
            sum-put N (L S) d v ld,
            z S lS,
            zero-l (L S d ⊕ v),
            cancel-l (L S p) (L S d ⊕ v),
            self (L S d ⊕ v),
          )
      go (no n) = rw (store_at-far-row (store_at L S d v) S p w s n, store_at-far-row L S d v s n) (z s ls)
