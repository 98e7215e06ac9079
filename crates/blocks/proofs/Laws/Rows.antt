-- One byte of every place of a stripe, as a function from disks to bytes: a place replaced, the xor of the first k, the xor of all but one. Assumes nothing.
use Prim.Native.Nat.{ℕ, zero, suc, ◌+◌, ◌≤◌, ◌<◌}
use mathlib.Core.Path.{◌≡◌, refl, sym, ap, ap₂, ◌∙◌}
use mathlib.Core.Bool.{cond}
use mathlib.Core.Logic.{◌≢◌}
use native.Mathlib.Omega.{arith}
use native.Mathlib.Decide.{ℕ_discrete}
use native.Mathlib.Nat.{add-zero, add-suc}
use lib.Dec.{eqb}
use lib.Bits.{bit_xor, xor_comm, xor_zero_l, xor_zero_r, xor_self}
use borrow.Author.Tests.{eq-eqb, ne_eqb}
use Rattle.blocks.proofs.Laws.Xor.{xor_assoc}

-- one place of a row replaced
unfoldable pub put : {A : Type 0} → (ℕ → A) → ℕ → A → ℕ → A
put f d v x = cond (eqb x d) v (f x)

infixl 6 ◌⊕◌
abbrev pub ◌⊕◌ : ℕ → ℕ → ℕ
a ⊕ b = bit_xor a b

-- the xor of the first k
unfoldable pub sum : ℕ → (ℕ → ℕ) → ℕ
sum zero f = 0
sum (suc k) f = sum k f ⊕ f k

-- of all of them but the o-th
unfoldable pub rest : ℕ → ℕ → (ℕ → ℕ) → ℕ
rest k o f = sum k (put f o 0)

module _ {A : Type 0} where
  pub put_same : (f : ℕ → A) (d : ℕ) (v : A) → put f d v d ≡ v
  unfolding put
  put_same f d v = rw (eq-eqb d d refl)

  pub put_other : (f : ℕ → A) (d : ℕ) (v : A) (x : ℕ) → x ≢ d → put f d v x ≡ f x
  unfolding put
  put_other f d v x h = rw (ne_eqb x d h)

pub zero-l : (a : ℕ) → 0 ⊕ a ≡ a
zero-l = xor_zero_l

pub zero-r : (a : ℕ) → a ⊕ 0 ≡ a
zero-r = xor_zero_r

pub self : (a : ℕ) → a ⊕ a ≡ 0
self = xor_self

pub cancel-l : (a b : ℕ) → a ⊕ (a ⊕ b) ≡ b
cancel-l a b = rw (← xor_assoc a a b, self a, zero-l b)

pub sum-ext : (k : ℕ) (f g : ℕ → ℕ) → ((d : ℕ) → d < k → f d ≡ g d) → sum k f ≡ sum k g
unfolding sum
sum-ext zero f g h = refl
sum-ext (suc k) f g h = ap₂ ◌⊕◌ (sum-ext k f g (λ d l. h d (omega arith))) (h k (omega arith))

pub sum-zero : (k : ℕ) (f : ℕ → ℕ) → ((d : ℕ) → d < k → f d ≡ 0) → sum k f ≡ 0
unfolding sum
sum-zero zero f h = refl
sum-zero (suc k) f h = ap₂ ◌⊕◌ (sum-zero k f (λ d l. h d (omega arith))) (h k (omega arith)) ∙ zero-l 0

pub sum-extend : (n k : ℕ) (f : ℕ → ℕ) → ((d : ℕ) → n ≤ d → f d ≡ 0) → sum (n + k) f ≡ sum n f
unfolding sum
sum-extend n zero f h = rw (add-zero n)
sum-extend n (suc k) f h =
    rw (add-suc n k) (ap (λ (x : ℕ). sum (n + k) f ⊕ x) (h (n + k) (omega arith)) ∙ zero-r (sum (n + k) f) ∙ sum-extend n k f h)

-- a change of one place changes the sum by the difference
pub sum-put : (k : ℕ) (f : ℕ → ℕ) (d : ℕ) (v : ℕ) → d < k → sum k (put f d v) ≡ sum k f ⊕ (f d ⊕ v)
unfolding sum
sum-put zero f d v h = absurd (omega arith)
sum-put (suc k) f d v h = go (λ l. sum-put k f d v l) (ℕ_discrete d k)
  where
    go : (d < k → sum k (put f d v) ≡ sum k f ⊕ (f d ⊕ v)) → Dec (d ≡ k) → sum k (put f d v) ⊕ put f d v k ≡ (sum k f ⊕ f k) ⊕ (f d ⊕ v)
    go ih (yes e) =
        rw (e, put_same f k v, sum-ext k (put f k v) f (λ x l. put_other f k v x (omega arith)), xor_assoc (sum k f) (f k) (f k ⊕ v), cancel-l (f k) v)
    go ih (no ne) =
        rw (put_other f d v k (λ e. ne (sym e)), ih (omega arith))
        (xor_assoc (sum k f) (f d ⊕ v) (f k) ∙ ap (λ (x : ℕ). sum k f ⊕ x) (xor_comm (f d ⊕ v) (f k)) ∙ sym (xor_assoc (sum k f) (f k) (f d ⊕ v)))

pub rest-ext : (k o : ℕ) (f g : ℕ → ℕ) → ((d : ℕ) → d < k → d ≢ o → f d ≡ g d) → rest k o f ≡ rest k o g
unfolding rest
rest-ext k o f g h = sum-ext k (put f o 0) (put g o 0) (λ d l. go d l (ℕ_discrete d o))
  where
    go : (d : ℕ) → d < k → Dec (d ≡ o) → put f o 0 d ≡ put g o 0 d
    go d l (yes e) = rw (e, put_same f o 0, put_same g o 0)
    go d l (no ne) = rw (put_other f o 0 d ne, put_other g o 0 d ne) (h d l ne)

-- in a row that xors to zero, a place is the xor of the others
pub rest-is : (k o : ℕ) (f : ℕ → ℕ) → o < k → sum k f ≡ 0 → rest k o f ≡ f o
unfolding rest
rest-is k o f h s = rw (sum-put k f o 0 h, s, zero-l (f o ⊕ 0), zero-r (f o))
