-- Rows of rising numbers: the number given is that of the lowest condition that holds. Assumes nothing.
use Prim.Native.Nat.{ℕ, suc, ◌<◌}
use mathlib.Core.Path.{◌≡◌, refl, sym, subst}
use mathlib.Core.Bool.{Bool, true, false, cond}
use mathlib.Core.Logic.{◌≢◌}
use mathlib.Core.List.{List, [], ◌∷◌, ◌++◌}
use native.Mathlib.Omega.{arith}
use lib.Dec.{eqb}
use lib.ListN.{get_or}
use Rattle.state.specs.declared.types.Record.{Record}
use Rattle.calls.specs.Call.{Call, column}
use Rattle.calls.specs.Table.{Row, table, word}
use Rattle.calls.specs.Cases.Refusals.{marks, marked, numbers}
use Rattle.calls.specs.Theorem.{NoneHolds, Given}
use Rattle.calls.proofs.Cases.Refusals.{rowwise}

-- numbers above low, each above the one before
unfoldable pub Rising : ℕ → List Row → Type 0
Rising low [] = Unit
Rising low (x ∷ rows) = (low < x.0) × Rising x.0 rows

-- every call's rows are such: they are the lines marked in its column, counted from 1
Ascending : ℕ → List ℕ → Type 0
Ascending low [] = Unit
Ascending low (k ∷ ks) = (low < k) × Ascending k ks

ascending : (column k low : ℕ) (lines : List (List ℕ)) → low < k → Ascending low (marked column k lines)
unfolding Ascending
ascending column k low [] l = tt
ascending column k low (line ∷ lines) l =
    go (eqb (get_or line column 0) 1) (ascending column (suc k) k lines (omega arith)) (ascending column (suc k) low lines (omega arith))
  where
    go : (b : Bool) → Ascending k (marked column (suc k) lines) → Ascending low (marked column (suc k) lines) → Ascending low (cond b (k ∷ marked column (suc k) lines) (marked column (suc k) lines))
    go true h i = (l, h)
    go false h i = i

rising : (rows : List Row) (low : ℕ) → Ascending low (numbers rows) → Rising low rows
unfolding Ascending Rising
rising [] low a = tt
rising (x ∷ rows) low a = (a.0, rising rows x.0 a.1)

pub rises : (c : Call) (short bad : Bool) (r : Record) (cap len room : ℕ) → Rising 0 (table c short bad r cap len room)
rises c short bad r cap len room =
    rising (table c short bad r cap len room) 0 (subst (Ascending 0) (sym (rowwise c short bad r cap len room)) (ascending (column c) 1 0 marks (omega arith)))

-- rows after others
behind : (before : List Row) (low : ℕ) (x : Row) (after : List Row) → Rising low (before ++ x ∷ after) → (low < x.0) × Rising x.0 after
unfolding Rising
behind [] low x after w = w
behind (y ∷ before) low x after w = let i = behind before y.0 x after w.1 in (omega (arith, w.0, i.0), i.1)

-- a number given is above low
above : (rows : List Row) (low : ℕ) → Rising low rows → word rows ≢ 0 → low < word rows
unfolding Rising
above [] low w ne = absurd (ne refl)
above (x ∷ rows) low w ne = go x.1 ne (λ q. above rows x.0 w.1 q)
  where
    go : (b : Bool) → cond b x.0 (word rows) ≢ 0 → (word rows ≢ 0 → x.0 < word rows) → low < cond b x.0 (word rows)
    go true u ih = w.0
    go false u ih = omega (arith, w.0, ih u)

-- what the number says of the rows before it ..
found : (before after : List Row) (low k : ℕ) (c : Bool) → Rising low (before ++ (k, c) ∷ after) → word (before ++ (k, c) ∷ after) ≡ k → (c ≡ true) × NoneHolds before
unfolding Rising NoneHolds
found [] after low k true w q = (refl, tt)
found [] after low k false w q = absurd (let l : low < k = w.0 in let u : k < word after = above after k w.1 (λ z. omega arith) in omega arith)
found (x ∷ before) after low k c w q = go x.1 refl q (λ u. found before after x.0 k c w.1 u)
  where
    go : (b : Bool) → x.1 ≡ b → cond b x.0 (word (before ++ (k, c) ∷ after)) ≡ k → (word (before ++ (k, c) ∷ after) ≡ k → (c ≡ true) × NoneHolds before)
        → (c ≡ true) × ((x.1 ≡ false) × NoneHolds before)
    go true p u ih = absurd (let l : x.0 < k = (behind before x.0 (k, c) after w.1).0 in omega arith)
    go false p u ih = ((ih u).0, (p, (ih u).1))

-- .. and the rows of the number
gives : (before after : List Row) (k : ℕ) (c : Bool) → c ≡ true → NoneHolds before → word (before ++ (k, c) ∷ after) ≡ k
unfolding NoneHolds
gives [] after k c p h = rw p refl
gives (x ∷ before) after k c p h = rw h.0 (gives before after k c p h.1)

silent : (rows : List Row) (low : ℕ) → Rising low rows → word rows ≡ 0 → NoneHolds rows
unfolding Rising NoneHolds
silent [] low w q = tt
silent (x ∷ rows) low w q = go x.1 refl q (λ u. silent rows x.0 w.1 u)
  where
    go : (b : Bool) → x.1 ≡ b → cond b x.0 (word rows) ≡ 0 → (word rows ≡ 0 → NoneHolds rows) → (x.1 ≡ false) × NoneHolds rows
    go true p u ih = absurd (let l : low < x.0 = w.0 in omega arith)
    go false p u ih = (p, ih u)

pub still : (rows : List Row) → NoneHolds rows → word rows ≡ 0
unfolding NoneHolds
still [] h = refl
still (x ∷ rows) h = rw h.0 (still rows h.1)

pub given : (rows : List Row) → Rising 0 rows → Given rows
given rows w =
    record {
      given = λ before after k c q. (
        (λ z. found before after 0 k c (subst (Rising 0) q w) (subst (λ (x : List Row). word x ≡ k) q z)),
        λ h. subst (λ (x : List Row). word x ≡ k) (sym q) (gives before after k c h.0 h.1),
      );
      zero = (silent rows 0 w, still rows);
      rising = λ before middle after x y q. let i = behind before 0 x (middle ++ y ∷ after) (subst (Rising 0) q w) in (behind middle x.0 y after i.1).0;
    }
