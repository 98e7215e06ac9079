-- One block carried within its stripe to a blank place, on one byte of every place. Assumes nothing.
use Prim.Native.Nat.{ℕ, ◌<◌}
use mathlib.Core.Path.{◌≡◌, refl, sym, ap, subst}
use mathlib.Core.Bool.{false}
use mathlib.Core.List.{List}
use native.Mathlib.Decide.{ℕ_discrete}
use Rattle.layout.specs.declared.Role.TheVariants.{Parity, Blank}
use Rattle.layout.specs.declared.Role.{Role}
use Rattle.layout.proofs.Laws.Owners.{Carries}
use Rattle.blocks.proofs.Laws.Rows.{◌⊕◌, zero-l, self}
use Rattle.blocks.proofs.Laws.Grid.{Grid, store_at, store_at-same, store_at-row, store_at-far}
use Rattle.calls.proofs.Laws.Column.{Fits, fits-blank, Agree, Even, Holds, Stored, agree-store, even-pair}

-- the copy, then the zeroes
abbrev pub carry : Grid → ℕ → ℕ → ℕ → Grid
carry I S from to = store_at (store_at I S to (I S from)) S from 0

module _ (N T : ℕ) (own own' : ℕ → ℕ → Role) (S from to : ℕ) (c : Carries N T own own' S from to) where
  -- what is true of each place and of a blank one with 0 in it is true of each place afterwards
  pub carry-cases : (P : ℕ → Role → ℕ → Type 0) (I : Grid) → P S Blank 0 → ((s d : ℕ) → s < T → d < N → P s (own s d) (I s d))
      → (s d : ℕ) → s < T → d < N → P s (own' s d) (carry I S from to s d)
  carry-cases P I z h s d ls ld = go (ℕ_discrete s S) (ℕ_discrete d from) (ℕ_discrete d to)
    where
      J : Grid
      J = store_at I S to (I S from)

      go : Dec (s ≡ S) → Dec (d ≡ from) → Dec (d ≡ to) → P s (own' s d) (store_at J S from 0 s d)
      go (yes p) (yes x) y = rw (p, x, store_at-same J S from 0, c.leaves) z
      go (yes p) (no x) (yes y) =
          rw (p, y, c.arrives, store_at-row J S from 0 to (λ q. c.apart (sym q)), store_at-same I S to (I S from)) (h S from c.stripe_lt c.from_lt)
      go (yes p) (no x) (no y) = rw (p, c.row d x y, store_at-row J S from 0 d x, store_at-row I S to (I S from) d y) (h S d c.stripe_lt ld)
      go (no p) x y = rw (c.far s d p, store_at-far J S from 0 s d p, store_at-far I S to (I S from) s d p) (h s d ls ld)

  -- with every disk in
  pub stored-carry : (bs : List ℕ) (I : Grid) → Stored N T own (λ s d. false) I bs → Stored N T own' (λ s d. false) (carry I S from to) bs
  unfolding Agree Holds
  stored-carry bs I x =
      let L : Grid = x.grid in
      let same : I S from ≡ L S from = x.agree S from c.stripe_lt c.from_lt refl in
      let zero : L S to ≡ 0 = fits-blank bs (own S to) (L S to) c.onto_blank (x.holds S to c.stripe_lt c.to-lt) in
      let gone : L S from ⊕ (L S to ⊕ L S from) ≡ 0 = rw (zero, zero-l (L S from), self (L S from)) in
      record {
        grid = carry L S from to;
        agree =
            rw same
            (agree-store N T (λ s d. false) (store_at I S to (L S from)) (store_at L S to (L S from)) S from 0 (agree-store N T (λ s d. false) I L S to (L S from) x.agree));
        even =
            subst (λ (y : ℕ). Even N T (store_at (store_at L S to (L S from)) S from y)) gone
            (even-pair N T L S to from (L S from) c.stripe_lt c.to-lt c.from_lt c.apart x.even);
        holds = carry-cases (λ s. Fits bs) L refl x.holds;
      }

  -- the parity keeps its value, wherever it then stands
  pub parity-carry : (I : Grid) (s p p' : ℕ) → s < T → p' < N → own' s p' ≡ Parity → ((d : ℕ) → d < N → own s d ≡ Parity → p ≡ d) → carry I S from to s p' ≡ I s p
  parity-carry I s p p' ls lp' o' one =
      carry-cases (λ (q : ℕ) (x : Role) (y : ℕ). q ≡ s → x ≡ Parity → y ≡ I s p) I (λ z q. let w : 0 ≡ I s p = cc in w)
      (λ q d lq ld z u. rw z (ap (I s) (sym (one d ld (rw z at u))))) s p' ls lp' refl o'
