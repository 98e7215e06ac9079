-- Two disks out: the flat list stands still, and every read is refused 2, until a format is accepted. Assumes nothing.
use Prim.Native.Nat.{ℕ, zero, suc}
use mathlib.Core.Path.{◌≡◌, refl, sym, ap, ◌∙◌, subst}
use mathlib.Core.Bool.{true, false}
use mathlib.Core.Logic.{◌≢◌}
use mathlib.Core.List.{List, [], ◌∷◌}
use native.Mathlib.Omega.{arith}
use lib.ListN.{length}
use borrow.Author.Tests.{ne_eqb}
use Rattle.state.specs.declared.types.Health.TheVariants.{Out, Lost, Rebuilding}
use Rattle.state.specs.declared.types.Health.{Health}
use Rattle.state.specs.declared.types.Record.{Record}
use Rattle.state.specs.Good.{good}
use Rattle.state.specs.Update.{with_health}
use Rattle.state.proofs.Laws.Good.{limits, within-limits, turned}
use Rattle.calls.specs.Call.{Call, format, read, view, write, grow, advance, out, Fed, feed, Answer, refused, accepted}
use Rattle.calls.specs.Table.{terms, refusal}
use Rattle.calls.proofs.Laws.Table.{StopsLost, given-2}
use Rattle.history.specs.Flat.{Flat, fallen, flat_act, flat_settle, flat_step}
use Rattle.history.specs.Theorem.{NoReads}
use Rattle.history.proofs.Laws.Look.{Look, opens, puts, grows, moves, turns, tells, look}

-- a good record stays good when it is lost
good-lost : (r : Record) → good r ≡ true → good (with_health r Lost) ≡ true
good-lost r g = within-limits (with_health r Lost) (turned r Lost (limits r g) tt)

module _ (f : Flat) where
  abbrev R : Fed → ℕ
  R e = refusal f.numbers (length f.blocks) e

  abbrev Y : Fed → ℕ → Answer × Flat
  Y e n = flat_settle n f (flat_act e.call f.numbers f.blocks)

  -- a call that is given a number answers it and leaves the list
  given : (e : Fed) (k : ℕ) → R e ≡ suc k → ((flat_step e f).0 ≡ refused (suc k)) × ((flat_step e f).1 ≡ f)
  unfolding flat_step
  given e k q = (ap (λ (n : ℕ). (Y e n).0) q, ap (λ (n : ℕ). (Y e n).1) q)

  -- a call whose effect leaves the list leaves it, refused or not
  quiet : (e : Fed) → (flat_act e.call f.numbers f.blocks).1 ≡ f → (flat_step e f).1 ≡ f
  unfolding flat_step
  quiet e q = go (R e)
    where
      go : (n : ℕ) → (Y e n).1 ≡ f
      go zero = q
      go (suc n) = refl

  module _ (len room : ℕ) (g : good f.numbers ≡ true) (h : f.numbers.health ≡ Lost) where
    abbrev call : Call → Fed
    call c = feed c len room

    -- the number of a call whose rows go on with 2
    is-2 : (c : Call) → StopsLost f.numbers c → R (call c) ≡ 2
    is-2 c s = given-2 f.numbers (length f.blocks) len room c s g h

    no_read : (b : ℕ) → R (call (read b)) ≡ 2
    unfolding terms
    no_read b = is-2 (read b) (_, refl)

    no-view : (b : ℕ) → R (call (view b)) ≡ 2
    unfolding terms
    no-view b = is-2 (view b) (_, refl)

    -- a format that is refused leaves the list
    no-format : (n B T : ℕ) → accepted (flat_step (call (format n B T)) f).0 ≡ false → (flat_step (call (format n B T)) f).1 ≡ f
    unfolding flat_step flat_act
    no-format n B T = go (R (call (format n B T)))
      where
        go : (k : ℕ) → accepted (Y (call (format n B T)) k).0 ≡ false → (Y (call (format n B T)) k).1 ≡ f
        go zero u = absurd (let w : ◌≡◌ {A = ℕ} 0 1 = cc in omega arith)
        go (suc k) u = refl

    frozen : {c : Call} → Look f.numbers f.blocks c → ((n B T : ℕ) → c ≡ format n B T → accepted (flat_step (call c) f).0 ≡ false) → (flat_step (call c) f).1 ≡ f
    frozen (opens n B T) u = no-format n B T (u n B T refl)
    frozen (puts b v s) u = (given (call (write b v)) 1 (is-2 (write b v) s)).1
    frozen (grows m s) u = (given (call (grow m)) 1 (is-2 (grow m) s)).1
    frozen (moves k s) u = (given (call (advance k)) 1 (is-2 (advance k) s)).1
    frozen (turns c x e n s) u = (given (call c) 1 (is-2 c s)).1
    frozen (tells c e n) u = quiet (call c) e

no_reads : (es : List Fed) (f : Flat) → good f.numbers ≡ true → f.numbers.health ≡ Lost → NoReads es f
unfolding NoReads
no_reads [] f g h = tt
no_reads (e ∷ es) f g h = (
  λ b q. (given f e 1 (subst (λ (c : Call). R f (feed c e.images e.room) ≡ 2) (sym q) (no_read f e.images e.room g h b))).0,
  λ b q. (given f e 1 (subst (λ (c : Call). R f (feed c e.images e.room) ≡ 2) (sym q) (no-view f e.images e.room g h b))).0,
  λ u. rw (frozen f e.images e.room g h (look f.numbers f.blocks e.call) u) (no_reads es f g h),
)

-- an accepted out of a second disk
pub lost-then : (f : Flat) (second len room : ℕ) → fallen f.numbers.health second ≡ Lost
    → accepted (flat_step (feed (out second) len room) f).0 ≡ true
    → (flat_step (feed (out second) len room) f).1.numbers ≡ with_health f.numbers Lost
unfolding flat_step flat_act
lost-then f second len room q = go (R f e)
  where
    e : Fed
    e = feed (out second) len room

    go : (n : ℕ) → accepted (Y f e n).0 ≡ true → (Y f e n).1.numbers ≡ with_health f.numbers Lost
    go zero u = ap {B = Record} (λ (x : Health). with_health f.numbers x) q
    go (suc n) u = absurd (let w : ◌≡◌ {A = ℕ} 0 1 = cc in omega arith)

-- a second one: of a rebuild, another than the one that is being rebuilt
pub second-lost : (h : Health) (first second : ℕ) → h ≡ Out first → fallen h second ≡ Lost
second-lost h first second q = ap (λ (x : Health). fallen x second) q

pub other-lost : (h : Health) (first done second : ℕ) → h ≡ Rebuilding first done → second ≢ first → fallen h second ≡ Lost
other-lost h first done second q ne = ap (λ (x : Health). fallen x second) q ∙ rw (ne_eqb first second (λ p. ne (sym p))) refl

pub lost-reads : (es : List Fed) (f : Flat) (r : Record) → good r ≡ true → f.numbers ≡ with_health r Lost → NoReads es f
lost-reads es f r g q = no_reads es f (ap good q ∙ good-lost r g) (ap (λ (x : Record). x.health) q)
