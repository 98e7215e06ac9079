-- The flat list keeps what a block was last given. Assumes nothing.
use Prim.Native.Nat.{ℕ, zero, suc, ◌+◌, ◌-◌, ◌*◌, ◌≤◌, ◌<◌}
use mathlib.Core.Path.{◌≡◌, refl, sym, ap, ◌∙◌, subst}
use mathlib.Core.Bool.{true, false, true≢false}
use mathlib.Core.Logic.{◌⊎◌, inl, inr, ◌≢◌}
use mathlib.Core.List.{List, [], ◌∷◌, ◌++◌}
use native.Mathlib.Decide.{dec_lt}
use native.Mathlib.Omega.{arith}
use lib.ListN.{length, get_or, set, length-append, length-replicate, length-set, get_or-replicate, get_or-append}
use lib.Seq.{get_or-append-add, get_or-set_same, get_or-set_other}
use Rattle.blocks.specs.Block.{zeros}
use Rattle.state.specs.declared.types.Record.{Record}
use Rattle.calls.specs.Call.{Call, format, read, view, write, Fed, feed, Answer, bytes, accepted}
use Rattle.calls.specs.Table.{refusal}
use Rattle.calls.proofs.Laws.Passed as passed
use Rattle.history.specs.Flat.{Flat, zero_blocks, reached, lengthened, flat_act, flat_settle, flat_step}
use Rattle.history.specs.Theorem.{NotGiven, behind, Gives}
use Rattle.history.proofs.Laws.Look.{Look, opens, puts, grows, moves, turns, tells, look}

-- block b is v; and as long as it is past the end, v is zeroes, which it will be once it is not
pub record Is (b : ℕ) (v : List ℕ) (r : Record) (bs : List (List ℕ)) : Type 0 where
  pub inside : b < length bs → get_or bs b [] ≡ v
  pub outside : length bs ≤ b → v ≡ zeros r.block

module _ (b : ℕ) (v : List ℕ) where
  -- other numbers, with the same block length
  same-list : (r r' : Record) (bs : List (List ℕ)) → r'.block ≡ r.block → Is b v r bs → Is b v r' bs
  same-list r r' bs q i = record { inside = i.inside; outside = λ l. i.outside l ∙ ap zeros (sym q) }

  -- new blocks after the list
  longer : (r : Record) (bs : List (List ℕ)) → Is b v r bs → Is b v r (lengthened r bs)
  longer r bs i = record { inside = λ l. new l (dec_lt b (length bs)); outside = λ l. i.outside (omega (arith, length-append bs more)) }
    where
      more : List (List ℕ)
      more = zero_blocks (reached r - length bs) r.block

      new : b < length (bs ++ more) → Dec (b < length bs) → get_or (bs ++ more) b [] ≡ v
      new l (yes h) = get_or-append bs more [] b h ∙ i.inside h
      new l (no h) =
          let q : b ≡ length bs + (b - length bs) = omega arith in
          let l' : b < length bs + (reached r - length bs) = rw (length-append bs more, length-replicate (reached r - length bs) (zeros r.block)) at l in
          ap (λ (x : ℕ). get_or (bs ++ more) x []) q ∙ get_or-append-add bs more (b - length bs) []
          ∙ get_or-replicate (reached r - length bs) (b - length bs) (zeros r.block) [] (omega arith) ∙ sym (i.outside (omega arith))

  -- another block written
  other : (r : Record) (bs : List (List ℕ)) (c : ℕ) (w : List ℕ) → c ≢ b → Is b v r bs → Is b v r (set bs c w)
  other r bs c w ne i =
      record {
        inside = λ l. get_or-set_other bs c b w [] (λ q. ne (sym q)) ∙ i.inside (rw (length-set bs c w) at l);
        outside = λ l. i.outside (rw (length-set bs c w) at l);
      }

  -- what a call leaves that gives b nothing
  kept : {c : Call} (r : Record) (bs : List (List ℕ)) → Look r bs c → ((n B T : ℕ) → c ≢ format n B T) → ((w : List ℕ) → c ≢ write b w) → Is b v r bs
      → Is b v (flat_act c r bs).1.numbers (flat_act c r bs).1.blocks
  unfolding flat_act
  kept r bs (opens n B T) nf nw i = absurd (nf n B T refl)
  kept r bs (puts c w s) nf nw i = other r bs c w (λ q. nw w (ap (λ (x : ℕ). write x w) q)) i
  kept r bs (grows m s) nf nw i = longer _ bs (same-list r _ bs refl i)
  kept r bs (moves k s) nf nw i = longer _ bs (same-list r _ bs refl i)
  kept r bs (turns c h e u s) nf nw i = subst (λ (f : Flat). Is b v f.numbers f.blocks) (sym e) (same-list r _ bs refl i)
  kept r bs (tells c e u) nf nw i = subst (λ (f : Flat). Is b v f.numbers f.blocks) (sym e) i

  -- a call that is refused, or gives b nothing
  step : (e : Fed) (f : Flat) → ((n B T : ℕ) → e.call ≡ format n B T → accepted (flat_step e f).0 ≡ false) → ((w : List ℕ) → e.call ≡ write b w → accepted (flat_step e f).0 ≡ false)
      → Is b v f.numbers f.blocks → Is b v (flat_step e f).1.numbers (flat_step e f).1.blocks
  unfolding flat_step flat_act
  step e f nf nw i = go (refusal f.numbers (length f.blocks) e) nf nw
    where
      Y : ℕ → Answer × Flat
      Y n = flat_settle n f (flat_act e.call f.numbers f.blocks)

      go : (n : ℕ) → ((m B T : ℕ) → e.call ≡ format m B T → accepted (Y n).0 ≡ false) → ((w : List ℕ) → e.call ≡ write b w → accepted (Y n).0 ≡ false)
          → Is b v (Y n).1.numbers (Y n).1.blocks
      go zero p q =
          kept f.numbers f.blocks (look f.numbers f.blocks e.call)
          (λ m B T z. true≢false (subst (λ (c : Call). accepted (flat_act c f.numbers f.blocks).0 ≡ false) z (p m B T z)))
          (λ w z. true≢false (subst (λ (c : Call). accepted (flat_act c f.numbers f.blocks).0 ≡ false) z (q w z))) i
      go (suc n) p q = i

  -- a list of them
  steps : (es : List Fed) (f : Flat) → NotGiven b es f → Is b v f.numbers f.blocks → Is b v (behind es f).numbers (behind es f).blocks
  unfolding NotGiven behind
  steps [] f n i = i
  steps (e ∷ es) f n i = steps es (flat_step e f).1 n.2 (step e f n.0 n.1 i)

  -- read and view give it
  read-gives : (f : Flat) → Is b v f.numbers f.blocks → (c : Call) (len room : ℕ) → (c ≡ read b) ⊎ (c ≡ view b)
      → accepted (flat_step (feed c len room) f).0 ≡ true → (flat_step (feed c len room) f).0 ≡ bytes v
  unfolding flat_step flat_act
  read-gives f i c len room q = go (refusal f.numbers (length f.blocks) e) refl q
    where
      e : Fed
      e = feed c len room

      Y : ℕ → Answer × Flat
      Y n = flat_settle n f (flat_act c f.numbers f.blocks)

      R : Call → ℕ
      R x = refusal f.numbers (length f.blocks) (feed x len room)

      go : (n : ℕ) → refusal f.numbers (length f.blocks) e ≡ n → (c ≡ read b) ⊎ (c ≡ view b) → accepted (Y n).0 ≡ true → (Y n).0 ≡ bytes v
      go zero z (inl p) u =
          ap (λ (x : Call). (flat_act x f.numbers f.blocks).0) p
          ∙ ap bytes (i.inside (passed.reads f.numbers (length f.blocks) len room b (passed.passed f.numbers (length f.blocks) (feed (read b) len room) (subst (λ (x : Call). R x ≡ 0) p z))).block-lt)
      go zero z (inr p) u =
          ap (λ (x : Call). (flat_act x f.numbers f.blocks).0) p
          ∙ ap bytes (i.inside (passed.views f.numbers (length f.blocks) len room b (passed.passed f.numbers (length f.blocks) (feed (view b) len room) (subst (λ (x : Call). R x ≡ 0) p z))).block-lt)
      go (suc n) z x u = absurd (let w : ◌≡◌ {A = ℕ} 0 1 = cc in omega arith)

  pub gives : (f : Flat) (es : List Fed) → NotGiven b es f → Is b v f.numbers f.blocks → Gives b v (behind es f)
  unfolding Gives
  gives f es n i e q u = read-gives (behind es f) (steps es f n i) e.call e.images e.room q u

-- ---- what an accepted write and an accepted format leave

pub is-written : (f : Flat) (b : ℕ) (v : List ℕ) (len room : ℕ) → accepted (flat_step (feed (write b v) len room) f).0 ≡ true
    → Is b v (flat_step (feed (write b v) len room) f).1.numbers (flat_step (feed (write b v) len room) f).1.blocks
unfolding flat_step flat_act
is-written f b v len room = go (refusal f.numbers (length f.blocks) e) refl
  where
    e : Fed
    e = feed (write b v) len room

    Y : ℕ → Answer × Flat
    Y n = flat_settle n f (flat_act (write b v) f.numbers f.blocks)

    go : (n : ℕ) → refusal f.numbers (length f.blocks) e ≡ n → accepted (Y n).0 ≡ true → Is b v (Y n).1.numbers (Y n).1.blocks
    go zero z u =
        let l : b < length f.blocks = (passed.writes f.numbers (length f.blocks) len room b v (passed.passed f.numbers (length f.blocks) e z)).block-lt in
        record { inside = λ h. get_or-set_same f.blocks b v [] l; outside = λ h. absurd (omega (arith, length-set f.blocks b v)) }
    go (suc n) z u = absurd (let w : ◌≡◌ {A = ℕ} 0 1 = cc in omega arith)

pub is_zero : (f : Flat) (n B T len room b : ℕ) → accepted (flat_step (feed (format n B T) len room) f).0 ≡ true
    → Is b (zeros B) (flat_step (feed (format n B T) len room) f).1.numbers (flat_step (feed (format n B T) len room) f).1.blocks
unfolding flat_step flat_act
is_zero f n B T len room b = go (refusal f.numbers (length f.blocks) (feed (format n B T) len room))
  where
    Y : ℕ → Answer × Flat
    Y k = flat_settle k f (flat_act (format n B T) f.numbers f.blocks)

    go : (k : ℕ) → accepted (Y k).0 ≡ true → Is b (zeros B) (Y k).1.numbers (Y k).1.blocks
    go zero u =
        record {
          inside = λ h. get_or-replicate (T * (n - 1)) b (zeros B) [] (rw (length-replicate (T * (n - 1)) (zeros B)) at h);
          outside = λ h. refl;
        }
    go (suc k) u = absurd (let w : ◌≡◌ {A = ℕ} 0 1 = cc in omega arith)
