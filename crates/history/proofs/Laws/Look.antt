-- What a call does to the flat list: the one function by cases on the call, `look`, that what is said of the flat list goes by. Assumes
-- nothing.
use Prim.Native.Nat.{ℕ}
use mathlib.Core.Path.{◌≡◌, refl}
use mathlib.Core.List.{List}
use Rattle.state.specs.declared.types.Health.{Health}
use Rattle.state.specs.declared.types.Record.{Record}
use Rattle.calls.specs.Call.{Call, format, read, view, write, grow, advance, out, begin, continue, status, locate, owner, sweep}
use Rattle.state.specs.Update.{with_health}
use Rattle.calls.specs.Table.{terms}
use Rattle.calls.proofs.Laws.Table.{StopsLost}
use Rattle.history.specs.Flat.{flat, flat_act}
use Rattle.history.specs.Theorem.{tallied}

-- the sum of the moves stays
abbrev pub Uncounted : Call → Type 0
Uncounted c = (k sum : ℕ) → tallied c k sum ≡ sum

pub data Look (r : Record) (bs : List (List ℕ)) : Call → Type 0 where
  opens : (n B T : ℕ) → Look r bs (format n B T)
  puts : (b : ℕ) (v : List ℕ) → StopsLost r (write b v) → Look r bs (write b v)
  grows : (m : ℕ) → StopsLost r (grow m) → Look r bs (grow m)
  moves : (k : ℕ) → StopsLost r (advance k) → Look r bs (advance k)
  -- health alone changes
  turns : (c : Call) (h : Health) → (flat_act c r bs).1 ≡ flat (with_health r h) bs → Uncounted c → StopsLost r c → Look r bs c
  -- nothing changes
  tells : (c : Call) → (flat_act c r bs).1 ≡ flat r bs → Uncounted c → Look r bs c

pub look : (r : Record) (bs : List (List ℕ)) (c : Call) → Look r bs c
unfolding flat_act tallied terms
look r bs (format n B T) = opens n B T
look r bs (read b) = tells (read b) refl (λ k sum. refl)
look r bs (view b) = tells (view b) refl (λ k sum. refl)
look r bs (write b v) = puts b v (_, refl)
look r bs (grow m) = grows m (_, refl)
look r bs (advance k) = moves k (_, refl)
look r bs (out d) = turns (out d) _ refl (λ k sum. refl) (_, refl)
look r bs (begin d) = turns (begin d) _ refl (λ k sum. refl) (_, refl)
look r bs (continue k) = turns (continue k) _ refl (λ k sum. refl) (_, refl)
look r bs status = tells status refl (λ k sum. refl)
look r bs (locate b) = tells (locate b) refl (λ k sum. refl)
look r bs (owner S d) = tells (owner S d) refl (λ k sum. refl)
look r bs sweep = tells sweep refl (λ k sum. refl)
