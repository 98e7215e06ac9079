-- The answer to a line, and how long it is. Assumes nothing.
use Prim.Native.Nat.{ℕ, ◌+◌, ◌*◌, ◌≤◌, ◌<◌}
use mathlib.Core.Path.{◌≡◌, sym, ap, ◌∙◌}
use mathlib.Core.List.{List}
use native.Mathlib.Nat.{zero-add}
use native.Mathlib.Omega.{arith}
use lib.ListN.{length, take}
use lib.Seq.{length-take-le}
use Rattle.layout.specs.Limits.{Disks}
use Rattle.zone_moves.specs.declared.parse.Request.TheVariants.{Zone, Refused}
use Rattle.zone_moves.specs.declared.parse.Request.{Request}
use Rattle.zone_moves.specs.Request.{Limited, request_of}
use Rattle.zone_moves.specs.Listing.{lines_of, indices, zone_moves, refusal, answered, answer, written, Stored}
use Rattle.zone_moves.proofs.Laws.Storing.{length-written}
use Rattle.zone_moves.proofs.Laws.Fields.{limited, Line, asks, other, look-line}
use Rattle.zone_moves.proofs.Laws.Lines.{length-lines}
use Rattle.layout.proofs.Laws.Basics.{times}

-- what the limits keep small
pub record Sized (n m z : ℕ) : Type 0 where
  pub disks : Disks n m
  pub new : 0 < m
  pub moves : m * n ≤ 256
  pub turns : z * m ≤ 256
  pub before : z * m * n ≤ 4096
  pub room : z * m * n + m * n ≤ n * m * n

pub sized : {n m z : ℕ} → Limited n m z → Sized n m z
sized {n} {m} {z} l =
    let t : z * m ≤ 16 * 16 = times {a = z} {b = m} 16 16 (omega arith) l.disks.m_high in
    record {
      disks = l.disks;
      new = l.new;
      moves = times {a = m} {b = n} 16 16 l.disks.m_high l.disks.n_high;
      turns = t;
      before = times {a = z * m} {b = n} 256 16 t l.disks.n_high;
      room = omega (arith, times {a = (z + 1) * m} {b = n} (n * m) n (times {a = z + 1} {b = m} n m (omega arith) (omega arith)) (omega arith));
    }

-- a line that asks for a zone asks for one in the limits
line-limited : {s : List ℕ} {n m z : ℕ} {r : Request} → Line s r → r ≡ Zone n m z → Limited n m z
line-limited {n = n} {m} {z} (asks n' a m' b z' c e h k l) q =
    let x : n ≡ n' = cc in
    let y : m ≡ m' = cc in
    let w : z ≡ z' = cc in
    rw (x, y, w) (limited n' m' z' l)
line-limited other q = let i : ◌≡◌ {A = ℕ} 0 1 = cc in absurd (omega arith)

pub zone-sized : (s : List ℕ) {n m z : ℕ} → request_of s ≡ Zone n m z → Sized n m z
zone-sized s e = sized (line-limited (look-line s) e)

pub answer-zone : (s : List ℕ) {n m z : ℕ} → request_of s ≡ Zone n m z → answer s ≡ lines_of n m (indices (z * m * n) (m * n))
unfolding answer answered zone_moves
answer-zone s e = ap answered e

pub answer-refused : (s : List ℕ) → request_of s ≡ Refused → answer s ≡ refusal
unfolding answer answered
answer-refused s e = ap answered e

answered-short : {s : List ℕ} {r : Request} → Line s r → length (answered r) ≤ 4352
unfolding answered zone_moves
answered-short (asks n a m b z c e h k l) =
    let t : Sized n m z = sized (limited n m z l) in
    omega (arith, length-lines n m (z * m * n) (m * n) t.disks t.new t.room)
answered-short other = omega arith

pub length-answer : (s : List ℕ) → length (answer s) ≤ 4352
unfolding answer
length-answer s = answered-short (look-line s)

-- the answer stored at the start of a buffer
pub answer-stored : (s : List ℕ) {out text after : List ℕ} {next : ℕ} → answer s ≡ text → Stored out 0 text after next
    → (next ≡ length (answer s)) × (after ≡ written out 0 (answer s))
answer-stored s {out} e f = (f.place ∙ zero-add _ ∙ ap length (sym e), f.is ∙ ap (written out 0) (sym e))

-- an answer lies within the buffer that it was stored in
pub answer-within : (s out : List ℕ) {after : List ℕ} {next : ℕ} → 4352 ≡ length out → after ≡ written out 0 (answer s) → next ≡ length (answer s)
    → (next ≤ length after) × (next ≡ length (take next after))
answer-within s out {after} {next} e f g =
    let h : length after ≡ length out = ap length f ∙ length-written out 0 (answer s) (omega (arith, length-answer s)) in
    let i : next ≤ length after = omega (arith, length-answer s) in
    (i, sym (length-take-le next after i))
