-- The theorem of `specs/Exact.antt`. Assumes nothing.
use Prim.Native.Nat.{ℕ, ◌+◌, ◌≤◌, ◌<◌}
use mathlib.Core.Path.{◌≡◌, refl, sym, ap, ◌∙◌}
use mathlib.Core.Bool.{and-false}
use mathlib.Core.List.{List, [], ◌∷◌, ◌++◌, append_assoc}
use mathlib.Core.Logic.{inl, inr, ◌↔◌, ◌≢◌}
use native.Mathlib.Omega.{arith}
use lib.ListN.{length, get_or, take, drop}
use lib.Seq.{drop-append_seam, get_or-take}
use Rattle.layout.specs.Moves.{move_zone, move_within, move_from, move_to, move_lag}
use Rattle.zone_moves.specs.declared.parse.Field.TheVariants.{Bad}
use Rattle.zone_moves.specs.declared.parse.Field.{Field}
use Rattle.zone_moves.specs.declared.parse.Request.TheVariants.{Zone, Refused}
use Rattle.zone_moves.specs.declared.parse.Request.{Request}
use Rattle.zone_moves.specs.Decimal.{spell, decimal}
use Rattle.zone_moves.specs.Request.{Limited, is_digit, in_limits, field_of, field_at, ask_zone, ask_new, ask_old, request_of}
use Rattle.zone_moves.specs.Listing.{column, move_line, lines_of, indices, zone_moves, refusal, answered, answer, written}
use Rattle.zone_moves.specs.Exact.{line, ZoneMoves, text, Examples, Exact}
use Rattle.zone_moves.proofs.Laws.Fields.{limited, limits-pass, zone-asked, Seen, one, two, none, look, Ends, ends, nowhere, field-ends, Line, asks, other, look-line}
use Rattle.zone_moves.proofs.Laws.Reading.{field-text, field-reads, drop_more}
use Rattle.zone_moves.proofs.Laws.Indices.{zone-moves}
use Rattle.zone_moves.proofs.Laws.Decimals.{spelled}
use Rattle.layout.proofs.Laws.Basics.{le-or-lt}

-- ---- what is meant is read

line_reads : (n m z : ℕ) (rest : List ℕ) → Limited n m z → request_of (line n m z ++ rest) ≡ Zone n m z
unfolding line
line_reads n m z rest l =
    let s : List ℕ = column n 32 ++ column m 32 ++ column z 10 ++ rest in
    let e : drop 0 s ≡ column n 32 ++ (column m 32 ++ (column z 10 ++ rest)) = simp append_assoc in
    let f = drop_more s 0 (column n 32) (column m 32 ++ (column z 10 ++ rest)) e in
    let g = drop_more s (0 + length (column n 32)) (column m 32) (column z 10 ++ rest) f in
    zone-asked s
    (field-reads s 0 n 32 _ (omega arith) (omega arith) e)
    (field-reads s (0 + length (column n 32)) m 32 _ (omega arith) (omega arith) f)
    (field-reads s (0 + length (column n 32) + length (column m 32)) z 10 rest (omega arith) (omega arith) g)
    (limits-pass l)

-- and answered by the lines of its zone's moves
line-zone : (n m z : ℕ) (rest : List ℕ) → Limited n m z → (ks : List ℕ) × ZoneMoves n m z ks × (answer (line n m z ++ rest) ≡ lines_of n m ks)
unfolding answer answered
line-zone n m z rest l =
    (zone_moves n m z, zone-moves n m z (omega (arith, l.disks.n_low)) l.new, ap answered (line_reads n m z rest l))

-- ---- what is read is meant

-- a text and a rest are the text and what stands after it
behind : (s t rest : List ℕ) → s ≡ t ++ rest → s ≡ t ++ drop (length t) s
behind s t rest e = e ∙ ap (λ (l : List ℕ). t ++ l) (sym (ap (drop (length t)) e ∙ drop-append_seam t rest))

line-only : {s : List ℕ} {n m z : ℕ} {r : Request} → Line s r → r ≡ Zone n m z → Limited n m z × (s ≡ line n m z ++ drop (length (line n m z)) s)
unfolding line
line-only {s} {n} {m} {z} (asks n' a m' b z' c e h k l) q =
    let x : n ≡ n' = cc in
    let y : m ≡ m' = cc in
    let w : z ≡ z' = cc in
    let t : List ℕ = column n' 32 ++ column m' 32 ++ column z' 10 in
    let f : s ≡ t ++ drop c s =
    field-text s 0 32 (omega arith) e
    ∙ ap (λ (i : List ℕ). column n' 32 ++ i) (field-text s a 32 (omega arith) h ∙ ap (λ (i : List ℕ). column m' 32 ++ i) (field-text s b 10 (omega arith) k))
    ∙ simp append_assoc in
    rw (x, y, w) (limited n' m' z' l, behind s t (drop c s) f)
line-only other q = let i : ◌≡◌ {A = ℕ} 0 1 = cc in absurd (omega arith)

-- and all else is refused
line_refused : (s : List ℕ) → ((n m z : ℕ) (rest : List ℕ) → Limited n m z → s ≢ line n m z ++ rest) → answer s ≡ refusal
unfolding answer answered
line_refused s h = go (request_of s) refl
  where
    go : (r : Request) → request_of s ≡ r → answered r ≡ refusal
    go Refused e = refl
    go (Zone n m z) e = let p = line-only (look-line s) e in absurd (h n m z (drop (length (line n m z)) s) p.0 p.1)

-- ---- what is not read does not matter

-- t has the same fields as s up to k, and the first two end at j and at k or before them
module _ (t s : List ℕ) (j k : ℕ) (low : j ≤ k) (same : (at stop : ℕ) → at ≤ k → field_at t at stop ≡ field_at s at stop) (second : (at : ℕ) → at ≤ j → Ends k (field_at s at 32)) where
  new-same : (n : ℕ) {f : Field} → Ends k f → ask_new t n f ≡ ask_new s n f
  unfolding ask_new
  new-same n (ends {v = m} next h) = ap (ask_zone n m) (same next 10 h)
  new-same n nowhere = refl

  old-same : {f : Field} → Ends j f → ask_old t f ≡ ask_old s f
  unfolding ask_old
  old-same (ends {v = n} next h) = ap (ask_new t n) (same next 32 (omega arith)) ∙ new-same n (second next h)
  old-same nowhere = refl

  request-same : Ends j (field_at s 0 32) → request_of t ≡ request_of s
  unfolding request_of
  request-same e = ap (ask_old t) (same 0 32 (omega arith)) ∙ old-same e

answer-of : (t s : List ℕ) → request_of t ≡ request_of s → answer t ≡ answer s
unfolding answer
answer-of t s e = ap answered e

-- a field that ends within the first k bytes is in them
take-field : (s : List ℕ) (k at stop : ℕ) → at + 2 < k → field_at (take k s) at stop ≡ field_at s at stop
unfolding field_at
take-field s k at stop h = rw (get_or-take k s at 0 (omega arith), get_or-take k s (at + 1) 0 (omega arith), get_or-take k s (at + 2) 0 (omega arith))

-- nine bytes are enough
nine : (s : List ℕ) → request_of (take 9 s) ≡ request_of s
nine s =
    request-same (take 9 s) s 3 6 (omega arith) (λ at stop h. take-field s 9 at stop (omega arith)) (λ at h. field-ends s at 32 6 (omega arith))
    (field-ends s 0 32 3 (omega arith))

-- no field goes past a line feed: it is no digit, and ends a field only as the byte that it is to end with
at-feed : (b c at stop : ℕ) → field_of 10 b c at stop ≡ Bad
unfolding field_of is_digit
at-feed b c at stop = refl

before-feed : (a c c' at stop : ℕ) → field_of a 10 c at stop ≡ field_of a 10 c' at stop
unfolding field_of is_digit
before-feed a c c' at stop = simp and-false

module _ (s : List ℕ) (k : ℕ) (feed : get_or s k 0 ≡ 10) where
  there : (i : ℕ) → i ≡ k → get_or s i 0 ≡ 10
  there i e = ap (λ (x : ℕ). get_or s x 0) e ∙ feed

  kept : (i : ℕ) → i ≤ k → get_or (take (k + 1) s) i 0 ≡ get_or s i 0
  kept i h = get_or-take (k + 1) s i 0 (omega arith)

  feed-field : (at stop : ℕ) → at ≤ k → field_at (take (k + 1) s) at stop ≡ field_at s at stop
  unfolding field_at
  feed-field at stop h =
      elim (le-or-lt (at + 2) k) [
        | inl g ↦ take-field s (k + 1) at stop (omega arith)
        | inr g ↦
            elim (le-or-lt (at + 1) k) [
              | inl f ↦
                  rw (kept at h, kept (at + 1) f, there (at + 1) (omega arith))
                  (before-feed (get_or s at 0) (get_or (take (k + 1) s) (at + 2) 0) (get_or s (at + 2) 0) at stop)
              | inr f ↦ rw (kept at h, there at (omega arith)) (at-feed _ _ at stop ∙ sym (at-feed _ _ at stop))
            ]
      ]

  short : (i : ℕ) → i ≤ k → (get_or s i 0 ≡ 10 → ⊥) → i < k
  short i h n = elim (le-or-lt k i) [ inl g ↦ absurd (n (there i (omega arith))) | inr g ↦ g ]

  -- a field that ends with a space ends before the line feed
  seen-before : {at : ℕ} {f : Field} → at ≤ k → Seen (get_or s at 0) (get_or s (at + 1) 0) (get_or s (at + 2) 0) at 32 f → Ends k f
  seen-before {at} h (one d e) =
      let x : at < k = short at h (λ i. omega arith) in
      let y : at + 1 < k = short (at + 1) (omega arith) (λ i. omega arith) in
      ends (at + 2) (omega arith)
  seen-before {at} h (two d nz d' e) =
      let x : at < k = short at h (λ i. omega arith) in
      let y : at + 1 < k = short (at + 1) (omega arith) (λ i. omega arith) in
      let z : at + 2 < k = short (at + 2) (omega arith) (λ i. omega arith) in
      ends (at + 3) (omega arith)
  seen-before h none = nowhere

  feed-ends : (at : ℕ) → at ≤ k → Ends k (field_at s at 32)
  unfolding field_at
  feed-ends at h = seen-before h (look (get_or s at 0) (get_or s (at + 1) 0) (get_or s (at + 2) 0) at 32)

  line-enough : request_of (take (k + 1) s) ≡ request_of s
  line-enough = request-same (take (k + 1) s) s k k (omega arith) feed-field feed-ends (feed-ends 0 (omega arith))

-- ---- the limits

limits-are : (n m z : ℕ) → Limited n m z ↔ ((3 ≤ n) × (n ≤ 16) × (1 ≤ m) × (m ≤ 16) × (z < n))
limits-are n m z = (
  λ l. (l.disks.n_low, l.disks.n_high, l.new, l.disks.m_high, l.zone),
  λ (a, b, c, d, e). record { disks = record { n_low = a; n_high = b; m_high = d }; new = c; zone = e },
)

-- ---- the text of a line

cons-append : (x : ℕ) (xs ys : List ℕ) → (x ∷ xs) ++ ys ≡ x ∷ (xs ++ ys)
cons-append x xs ys = refl

asked_is : (n m z : ℕ) → line n m z ≡ decimal n ++ (32 ∷ decimal m) ++ (32 ∷ decimal z) ++ (10 ∷ [])
unfolding line column
asked_is n m z = simp append_assoc

printed-is : (n m k : ℕ) (ks : List ℕ) → lines_of n m (k ∷ ks)
    ≡ decimal k ++ (32 ∷ decimal (move_zone n m k)) ++ (32 ∷ decimal (move_within n m k)) ++ (32 ∷ decimal (move_from n m k))
    ++ (32 ∷ decimal (move_to n m k)) ++ (10 ∷ lines_of n m ks)
unfolding lines_of move_line column
printed-is n m k ks = simp (append_assoc, cons-append)

no-more-is : (n m : ℕ) → lines_of n m [] ≡ []
unfolding lines_of
no-more-is n m = refl

-- ---- the examples

pub computed : Examples
unfolding answer answered request_of ask_old ask_new ask_zone field_at field_of is_digit in_limits zone_moves indices lines_of move_line column decimal spell move_zone move_within move_from move_to move_lag text
computed =
    record {
      numbers = (refl, refl, refl, refl, refl, refl, refl, refl);
      example = refl;
      first_zone = refl;
      last_zone = refl;
      example_of_four = refl;
      zone_of_five = refl;
      largest_first = refl;
      largest_last = refl;
      largest_length = refl;
      words = refl;
      past_limits = (refl, refl, refl, refl, refl);
      other_lines = (refl, refl, refl, refl, refl, refl, refl, refl);
    }

-- ---- the theorem

pub exact : Exact
unfolding column written
exact =
    record {
      reads = line_reads;
      zone = line-zone;
      only = λ s n m z e. line-only (look-line s) e;
      refused = line_refused;
      first_nine = λ s. answer-of (take 9 s) s (nine s);
      first_line = λ s k e. answer-of (take (k + 1) s) s (line-enough s k e);
      limits = limits-are;
      decimals = spelled;
      asked = asked_is;
      printed = printed-is;
      no_more = no-more-is;
      columns = λ x stop. refl;
      stored = λ out text at. refl;
      examples = computed;
    }
