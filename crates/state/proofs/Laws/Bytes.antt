-- The record and its bytes: each way there and back. Assumes nothing.
use Prim.Native.Nat.{ℕ, zero, suc, ◌+◌, ◌/◌, ◌%◌, ◌<◌, ◌≤◌}
use mathlib.Core.Path.{◌≡◌, refl, sym, ap, ◌∙◌}
use mathlib.Core.Bool.{true, ◌&&◌, ◌||◌}
use mathlib.Core.List.{List, [], ◌∷◌}
use native.Mathlib.Omega.{arith}
use lib.ListN.{length, get_or, drop}
use lib.Seq.{drop-cons, drop-length}
use lib.Dec.{eqb}
use borrow.Author.Tests.{leb-true, eqb-true}
use Rattle.std.specs.Int.{w16, w32, to_le_bytes}
use Rattle.blocks.specs.Block.{AreBytes}
use Rattle.blocks.proofs.Laws.Number.{two_back, four-back, two_bytes, four_bytes}
use Rattle.state.specs.declared.types.Health.TheVariants.{Whole, Out, Lost, Rebuilding}
use Rattle.state.specs.declared.types.Health.{Health}
use Rattle.state.specs.declared.types.Record.{Record}
use Rattle.state.specs.Good.{HealthWithin}
use Rattle.state.specs.Bytes.{record_length, done_from, health_of, decode, health_plain, plain, health_byte, disk_byte, stripes_done, encode}
use Rattle.conditions.proofs.Tests.{both}

-- ---- from the record to its bytes and back

health-back : (h : Health) → health_of (health_byte h) (disk_byte h) (stripes_done h) ≡ h
health-back Whole = refl
health-back (Out d) = refl
health-back Lost = refl
health-back (Rebuilding d c) = refl

pub decode-encode : (r : Record) → decode (encode r) ≡ r
unfolding decode encode
decode-encode r = simp (two_back r.block, four-back r.stripes, four-back r.moves, four-back (stripes_done r.health), health-back r.health)

-- ---- what the bytes of a record are

pub length-encode : (r : Record) → length (encode r) ≡ record_length
unfolding encode
length-encode r = refl

plain-health : (h : Health) → health_plain (health_byte h) (disk_byte h) (stripes_done h) ≡ true
plain-health Whole = refl
plain-health (Out d) = refl
plain-health Lost = refl
plain-health (Rebuilding d c) = refl

pub plain-encode : (r : Record) → plain (encode r) ≡ true
unfolding plain encode
plain-encode r = simp (four-back (stripes_done r.health), plain-health r.health)

-- each field fits its bytes
pub record Fits (r : Record) : Type 0 where
  pub old-fits : r.old < 256
  pub new-fits : r.new < 256
  pub health-fits : HealthWithin 256 4294967296 r.health
  pub block-fits : r.block < 65536
  pub stripes-fits : r.stripes < 4294967296
  pub moves-fits : r.moves < 4294967296

-- every element is a byte
data Small : List ℕ → Type 0 where
  none : Small []
  more : {x : ℕ} {b : List ℕ} → x < 256 → Small b → Small (x ∷ b)

small : {b : List ℕ} → Small b → AreBytes b
small none i = omega arith
small (more h t) zero = h
small (more h t) (suc i) = small t i

health-fits : (h : Health) → HealthWithin 256 4294967296 h → (health_byte h < 256) × (disk_byte h < 256) × (stripes_done h < 4294967296)
health-fits Whole o = (omega arith, omega arith, omega arith)
health-fits (Out d) o = (omega arith, o, omega arith)
health-fits Lost o = (omega arith, omega arith, omega arith)
health-fits (Rebuilding d c) o = (omega arith, o.0, o.1)

two_fits : (x : ℕ) {b : List ℕ} → x < 65536 → Small b → Small (x % 256 ∷ x / 256 ∷ b)
two_fits x h t =
    let a : x % 256 < 256 = omega arith in
    let b : x / 256 < 256 = omega arith in
    more a (more b t)

four-fits : (x : ℕ) {b : List ℕ} → x < 4294967296 → Small b → Small (x % 256 ∷ x / 256 % 256 ∷ x / 65536 % 256 ∷ x / 16777216 ∷ b)
four-fits x h t =
    let a : x % 256 < 256 = omega arith in
    let b : x / 256 % 256 < 256 = omega arith in
    let c : x / 65536 % 256 < 256 = omega arith in
    let d : x / 16777216 < 256 = omega arith in
    more a (more b (more c (more d t)))

pub bytes-encode : (r : Record) → Fits r → AreBytes (encode r)
unfolding encode
bytes-encode r f =
    let h = health-fits r.health f.health-fits in
    let zero-fits : 0 < 256 = omega arith in
    let done = four-fits (stripes_done r.health) h.2 none in
    let counts = four-fits r.stripes f.stripes-fits (four-fits r.moves f.moves-fits done) in
    let sizes = two_fits r.block f.block-fits (more zero-fits (more zero-fits counts)) in
    small (more f.old-fits (more f.new-fits (more h.0 (more h.1 sizes))))

-- ---- the bytes of a number that fits them, by the library's rule: it takes each byte modulo 256, the last one too

pub le-two : (x : ℕ) → x < 65536 → to_le_bytes w16 x ≡ x % 256 ∷ x / 256 ∷ []
le-two x h = let e : x / 256 % 256 ≡ x / 256 = omega arith in cc

pub le-four : (x : ℕ) → x < 4294967296 → to_le_bytes w32 x ≡ x % 256 ∷ x / 256 % 256 ∷ x / 65536 % 256 ∷ x / 16777216 ∷ []
le-four x h = let e : x / 16777216 % 256 ≡ x / 16777216 = omega arith in cc

-- ---- from the bytes to the record and back

-- n elements from index i on, each by its index
abbrev pub spell : ℕ → ℕ → List ℕ → List ℕ
spell i zero b = []
spell i (suc n) b = get_or b i 0 ∷ spell (suc i) n b

spell-drop : (n i : ℕ) (b : List ℕ) → length b ≡ i + n → spell i n b ≡ drop i b
spell-drop zero i b e = let q : i ≡ length b = omega arith in sym (ap (λ k. drop k b) q ∙ drop-length b)
spell-drop (suc n) i b e = ap (λ t. get_or b i 0 ∷ t) (spell-drop n (suc i) b (omega arith)) ∙ sym (drop-cons b i 0 (omega arith))

pub spelled : (b : List ℕ) → length b ≡ record_length → spell 0 record_length b ≡ b
spelled b e = spell-drop record_length 0 b e

-- a health byte is one of four
data Told (h : ℕ) : Type 0 where
  is_whole : h ≡ 0 → Told h
  is-out : h ≡ 1 → Told h
  is_lost : h ≡ 2 → Told h
  is-rebuilding : h ≡ 3 → Told h

told : (h : ℕ) → h ≤ 3 → Told h
told zero l = is_whole refl
told (suc zero) l = is-out refl
told (suc (suc zero)) l = is_lost refl
told (suc (suc (suc zero))) l = is-rebuilding refl
told (suc (suc (suc (suc h)))) l = absurd (omega (arith, l))

abbrev SpellsBack : ℕ → ℕ → ℕ → Type 0
SpellsBack h d c = let x = health_of h d c in (health_byte x ≡ h) × (disk_byte x ≡ d) × (stripes_done x ≡ c)

health_bytes : (h d c : ℕ) → health_plain h d c ≡ true → SpellsBack h d c
health_bytes h d c e =
    let p = both _ _ e in
    let q = both _ _ p.1 in
    go (told h (leb-true h 3 p.0)) q.0 q.1
  where
    go : Told h → (eqb h 3 || eqb c 0) ≡ true → (eqb h 3 || (eqb h 1 || eqb d 0)) ≡ true → SpellsBack h d c
    go (is_whole z) u v = let u' = rw z at u in let v' = rw z at v in rw z (refl, sym (eqb-true d 0 v'), sym (eqb-true c 0 u'))
    go (is-out z) u v = let u' = rw z at u in rw z (refl, refl, sym (eqb-true c 0 u'))
    go (is_lost z) u v = let u' = rw z at u in let v' = rw z at v in rw z (refl, sym (eqb-true d 0 v'), sym (eqb-true c 0 u'))
    go (is-rebuilding z) u v = rw z (refl, refl, refl)

spelt : (b : List ℕ) → AreBytes b → plain b ≡ true → encode (decode b) ≡ spell 0 record_length b
unfolding encode decode plain
spelt b by e =
    let p = both (health_plain (get_or b 2 0) (get_or b 3 0) (done_from b)) (eqb (get_or b 6 0) 0 && eqb (get_or b 7 0) 0) e in
    let q = both (eqb (get_or b 6 0) 0) (eqb (get_or b 7 0) 0) p.1 in
    let h = health_bytes (get_or b 2 0) (get_or b 3 0) (done_from b) p.0 in
    cc (
      h.0,
      h.1,
      h.2,
      eqb-true (get_or b 6 0) 0 q.0,
      eqb-true (get_or b 7 0) 0 q.1,
      two_bytes (get_or b 4 0) (get_or b 5 0) (by 4),
      four_bytes (get_or b 8 0) (get_or b 9 0) (get_or b 10 0) (get_or b 11 0) (by 8) (by 9) (by 10),
      four_bytes (get_or b 12 0) (get_or b 13 0) (get_or b 14 0) (get_or b 15 0) (by 12) (by 13) (by 14),
      four_bytes (get_or b 16 0) (get_or b 17 0) (get_or b 18 0) (get_or b 19 0) (by 16) (by 17) (by 18),
    )

pub encode-decode : (b : List ℕ) → AreBytes b → length b ≡ record_length → plain b ≡ true → encode (decode b) ≡ b
encode-decode b by l e = spelt b by e ∙ spelled b l
