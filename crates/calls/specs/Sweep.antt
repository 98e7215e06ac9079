-- What the list of unsound stripes is, of which a sweep answers the head, for every record and all images: document 02, (g). (What a sweep
-- answers is `Does.sweep_first` and `sweep_none` of Acts.) And `Sound` byte by byte: all that is said of sweeps goes by that name, so that
-- a weaker one, with code to match, would pass it.
-- The statement is `Sweeps`; `sweeps` of proofs/Sweep.antt proves it.
use Rattle.std.specs.Prelude.{ℕ, zero, suc, ◌+◌, ◌*◌, ◌<◌, ◌≡◌, true, cond, eqb, ◌↔◌, List, length, get_or}
use Rattle.std.specs.Int.Bits.{bit_xor}
use Rattle.layout.specs.declared.Role.TheVariants.{Blank}
use Rattle.layout.specs.Layout.{layout}
use Rattle.state.specs.declared.types.Health.TheVariants.{Whole}
use Rattle.state.specs.declared.types.Record.{Record}
use Rattle.state.specs.Good.{geometry}
use Rattle.calls.specs.Images.{place_in, others_in, seen}
use Rattle.calls.specs.Sound.{Sound, is_sound, unsound_stripes}

-- S is one of the numbers of a list
abbrev pub Listed : ℕ → List ℕ → Type 0
Listed S l = (i : ℕ) × (i < length l) × (get_or l i 0 ≡ S)

-- byte j of place (S, d): "One lent byte slice, disk 0 first, each disk T × B bytes"
abbrev pub byte_at : Record → List ℕ → ℕ → ℕ → ℕ → ℕ
byte_at r img S j d = get_or img ((d * r.stripes + S) * r.block + j) 0

-- the xor of the first k of some bytes
unfoldable pub xor_of : ℕ → (ℕ → ℕ) → ℕ
xor_of zero f = 0
xor_of (suc k) f = bit_xor (xor_of k f) (f k)

pub record Sweeps : Type 0 where
  -- place (S, d) as it stands, byte by byte; and what counts for it if its disk is out: "the xor of the stripe's other places"
  pub place_bytes : (r : Record) (img : List ℕ) (S d j : ℕ) → j < r.block → get_or (place_in r img S d) j 0 ≡ byte_at r img S j d
  pub place_long : (r : Record) (img : List ℕ) (S d : ℕ) → length img ≡ (r.old + r.new) * (r.stripes * r.block)
      → S < r.stripes → d < r.old + r.new → length (place_in r img S d) ≡ r.block
  pub others_bytes : (r : Record) (img : List ℕ) (S d j : ℕ) → j < r.block
      → get_or (others_in r img S d) j 0 ≡ xor_of (r.old + r.new) (λ e. cond (eqb e d) 0 (byte_at r img S j e))
  pub others_long : (r : Record) (img : List ℕ) (S d : ℕ) → length (others_in r img S d) ≡ r.block
  -- the test is the sentence of document 01 ..
  pub tested : (r : Record) (img : List ℕ) (S : ℕ) → (is_sound r img S ≡ true) ↔ Sound r img S
  -- .. which says, byte by byte of what a call sees, "the out disk taken as the xor of the others" ..
  pub in_seen : (r : Record) (img : List ℕ) (S : ℕ) → length img ≡ (r.old + r.new) * (r.stripes * r.block) → S < r.stripes →
      let N = r.old + r.new in
      let byte : ℕ → ℕ → ℕ = λ j d. get_or (seen r img S d) j 0 in
      Sound r img S
      ↔ (((j : ℕ) → j < r.block → xor_of N (byte j) ≡ 0)
      × ((d j : ℕ) → d < N → j < r.block → (layout (geometry r)).owner S d ≡ Blank → byte j d ≡ 0))
  -- .. and, where all disks are in and the images are N × T × B bytes long, byte by byte and in bare numbers: "its N places xor to
  -- zero and its blanks are zero"
  pub in_bytes : (r : Record) (img : List ℕ) (S : ℕ) → r.health ≡ Whole → length img ≡ (r.old + r.new) * (r.stripes * r.block)
      → S < r.stripes →
      let N = r.old + r.new in
      Sound r img S
      ↔ (((j : ℕ) → j < r.block → xor_of N (byte_at r img S j) ≡ 0)
      × ((d j : ℕ) → d < N → j < r.block → (layout (geometry r)).owner S d ≡ Blank → byte_at r img S j d ≡ 0))
  -- It is a matter of its own places: what stands in the stripes after the first unsound one is none for the answer. ("The sweep stops
  -- there": that they are not looked at either no contract can say.)
  pub own_places : (r : Record) (img img' : List ℕ) (S : ℕ) → r.health ≡ Whole
      → ((d : ℕ) → d < r.old + r.new → place_in r img' S d ≡ place_in r img S d) → Sound r img S → Sound r img' S
  -- "the list of all unsound stripes": those of the T stripes that are not sound, and no other number ..
  pub listed : (r : Record) (img : List ℕ) (S : ℕ) → Listed S (unsound_stripes r img) ↔ ((S < r.stripes) × ¬ Sound r img S)
  -- .. rising, so each once
  pub rising : (r : Record) (img : List ℕ) (i j : ℕ) → i < j → j < length (unsound_stripes r img)
      → get_or (unsound_stripes r img) i 0 < get_or (unsound_stripes r img) j 0
