-- What is proved of the record: `RoundTrip`, `GoodIs` and `Updates`; `round_trip`, `good-is` and `updates` of proofs/Theorem.antt prove
-- them.
use Rattle.std.specs.Prelude.{ℕ, ◌+◌, ◌*◌, ◌/◌, ◌≤◌, ◌<◌, ◌≡◌, true, ◌⊎◌, ◌↔◌, List, [], ◌∷◌, length, get_or}
use Rattle.blocks.specs.Block.{AreBytes}
use Rattle.state.specs.declared.types.Health.TheVariants.{Whole, Out, Lost, Rebuilding}
use Rattle.state.specs.declared.types.Health.{Health}
use Rattle.state.specs.declared.types.Record.{Record}
use Rattle.state.specs.Good.{geometry, good, GoodRecord}
use Rattle.state.specs.Bytes.{decode, plain, good_bytes, health_byte, disk_byte, stripes_done, encode}
use Rattle.state.specs.Update.{formatted, grown_by, with_moves, with_health}

-- byte i of a record
abbrev pub byte_of : Record → ℕ → ℕ
byte_of r i = get_or (encode r) i 0

-- the record and its bytes: in and out
pub record RoundTrip : Type 0 where
  pub record_back : (r : Record) → decode (encode r) ≡ r
  pub bytes_back : (b : List ℕ) → AreBytes b → length b ≡ 20 → plain b ≡ true → encode (decode b) ≡ b
  -- and bytes that are not `plain` are those of no record
  pub plain_only : (b : List ℕ) (r : Record) → encode r ≡ b → (length b ≡ 20) × (plain b ≡ true)
  -- "decimal byte offsets, least byte first: 0 n; 1 m (0 before growth); 2 health ..; 3 the disk that is out ..; 4–5 B; 6–7 zero; 8–11 T;
  -- 12–15 t, the moves done"; "16–19 hold the count"
  pub offsets : (r : Record) → let at : ℕ → ℕ = byte_of r in
      (at 0 ≡ r.old) × (at 1 ≡ r.new) × (at 2 ≡ health_byte r.health) × (at 3 ≡ disk_byte r.health)
      × (at 4 + 256 * at 5 ≡ r.block) × (at 6 ≡ 0) × (at 7 ≡ 0)
      × (at 8 + 256 * at 9 + 65536 * at 10 + 16777216 * at 11 ≡ r.stripes)
      × (at 12 + 256 * at 13 + 65536 * at 14 + 16777216 * at 15 ≡ r.moves)
      × (at 16 + 256 * at 17 + 65536 * at 18 + 16777216 * at 19 ≡ stripes_done r.health)
  -- "0 whole, 1 one disk out, 2 lost", "the disk that is out, 0 unless health is 1"; "Rebuilding (byte 2 is 3, byte 3 its disk ..) with
  -- disk and stripes done", "0 otherwise"
  pub health_bytes : (health_byte Whole ≡ 0) × (disk_byte Whole ≡ 0) × (stripes_done Whole ≡ 0)
      × ((d : ℕ) → (health_byte (Out d) ≡ 1) × (disk_byte (Out d) ≡ d) × (stripes_done (Out d) ≡ 0))
      × (health_byte Lost ≡ 2) × (disk_byte Lost ≡ 0) × (stripes_done Lost ≡ 0)
      × ((d c : ℕ) → (health_byte (Rebuilding d c) ≡ 3) × (disk_byte (Rebuilding d c) ≡ d) × (stripes_done (Rebuilding d c) ≡ c))
  -- "one of Whole, Out with its disk, Lost", or "Rebuilding .. with disk and stripes done", and nothing else
  pub healths : (h : Health) → (h ≡ Whole) ⊎ (((d : ℕ) × (h ≡ Out d)) ⊎ ((h ≡ Lost) ⊎ ((d : ℕ) × (c : ℕ) × (h ≡ Rebuilding d c))))
  -- worked out by hand: n = 5, m = 7, disk 11 being rebuilt, B = 515, T = 67,305,985, t = 134,678,021, 202,050,057 stripes done
  pub example : encode (record { old = 5; new = 7; health = Rebuilding 11 202050057; block = 515; stripes = 67305985; moves = 134678021 })
      ≡ 5 ∷ 7 ∷ 3 ∷ 11 ∷ 3 ∷ 2 ∷ 0 ∷ 0 ∷ 1 ∷ 2 ∷ 3 ∷ 4 ∷ 5 ∷ 6 ∷ 7 ∷ 8 ∷ 9 ∷ 10 ∷ 11 ∷ 12 ∷ []

-- "A record is good exactly if each field is in its limits .."
pub record GoodIs : Type 0 where
  pub exactly : (r : Record) → (good r ≡ true) ↔ GoodRecord r
  -- which are: "n, the old disks, is 3 to 16; m, the new ones, 1 to 16", or "0 before growth"; "B, the block length, is 1 to 4,096. T, the
  -- stripes, is 1 to 1,048,576."; "the out disk is below N, t is at most the total of moves", "(T div (n × (n + m))) × n × n × m"; of a
  -- rebuild the disk "below N" and the count "below T"
  pub limits : (r : Record) → GoodRecord r
      ↔ ((3 ≤ r.old) × (r.old ≤ 16) × (r.new ≤ 16) × (1 ≤ r.block) × (r.block ≤ 4096) × (1 ≤ r.stripes) × (r.stripes ≤ 1048576)
      × (r.moves ≤ r.stripes / (r.old * (r.old + r.new)) * r.old * r.old * r.new)
      × ((d : ℕ) → r.health ≡ Out d → d < r.old + r.new)
      × ((d c : ℕ) → r.health ≡ Rebuilding d c → (d < r.old + r.new) × (c < r.stripes)))
  -- the array that it speaks of has its own numbers
  pub array : (r : Record) → geometry r ≡ record { old = r.old; new = r.new; stripes = r.stripes; moves = r.moves }
  -- its bytes are bytes
  pub fits : (r : Record) → GoodRecord r → AreBytes (encode r)
  -- and so many bytes are good exactly if they are those of a good record: "bytes 6–7 zero included"
  pub bytes : (b : List ℕ) → AreBytes b → length b ≡ 20
      → (good_bytes b ≡ true) ↔ ((r : Record) × (good r ≡ true) × (encode r ≡ b))

-- What every field is after each update. One equation holds them all: a field more, and these lines have to say what becomes of it.
pub record Updates : Type 0 where
  -- "record whole, m = t = 0"; n, B, T as given
  pub formatted_is : (n B T : ℕ) → formatted n B T ≡ record { old = n; new = 0; health = Whole; block = B; stripes = T; moves = 0 }
  -- m as given, and no move is done yet
  pub grown_is : (r : Record) (m : ℕ)
      → grown_by r m ≡ record { old = r.old; new = m; health = r.health; block = r.block; stripes = r.stripes; moves = 0 }
  -- t alone
  pub moves_are : (r : Record) (t : ℕ)
      → with_moves r t ≡ record { old = r.old; new = r.new; health = r.health; block = r.block; stripes = r.stripes; moves = t }
  -- the health alone: a growth that a lost disk halts goes on where it stopped
  pub health_is : (r : Record) (h : Health)
      → with_health r h ≡ record { old = r.old; new = r.new; health = h; block = r.block; stripes = r.stripes; moves = r.moves }
