-- The record's bytes. Document 01, Record: "decimal byte offsets, least byte first: 0 n; 1 m (0 before growth); 2 health
-- (0 whole, 1 one disk out, 2 lost); 3 the disk that is out, 0 unless health is 1; 4–5 B; 6–7 zero; 8–11 T; 12–15 t, the
-- moves done." Document 02, (d): "Health gains Rebuilding (byte 2 is 3, byte 3 its disk, below N) with disk and stripes done; the record
-- becomes 20 bytes, ..; 16–19 hold the count, below T, and 0 otherwise."
use Rattle.std.specs.Prelude.{ℕ, ◌/◌, ◌%◌, Bool, cond, ◌&&◌, ◌||◌, List, [], ◌∷◌, leb, eqb, get_or}
use Rattle.blocks.specs.Number.{two, four}
use Rattle.state.specs.declared.types.Health.TheVariants.{Whole, Out, Lost, Rebuilding}
use Rattle.state.specs.declared.types.Health.{Health}
use Rattle.state.specs.declared.types.Record.{Record}
use Rattle.state.specs.Good.{good}

-- "the record becomes 20 bytes"
abbrev pub record_length : ℕ
record_length = 20

-- ---- from bytes

-- by the health byte, the disk's and the stripes done
abbrev pub health_of : ℕ → ℕ → ℕ → Health
health_of h d c = cond (eqb h 0) Whole (cond (eqb h 1) (Out d) (cond (eqb h 2) Lost (Rebuilding d c)))

-- "16–19 hold the count"
abbrev pub done_from : List ℕ → ℕ
done_from b = four (get_or b 16 0) (get_or b 17 0) (get_or b 18 0) (get_or b 19 0)

-- the record that so many bytes spell, good or not
unfoldable pub decode : List ℕ → Record
decode b =
    record {
      old = get_or b 0 0;
      new = get_or b 1 0;
      health = health_of (get_or b 2 0) (get_or b 3 0) (done_from b);
      block = two (get_or b 4 0) (get_or b 5 0);
      stripes = four (get_or b 8 0) (get_or b 9 0) (get_or b 10 0) (get_or b 11 0);
      moves = four (get_or b 12 0) (get_or b 13 0) (get_or b 14 0) (get_or b 15 0);
    }

-- the health byte is 0 to 3; the stripes done are zero unless it is 3, and the disk is unless it is 1 or 3
abbrev pub health_plain : ℕ → ℕ → ℕ → Bool
health_plain h d c = leb h 3 && ((eqb h 3 || eqb c 0) && (eqb h 3 || (eqb h 1 || eqb d 0)))

-- the bytes that `decode` does not look at are as they have to be, bytes 6–7 zero included
unfoldable pub plain : List ℕ → Bool
plain b = health_plain (get_or b 2 0) (get_or b 3 0) (done_from b) && (eqb (get_or b 6 0) 0 && eqb (get_or b 7 0) 0)

-- "A record is good", as bytes
abbrev pub good_bytes : List ℕ → Bool
good_bytes b = plain b && good (decode b)

-- ---- to bytes

abbrev pub health_byte : Health → ℕ
health_byte Whole = 0
health_byte (Out d) = 1
health_byte Lost = 2
health_byte (Rebuilding d c) = 3

abbrev pub disk_byte : Health → ℕ
disk_byte Whole = 0
disk_byte (Out d) = d
disk_byte Lost = 0
disk_byte (Rebuilding d c) = d

-- "with disk and stripes done"
abbrev pub stripes_done : Health → ℕ
stripes_done Whole = 0
stripes_done (Out d) = 0
stripes_done Lost = 0
stripes_done (Rebuilding d c) = c

unfoldable pub encode : Record → List ℕ
encode r =
    r.old ∷ r.new ∷ health_byte r.health ∷ disk_byte r.health
    ∷ r.block % 256 ∷ r.block / 256 ∷ 0 ∷ 0
    ∷ r.stripes % 256 ∷ r.stripes / 256 % 256 ∷ r.stripes / 65536 % 256 ∷ r.stripes / 16777216
    ∷ r.moves % 256 ∷ r.moves / 256 % 256 ∷ r.moves / 65536 % 256 ∷ r.moves / 16777216
    ∷ stripes_done r.health % 256 ∷ stripes_done r.health / 256 % 256
    ∷ stripes_done r.health / 65536 % 256 ∷ stripes_done r.health / 16777216
    ∷ []
