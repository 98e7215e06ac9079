-- What a line asks for. A byte after the end of a line counts as 0, which is no digit, no space and no line feed.
use Rattle.std.specs.Prelude.{ℕ, ◌+◌, ◌-◌, ◌*◌, ◌<◌, Bool, cond, not, ◌&&◌, List, leb, ltb, eqb, get_or}
use Rattle.layout.specs.Limits.{Disks}
use Rattle.zone_moves.specs.declared.parse.Field.TheVariants.{Number, Bad}
use Rattle.zone_moves.specs.declared.parse.Field.{Field}
use Rattle.zone_moves.specs.declared.parse.Request.TheVariants.{Zone, Refused}
use Rattle.zone_moves.specs.declared.parse.Request.{Request}

-- `0` to `9`
unfoldable pub is_digit : ℕ → Bool
is_digit b = leb 48 b && leb b 57

-- the bytes a, b, c, the first of which stands at `at`: one digit and `stop`, or two digits, of which the first is not `0`, and `stop`
unfoldable pub field_of : ℕ → ℕ → ℕ → ℕ → ℕ → Field
field_of a b c at stop =
    cond (is_digit a)
    (cond (eqb b stop)
    (Number (a - 48) (at + 2))
    (cond (not (eqb a 48) && is_digit b && eqb c stop) (Number (10 * (a - 48) + (b - 48)) (at + 3)) Bad))
    Bad

-- the number of one or two digits at a position, no leading zero, with the byte `stop` after it. Every limit is below 100, so a longer
-- number is outside it
unfoldable pub field_at : List ℕ → ℕ → ℕ → Field
field_at s at stop = field_of (get_or s at 0) (get_or s (at + 1) 0) (get_or s (at + 2) 0) at stop

-- "n, the old disks, is 3 to 16; m, the new ones, 1 to 16", and "z from 0 to n − 1"
unfoldable pub in_limits : ℕ → ℕ → ℕ → Bool
in_limits n m z = leb 3 n && leb n 16 && leb 1 m && leb m 16 && ltb z n

-- the same limits, as facts
pub record Limited (n m z : ℕ) : Type 0 where
  pub disks : Disks n m
  pub new : 0 < m
  pub zone : z < n

-- n, m and z are read
unfoldable pub ask_zone : ℕ → ℕ → Field → Request
ask_zone n m Bad = Refused
ask_zone n m (Number z next) = cond (in_limits n m z) (Zone n m z) Refused

-- n and m are read: z follows, up to a line feed
unfoldable pub ask_new : List ℕ → ℕ → Field → Request
ask_new s n Bad = Refused
ask_new s n (Number m next) = ask_zone n m (field_at s next 10)

-- n is read: m follows, up to a space
unfoldable pub ask_old : List ℕ → Field → Request
ask_old s Bad = Refused
ask_old s (Number n next) = ask_new s n (field_at s next 32)

-- the line starts with n, up to a space
unfoldable pub request_of : List ℕ → Request
request_of s = ask_old s (field_at s 0 32)
