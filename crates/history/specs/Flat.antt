-- Document 01: "The flat list is a small machine. It is fed each call's arguments, a write's data among them, and the lengths
-- lent, and no byte of record or images. It holds n, m, B, T, t, health with the disk out, and a list of blocks; capacity is
-- that list's length." (Document 02, (d): "Health gains Rebuilding .. with disk and stripes done".)
use Rattle.std.specs.Prelude.{ℕ, zero, suc, ◌+◌, ◌-◌, ◌*◌, ◌/◌, min, cond, List, [], ◌++◌, eqb, ltb, length, get_or, set, replicate}
use Rattle.layout.specs.Layout.{total_of, layout}
use Rattle.blocks.specs.Block.{zeros}
use Rattle.state.specs.declared.types.Health.TheVariants.{Whole, Out, Lost, Rebuilding}
use Rattle.state.specs.declared.types.Health.{Health}
use Rattle.state.specs.declared.types.Record.{Record}
use Rattle.state.specs.Good.{geometry}
use Rattle.state.specs.Bytes.{stripes_done}
use Rattle.calls.specs.Call.{Call, format, read, view, write, grow, advance, out, begin, continue, status, locate, owner, sweep, Fed}
use Rattle.calls.specs.Call.{Answer, refused, done, bytes, made, all_sound, figures, placed, owned}
use Rattle.calls.specs.Table.{refusal}

pub record Flat : Type 0 where
  pub numbers : Record
  pub blocks : List (List ℕ)

abbrev pub flat : Record → List (List ℕ) → Flat
flat r bs = record { numbers = r; blocks = bs }

abbrev pub zero_blocks : ℕ → ℕ → List (List ℕ)
zero_blocks c B = replicate c (zeros B)

-- the length that the list has by its numbers: T × (n − 1) blocks; (n + m) × m more for each finished zone, of which t div (n × m) are,
-- and once t is the total T × m more in all. A formula of its own: that it is the layout's `capacity` is shown of each step
abbrev pub reached : Record → ℕ
reached r =
    r.stripes * (r.old - 1)
    + cond (eqb r.moves (total_of (geometry r))) (r.stripes * r.new) (r.moves / (r.old * r.new) * (r.old + r.new) * r.new)

-- "The flat list lengthens by just these zero blocks as they come, at grow itself where the total is 0" (document 02, (b)): zero blocks
-- up to that length
abbrev pub lengthened : Record → List (List ℕ) → List (List ℕ)
lengthened r bs = bs ++ zero_blocks (reached r - length bs) r.block

-- "Out ..: health as under Calls": "whole becomes out; out with another disk becomes lost". Of a rebuild: "Another disk out means lost; the
-- same disk out means out again."
abbrev pub fallen : Health → ℕ → Health
fallen Whole d = Out d
fallen (Out o) d = Lost
fallen Lost d = Lost
fallen (Rebuilding o c) d = cond (eqb o d) (Out o) Lost

-- x more stripes of a rebuild: "At T health is whole."
abbrev pub risen : ℕ → Health → ℕ → Health
risen T Whole x = Whole
risen T (Out o) x = Out o
risen T Lost x = Lost
risen T (Rebuilding o c) x = cond (ltb (c + x) T) (Rebuilding o (c + x)) Whole

unfoldable pub flat_act : Call → Record → List (List ℕ) → Answer × Flat
-- "Format: n, B, T as given, m = t = 0, whole, T × (n − 1) zero blocks."
flat_act (format n B T) r bs =
    (done, flat (record { old = n; new = 0; health = Whole; block = B; stripes = T; moves = 0 }) (zero_blocks (T * (n - 1)) B))
-- "Read and view give block b; write replaces it by the data."
flat_act (read b) r bs = (bytes (get_or bs b []), flat r bs)
flat_act (view b) r bs = (bytes (get_or bs b []), flat r bs)
flat_act (write b v) r bs = (done, flat r (set bs b v))
-- "Grow: m as given, t = 0."
flat_act (grow m) r bs =
    let next : Record = record { old = r.old; new = m; health = r.health; block = r.block; stripes = r.stripes; moves = 0 } in
    (done, flat next (lengthened next bs))
-- "Advance: the lesser of k and total − t is added to t and reported."
flat_act (advance k) r bs =
    let c = min k (total_of (geometry r) - r.moves) in
    let next : Record =
    record { old = r.old; new = r.new; health = r.health; block = r.block; stripes = r.stripes; moves = r.moves + c } in
    (made c, flat next (lengthened next bs))
flat_act (out d) r bs =
    let h = fallen r.health d in
    (done, flat (record { old = r.old; new = r.new; health = h; block = r.block; stripes = r.stripes; moves = r.moves }) bs)
-- "begin (d), which changes the record only"
flat_act (begin d) r bs =
    let h = Rebuilding d 0 in
    (done, flat (record { old = r.old; new = r.new; health = h; block = r.block; stripes = r.stripes; moves = r.moves }) bs)
-- "continue (k stripes), which does stripes in rising order until k are done or none is left, and reports how many": the lesser of k and
-- T less those done
flat_act (continue k) r bs =
    let c = min k (r.stripes - stripes_done r.health) in
    let h = risen r.stripes r.health c in
    (made c, flat (record { old = r.old; new = r.new; health = h; block = r.block; stripes = r.stripes; moves = r.moves }) bs)
-- "Status, locate and owner answer from these numbers, by Layout."
flat_act status r bs = (figures (length bs) r.moves (total_of (geometry r)) r.health, flat r bs)
flat_act (locate b) r bs = (placed ((layout (geometry r)).place b), flat r bs)
flat_act (owner S d) r bs = (owned ((layout (geometry r)).owner S d), flat r bs)
-- "none", and "the stripes read (.. T where there is none)": the flat list has no stripe that could be unsound
flat_act sweep r bs = (all_sound r.stripes, flat r bs)

-- "Refused: the table, read on these numbers, gives the number .. Nothing changes."
abbrev pub flat_settle : ℕ → Flat → Answer × Flat → Answer × Flat
flat_settle zero f acted = acted
flat_settle (suc k) f acted = (refused (suc k), f)

unfoldable pub flat_step : Fed → Flat → Answer × Flat
flat_step e f = flat_settle (refusal f.numbers (length f.blocks) e) f (flat_act e.call f.numbers f.blocks)
