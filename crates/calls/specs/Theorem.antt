-- DEMAND 1, as far as the definitions go: "The lent images, record, block and scratch hold after a refused call the very bytes they
-- held before it, nonsense records and lengths included; every call .. refuses exactly as the table says".
-- The statement is `Demand1`; `demand1` of proofs/Theorem.antt proves it, `in_order`, `in-rising-order`, `in-steps`, `on_bytes`, `settles`
-- and `values` the six after it.
use Rattle.std.specs.Prelude.{ℕ, zero, suc, ◌+◌, ◌-◌, ◌<◌, min, ◌≡◌, Bool, true, false, ◌↔◌, ◌≢◌, List, [], ◌∷◌, ◌++◌, length, replicate}
use Rattle.layout.specs.declared.Role.TheVariants.{Data, Parity, Blank}
use Rattle.layout.specs.declared.Standing.{Standing}
use Rattle.state.specs.declared.types.Health.TheVariants.{Rebuilding}
use Rattle.state.specs.declared.types.Health.{Health}
use Rattle.state.specs.declared.types.Record.{Record}
use Rattle.state.specs.Bytes.{health_byte, disk_byte, stripes_done, decode, encode}
use Rattle.calls.specs.Call.{Call, Event, on, feed, fed}
use Rattle.calls.specs.Call.{Answer, refused, done, bytes, made, all_sound, unsound_at, figures, placed, owned}
use Rattle.calls.specs.Call.{accepted, number, shown, count, beside}
use Rattle.calls.specs.Images.{others_in, Store, block, header, stored_in, recorded}
use Rattle.calls.specs.Table.{Row, word, refusal_of, rows_bytes, refusal_bytes}
use Rattle.calls.specs.Effect.{advance_stores, stripes_made, continue_stores, Left, act, called, sealed, called_bytes}

-- no condition of these rows holds
unfoldable pub NoneHolds : List Row → Type 0
NoneHolds [] = Unit
NoneHolds (x ∷ rows) = (x.1 ≡ false) × NoneHolds rows

-- "A number is given if its condition holds and no lower one's does, and else never. 0 is done."
pub record Given (rows : List Row) : Type 0 where
  pub given : (before after : List Row) (k : ℕ) (holds : Bool) → rows ≡ before ++ (k, holds) ∷ after
      → (word rows ≡ k) ↔ ((holds ≡ true) × NoneHolds before)
  pub zero : (word rows ≡ 0) ↔ NoneHolds rows
  -- what stands before a row has lower numbers, what stands after it higher ones
  pub rising : (before middle after : List Row) (x y : Row) → rows ≡ before ++ x ∷ (middle ++ y ∷ after) → x.0 < y.0

-- what is claimed of one call e, lent a record of the bytes b ..
pub record Answered (e : Event) (b : List ℕ) : Type 0 where
  -- the number returned is the table's ..
  pub number_is : number (called_bytes e b).answer ≡ refusal_bytes b (fed e)
  -- .. whose rows are these
  pub word_is : refusal_bytes b (fed e) ≡ word (rows_bytes b (fed e))
  pub table_is : Given (rows_bytes b (fed e))
  -- .. with "zeros beside its number, an empty view" ..
  pub zeros : (w : ℕ) → accepted (called_bytes e b).answer ≡ false
      → (beside w (called_bytes e b).answer ≡ replicate w 0) × (shown (called_bytes e b).answer ≡ [])
  -- .. and if it is not 0, record, images and block or scratch are as they were lent
  pub untouched : accepted (called_bytes e b).answer ≡ false
      → ((called_bytes e b).state ≡ b) × ((called_bytes e b).images ≡ e.images) × ((called_bytes e b).room ≡ e.room)
  pub refused : (accepted (called_bytes e b).answer ≡ false) ↔ (refusal_bytes b (fed e) ≢ 0)

-- .. and it holds of every call, whatever it is lent: "nonsense records and lengths included"
abbrev pub Demand1 : Type 0
Demand1 = (e : Event) (b : List ℕ) → Answered e b

-- "makes moves in order": the stores of i + k moves are those of i, and then those of k more on what the first leave. (`in_order`)
abbrev pub InOrder : Type 0
InOrder =
    (i k : ℕ) (r : Record) (img : List ℕ) →
    let ps = advance_stores i r img in
    advance_stores (i + k) r img ≡ ps ++ advance_stores k (recorded ps r) (stored_in r ps img)

-- one store for each of k stripes, from stripe S on
unfoldable pub rising : ℕ → ℕ → (ℕ → Store) → List Store
rising S zero f = []
rising S (suc k) f = f S ∷ rising (suc S) k f

-- "does stripes in rising order until k are done or none is left" (document 02, (d)): the stores of a continue are those of the disk's next
-- stripes, each once, and after them all the record that it leaves. (`in-rising-order`)
abbrev pub InRisingOrder : Type 0
InRisingOrder =
    (k o c : ℕ) (r : Record) (img : List ℕ) → r.health ≡ Rebuilding o c →
    let ps = continue_stores k r img in
    ps ≡ rising c (min k (r.stripes - c)) (λ S. block S o (others_in r img S o)) ++ header (recorded ps r) ∷ []

-- And i + k stripes at once are i, and then k more on what the first leave: the same images and the same record, and the counts add up. No
-- document asks for it: a controller that picks k counts on it. (`in-steps`)
abbrev pub InSteps : Type 0
InSteps =
    (i k o c : ℕ) (r : Record) (img : List ℕ) → r.health ≡ Rebuilding o c → c + i < r.stripes →
    let ps = continue_stores i r img in
    let r' = recorded ps r in
    let img' = stored_in r ps img in
    (stored_in r (continue_stores (i + k) r img) img ≡ stored_in r' (continue_stores k r' img') img')
    × (recorded (continue_stores (i + k) r img) r ≡ recorded (continue_stores k r' img') r')
    × (stripes_made (i + k) r ≡ stripes_made i r + stripes_made k r')

-- What is proved of calls on a record's bytes holds of calls on the record. (`on_bytes`)
abbrev pub OnBytes : Type 0
OnBytes = (e : Event) (r : Record) → called_bytes e (encode r) ≡ sealed (called e r)

-- And a call is what the table's number makes of it: `act`, of which `Acts` and `Alone` speak, or nothing but the number. (`settles`)
pub record Settles : Type 0 where
  -- the table is fed the call and the lengths lent, and nothing else
  pub fed_is : (e : Event) → fed e ≡ feed e.call (length e.images) (length e.room)
  pub lent : (c : Call) (img room : List ℕ) → ((on c img room).call ≡ c) × ((on c img room).images ≡ img) × ((on c img room).room ≡ room)
  pub lengths : (c : Call) (len room : ℕ) → ((feed c len room).call ≡ c) × ((feed c len room).images ≡ len) ×
      ((feed c len room).room ≡ room)
  -- let through: on a record, and on bytes, where the record that is left is written anew
  pub let_through : (e : Event) (r : Record) → refusal_of r (fed e) ≡ 0 → called e r ≡ act e r
  pub bytes_through : (e : Event) (b : List ℕ) → refusal_bytes b (fed e) ≡ 0 → called_bytes e b ≡ sealed (act e (decode b))
  pub written : (x : Left Record)
      → ((sealed x).answer ≡ x.answer) × ((sealed x).state ≡ encode x.state) × ((sealed x).images ≡ x.images) × ((sealed x).room ≡ x.room)
  -- refused: "changes no byte" (on bytes that is `Demand1`)
  pub turned-away : (e : Event) (r : Record) → refusal_of r (fed e) ≢ 0
      → ((called e r).answer ≡ refused (refusal_of r (fed e))) × ((called e r).state ≡ r)
      × ((called e r).images ≡ e.images) × ((called e r).room ≡ e.room)

-- An answer in numbers, for all of them: "0 is done. A refusal returns zeros beside its number, an empty view". (`values`)
pub record Values : Type 0 where
  pub refusals : (w k : ℕ) → (number (refused k) ≡ k) × (beside w (refused k) ≡ replicate w 0) × (shown (refused k) ≡ [])
  pub accepts : (a : Answer) → accepted a ≡ true → number a ≡ 0
  -- and what is not accepted is refused
  pub only_refused : (a : Answer) → (accepted a ≡ false) ↔ ((k : ℕ) × (a ≡ refused k))
  -- the count of advance and continue
  pub counts : (w k : ℕ) → (beside w (made k) ≡ k ∷ []) × (count (made k) ≡ k) × (count (refused k) ≡ 0)
  -- sweep's: none found, and all stripes read; or one found, which it is, and the stripes read
  pub sweeps : (w S x : ℕ) → (beside w (all_sound x) ≡ 0 ∷ 0 ∷ x ∷ []) × (beside w (unsound_at S x) ≡ 1 ∷ S ∷ x ∷ [])
  -- status's capacity, t, total, health, the disk that is out or being rebuilt and the stripes done
  pub statuses : (w c t total : ℕ) (h : Health)
      → beside w (figures c t total h) ≡ c ∷ t ∷ total ∷ health_byte h ∷ disk_byte h ∷ stripes_done h ∷ []
  -- locate's stripe and disk, the parity's disk, and 1 if a move carried the block or else 0
  pub places : (w : ℕ) (x : Standing) →
      (x.moved ≡ false → beside w (placed x) ≡ x.block.stripe ∷ x.block.disk ∷ x.parity.disk ∷ 0 ∷ [])
      × (x.moved ≡ true → beside w (placed x) ≡ x.block.stripe ∷ x.block.disk ∷ x.parity.disk ∷ 1 ∷ [])
  -- owner's role, blank 0, parity 1, data 2, and block
  pub owners : (w b : ℕ)
      → (beside w (owned Blank) ≡ 0 ∷ 0 ∷ []) × (beside w (owned Parity) ≡ 1 ∷ 0 ∷ []) × (beside w (owned (Data b)) ≡ 2 ∷ b ∷ [])
  -- the bytes that view returns; and nothing beside what has no numbers
  pub views : (w : ℕ) (v : List ℕ) → (shown (bytes v) ≡ v) × (beside w (bytes v) ≡ []) × (beside w done ≡ [])
