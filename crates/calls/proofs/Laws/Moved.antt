-- One move: each stripe's parity keeps its value, and images that hold a list hold, after the move, the list lengthened by the blocks that it opens. Assumes nothing.
use Prim.Native.Nat.{ℕ, suc, ◌+◌, ◌-◌, ◌*◌, ◌≤◌, ◌<◌}
use mathlib.Core.Path.{◌≡◌, refl, sym, ◌∙◌, subst}
use mathlib.Core.Bool.{false}
use mathlib.Core.List.{List, ◌++◌}
use native.Mathlib.Omega.{arith}
use lib.ListN.{length, get_or, length-map, length-replicate}
use lib.Seq.{ext_get_or}
use Rattle.layout.specs.declared.Geometry.{Geometry}
use Rattle.layout.specs.Layout.{capacity, total_of, old_blocks, open_stripes, home, layout, next_stripe, next_from, next_to, after}
use Rattle.layout.specs.Limits.{GoodArray}
use Rattle.layout.proofs.Laws.Layout.{lawful}
use Rattle.layout.proofs.Laws.Numbers.{good-later}
use Rattle.layout.proofs.Laws.Opening.{capacity-rises}
use Rattle.layout.proofs.Laws.Owners.{carried_owner, Carries, carries, Opened, opens, was-parity}
use Rattle.layout.proofs.Theorem.{laid}
use Rattle.blocks.specs.Block.{zeros}
use Rattle.blocks.proofs.Laws.Grid.{Grid}
use Rattle.blocks.proofs.Laws.Stripe.{length-place, get_or-place}
use Rattle.blocks.proofs.Laws.Xor.{get_or-zeros}
use Rattle.state.specs.declared.types.Health.TheVariants.{Whole}
use Rattle.state.specs.declared.types.Health.{Health}
use Rattle.state.specs.declared.types.Record.{Record}
use Rattle.state.specs.Good.{geometry}
use Rattle.state.specs.Update.{with_moves}
use Rattle.calls.specs.Health.{absent}
use Rattle.calls.specs.Images.{disks_of, size, place_in, stored}
use Rattle.calls.specs.Table.{idle}
use Rattle.calls.specs.Effect.{move_stores}
use Rattle.calls.proofs.Laws.Column.{Agree, Stored, relent}
use Rattle.calls.proofs.Laws.Carry.{carry, stored-carry, parity-carry}
use Rattle.calls.proofs.Laws.Stores.{Within, column, length-stored, cell-stored}
use Rattle.calls.proofs.Laws.Table.{some_left}
use Rattle.calls.proofs.Laws.Lists.{with-new, bytes-with-new, count-with-new, whole-with-new, stored-opened}
use Rattle.calls.proofs.Laws.Holding.{Holding, bytes_at, cell_in}

-- one move more
abbrev pub moved : Record → Record
moved r = with_moves r (suc r.moves)

pub good-moved : (r : Record) → GoodArray (geometry r) → idle (geometry r) ≡ false → GoodArray (geometry (moved r))
good-moved r good busy = good-later (geometry r) good (suc r.moves) (some_left (geometry r) good busy)

module _ (r : Record) (img : List ℕ) (good : GoodArray (geometry r)) (busy : idle (geometry r) ≡ false) (long : length img ≡ size r) where
  abbrev g : Geometry
  g = geometry r

  pub c : Carries (disks_of r) r.stripes (layout g).owner (carried_owner (home g) g) (next_stripe g) (next_from g) (next_to g)
  c = carries (home g) g good (some_left g good busy)

  abbrev J : List ℕ
  J = stored r.block r.stripes (move_stores r img) img

  pub within-move : Within (disks_of r) r.block r.stripes (move_stores r img)
  unfolding move_stores Within
  within-move = (
    c.stripe_lt,
    c.to-lt,
    length-place r.block r.stripes img (next_stripe g) (next_from g) (disks_of r) c.stripe_lt c.from_lt (rw long (omega arith)),
    (c.stripe_lt, c.from_lt, length-replicate {A = ℕ} r.block 0, tt),
  )

  pub long-move : length J ≡ size (moved r)
  long-move = length-stored r.block r.stripes (move_stores r img) img ∙ long

  pub cell-move : (j : ℕ) → j < r.block → (S d : ℕ) → S < r.stripes → cell_in r J j S d ≡ carry (cell_in r img j) (next_stripe g) (next_from g) (next_to g) S d
  unfolding move_stores column
  cell-move j lj S d lS =
      cell-stored r.block r.stripes (disks_of r) (move_stores r img) img within-move long j S d lj lS
      ∙ rw (get_or-zeros r.block j, get_or-place r.block r.stripes img (next_stripe g) (next_from g) j lj)

  -- the parity keeps its value, wherever it then stands
  pub parity-move : (S : ℕ) → S < r.stripes → place_in r J S ((layout (after g)).parity S) ≡ place_in r img S ((layout g).parity S)
  parity-move S lS =
      let p : ℕ = (layout g).parity S in
      let p' : ℕ = (layout (after g)).parity S in
      let good' : GoodArray (after g) = good-moved r good busy in
      let lp : p < disks_of r = (lawful g good).parity_lt S lS in
      let lp' : p' < disks_of r = (lawful (after g) good').parity_lt S lS in
      let len : length (place_in r img S p) ≡ r.block = length-place r.block r.stripes img S p (disks_of r) lS lp (rw long (omega arith)) in
      let len' : length (place_in r J S p') ≡ r.block = length-place r.block r.stripes J S p' (disks_of r) lS lp' (rw long-move (omega arith)) in
      ext_get_or 0 (place_in r J S p') (place_in r img S p) (len' ∙ sym len)
      (λ j l.
      let lj : j < r.block = rw len' at l in
      get_or-place r.block r.stripes J S p' j lj ∙ cell-move j lj S p' lS
      ∙ parity-carry (disks_of r) r.stripes (layout g).owner (carried_owner (home g) g) (next_stripe g) (next_from g) (next_to g) c (cell_in r img j) S p p' lS lp'
      (was-parity (opens (home g) g good (some_left g good busy) S p') ((lawful (after g) good').owner-parity S lS)) (λ d ld q. (laid g good).placed.parity_of_owner S d lS ld q)
      ∙ sym (get_or-place r.block r.stripes img S p j lj))

-- with every disk in the mask is empty
masked : {N T : ℕ} {own : ℕ → ℕ → _} {I : Grid} {cs : List ℕ} (h : Health) → h ≡ Whole → Stored N T own (absent h) I cs → Stored N T own (λ S d. false) I cs
masked {N} {T} {own} {I} {cs} h q s = subst (λ (x : Health). Stored N T own (absent x) I cs) q s

unmasked : {N T : ℕ} {own : ℕ → ℕ → _} {I : Grid} {cs : List ℕ} (h : Health) → h ≡ Whole → Stored N T own (λ S d. false) I cs → Stored N T own (absent h) I cs
unmasked {N} {T} {own} {I} {cs} h q s = subst (λ (x : Health). Stored N T own (absent x) I cs) (sym q) s

-- what a move does: images that hold a list hold, after it, the list lengthened by the blocks that it opens
module _ (r : Record) (img : List ℕ) (bs : List (List ℕ)) (h : Holding r img bs) (whole : r.health ≡ Whole) (busy : idle (geometry r) ≡ false) where
  abbrev before : Geometry
  before = geometry r

  good : GoodArray (geometry r)
  good = h.limits.array

  left : r.moves < total_of (geometry r)
  left = some_left before good busy

  -- on one byte of every place: carried, then opened
  stored_moved : (j : ℕ) → j < r.block → (c : ℕ)
      → Stored (disks_of r) r.stripes (layout (after before)).owner (λ S d. false) (cell_in r (stored r.block r.stripes (move_stores r img) img) j) (bytes_at j bs ++ zeros c)
  unfolding Agree capacity
  stored_moved j lj c =
      let count : length (bytes_at j bs) ≡ old_blocks before + open_stripes before * r.new = length-map bs (λ (x : List ℕ). get_or x j 0) ∙ h.count in
      stored-opened (disks_of r) r.stripes (carried_owner (home before) before) (layout (after before)).owner (λ S d. false) _ (bytes_at j bs) c
      (λ S d. subst (λ (x : ℕ). Opened x (carried_owner (home before) before S d) ((layout (after before)).owner S d)) (sym count) (opens (home before) before good left S d))
      (relent (disks_of r) r.stripes (carried_owner (home before) before) (λ S d. false) (carry (cell_in r img j) (next_stripe before) (next_from before) (next_to before))
      (cell_in r (stored r.block r.stripes (move_stores r img) img) j) (bytes_at j bs)
      (stored-carry (disks_of r) r.stripes (layout before).owner (carried_owner (home before) before) (next_stripe before) (next_from before) (next_to before) (carries (home before) before good left) (bytes_at j bs) (cell_in r img j)
      (masked r.health whole (h.stored (rw whole refl) j lj)))
      (λ S d lS ld u. cell-move r img good busy h.long j lj S d lS))

  enough-moved : length bs ≤ capacity (geometry (moved r))
  enough-moved = rw h.count (capacity-rises before good (suc r.moves) (omega arith) left)

  pub holding-move : Holding (moved r) (stored r.block r.stripes (move_stores r img) img) (with-new (geometry (moved r)) r.block bs)
  holding-move =
      record {
        limits = record { array = good-moved r good busy; block_low = h.limits.block_low; block_high = h.limits.block_high; health = rw whole tt };
        long = long-move r img good busy h.long;
        count = count-with-new (geometry (moved r)) r.block bs enough-moved;
        whole = whole-with-new (geometry (moved r)) r.block bs h.whole;
        stored = λ nl j lj.
            unmasked r.health whole
            (rw (bytes-with-new (geometry (moved r)) r.block bs j) (stored_moved j lj (capacity (geometry (moved r)) - length bs)));
      }
