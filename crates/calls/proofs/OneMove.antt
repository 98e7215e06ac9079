-- A single move on the images: the copy, the zeroes, and nothing else. Assumes nothing.
use Prim.Native.Nat.{ℕ, ◌<◌}
use mathlib.Core.Path.{◌≡◌, sym, ◌∙◌}
use mathlib.Core.Bool.{true, false}
use mathlib.Core.Logic.{◌≢◌}
use mathlib.Core.List.{List}
use native.Mathlib.Decide.{ℕ_discrete}
use native.Mathlib.Omega.{arith}
use lib.ListN.{length, get_or, length-replicate}
use lib.Seq.{ext_get_or}
use Rattle.layout.specs.declared.Geometry.{Geometry}
use Rattle.layout.specs.Layout.{home, layout, next_stripe, next_from, next_to}
use Rattle.layout.specs.Limits.{GoodArray}
use Rattle.layout.proofs.Laws.Owners.{carried_owner, Carries}
use Rattle.blocks.specs.Block.{zeros}
use Rattle.blocks.proofs.Laws.Grid.{Grid, store_at, store_at-same, store_at-row, store_at-far}
use Rattle.blocks.proofs.Laws.Stripe.{length-place, get_or-place}
use Rattle.blocks.proofs.Laws.Xor.{get_or-zeros}
use Rattle.state.specs.declared.types.Record.{Record}
use Rattle.state.specs.Good.{geometry, good}
use Rattle.state.proofs.Laws.Good.{limits}
use Rattle.calls.specs.Images.{disks_of, size, place_in, stored}
use Rattle.calls.specs.Table.{idle}
use Rattle.calls.specs.Effect.{move_stores}
use Rattle.calls.specs.Alone.{Moves, OneMove}
use Rattle.calls.proofs.Laws.Carry.{carry}
use Rattle.calls.proofs.Laws.Holding.{cell_in}
use Rattle.calls.proofs.Laws.Moved as moved

-- ---- on one byte of every place

module _ (I : Grid) (S from to : ℕ) where
  J : Grid
  J = store_at I S to (I S from)

  copied : from ≢ to → carry I S from to S to ≡ I S from
  unfolding J
  copied ne = store_at-row J S from 0 to (λ q. ne (sym q)) ∙ store_at-same I S to (I S from)

  zeroed : carry I S from to S from ≡ 0
  unfolding J
  zeroed = store_at-same J S from 0

  others : (s d : ℕ) → (s ≡ S → (d ≢ from) × (d ≢ to)) → carry I S from to s d ≡ I s d
  unfolding J
  others s d ne = go (ℕ_discrete s S)
    where
      go : Dec (s ≡ S) → carry I S from to s d ≡ I s d
      go (yes q) = rw q (store_at-row J S from 0 d (ne q).0 ∙ store_at-row I S to (I S from) d (ne q).1)
      go (no n) = store_at-far J S from 0 s d n ∙ store_at-far I S to (I S from) s d n

-- ---- on the images

module _ (r : Record) (img : List ℕ) (gd : good r ≡ true) (busy : idle (geometry r) ≡ false) (long : length img ≡ size r) where
  abbrev g : Geometry
  g = geometry r

  array : GoodArray g
  array = (limits r gd).array

  abbrev after : List ℕ
  after = stored r.block r.stripes (move_stores r img) img

  c : Carries (disks_of r) r.stripes (layout g).owner (carried_owner (home g) g) (next_stripe g) (next_from g) (next_to g)
  c = moved.c r img array busy long

  -- a place after the move, byte by byte
  is : (S d : ℕ) (v : List ℕ) → S < r.stripes → d < disks_of r → length v ≡ r.block
      → ((j : ℕ) → j < r.block → carry (cell_in r img j) (next_stripe g) (next_from g) (next_to g) S d ≡ get_or v j 0) → place_in r after S d ≡ v
  is S d v lS ld lv same =
      let len : length (place_in r after S d) ≡ r.block = length-place r.block r.stripes after S d (disks_of r) lS ld (rw (moved.long-move r img array busy long) (omega arith)) in
      ext_get_or 0 (place_in r after S d) v (len ∙ sym lv)
      (λ j l.
      let lj : j < r.block = rw len at l in
      get_or-place r.block r.stripes after S d j lj ∙ moved.cell-move r img array busy long j lj S d lS ∙ same j lj)

  -- a place before it
  was : (S d : ℕ) → S < r.stripes → d < disks_of r → length (place_in r img S d) ≡ r.block
  was S d lS ld = length-place r.block r.stripes img S d (disks_of r) lS ld (rw long (omega arith))

  moves : Moves r img
  moves =
      record {
        copied =
            is (next_stripe g) (next_to g) (place_in r img (next_stripe g) (next_from g)) c.stripe_lt c.to-lt (was (next_stripe g) (next_from g) c.stripe_lt c.from_lt)
            (λ j lj. copied (cell_in r img j) (next_stripe g) (next_from g) (next_to g) c.apart ∙ sym (get_or-place r.block r.stripes img (next_stripe g) (next_from g) j lj));
        zeroed =
            is (next_stripe g) (next_from g) (zeros r.block) c.stripe_lt c.from_lt (length-replicate {A = ℕ} r.block 0)
            (λ j lj. zeroed (cell_in r img j) (next_stripe g) (next_from g) (next_to g) ∙ sym (get_or-zeros r.block j));
        others = λ S d lS ld ne.
            is S d (place_in r img S d) lS ld (was S d lS ld)
            (λ j lj. others (cell_in r img j) (next_stripe g) (next_from g) (next_to g) S d ne ∙ sym (get_or-place r.block r.stripes img S d j lj));
      }

pub one_move : OneMove
one_move = moves
