-- `put` meets its contract. Assumes nothing.
use mathlib.Core.Path.{◌≡◌, sym, ◌∙◌}
use native.Mathlib.Omega.{arith}
use lib.ListN.{length}
use Rattle.blocks.specs.Block.{store}
use Rattle.conditions.proofs.Tests.{went_on, returned}
use Rattle.calls.specs.Images.{stored}
use Rattle.calls.specs.Effect.{write_stores}
use Rattle.conditions.proofs.Asked.{told}
use Rattle.calls.proofs.Laws.Table.{write-rows}
use Rattle.access.proofs.Laws.Reaching.{asked, asked-slot, reached, inside}
use Rattle.access.proofs.Laws.Writing.{Aimed, sums, folds, data-out, both-in, parity-out}
use Rattle.access.proofs.writing.put.Goals as goal
use Rattle.access.proofs.writing.put.Goals.{After-q-1, Joined-not-is_absent, then-not-is_absent, else-not-is_absent}

-- where the block stands, and its parity
stands : (c : After-q-1) →
    let a = c.args in
    Aimed a.a.rec (length a.images.now) a.b a.bytes.now c.place_of-x.result
stands c = record { reach = reached _ c.args.a.good _ _ _ (sym (write-rows _ _ _ _ _ _) ∙ c.requires) _ c.geometry_of-g.ensures _ c.place_of-x.ensures }

-- the data stored over what the fold has left
lays : (c : Joined-not-is_absent) → (q : Aimed c.args.a.rec (length c.args.images.now) c.args.b c.args.bytes.now c.place_of-x.result) →
    let a = c.args in
    (length c.if-not-is_absent.images ≡ length a.images.now)
    × (store c.if-not-is_absent.images c.place_at-at.result a.bytes.now ≡ stored a.a.rec.block a.a.rec.stripes (write_stores a.a.rec a.images.now a.b a.bytes.now) a.images.now)
lays c q =
    let u = told c.is_absent.ensures.answer c.if-is_absent.false in
    let i = c.is_absent-2.ensures.answer in
    elim c.if-not-is_absent.branch [
      | then-not-is_absent w ↦ both-in q _ c.place_at-at.ensures.start w.place_at.ensures.start u (returned i w.if-not-is_absent.true) (w.images-is ∙ w.fold_parity.ensures.images)
      | else-not-is_absent w ↦ parity-out q _ c.place_at-at.ensures.start u (went_on i w.if-not-is_absent.false) w.images-is
    ]

pub slot_of-requires : goal.slot_of-requires
slot_of-requires c = asked _ c.args.a.good _ _ _ (sym (write-rows _ _ _ _ _ _) ∙ c.requires) _ c.geometry_of-g.ensures

pub place_of-x-requires : goal.place_of-x-requires
place_of-x-requires c =
    asked-slot _ c.args.a.good _ _ _ (sym (write-rows _ _ _ _ _ _) ∙ c.requires) _ c.geometry_of-g.ensures _ c.slot_of.ensures

pub fold_others-requires : goal.fold_others-requires
fold_others-requires c = sums (stands (goal.at.fold_others-requires c).After-q-1) c.disks_of.ensures.count

pub returns-then-is_absent : goal.returns-then-is_absent
returns-then-is_absent c =
    record {
      images =
          c.fold_others.ensures.images ∙ data-out (stands (goal.at.returns-then-is_absent c).After-q-1) _ c.disks_of.ensures.count (told c.is_absent.ensures.answer c.if-is_absent.true);
    }

pub place_at-at-requires : goal.place_at-at-requires
place_at-at-requires c = let x = (stands (goal.at.place_at-at-requires c).After-q-1).reach in (x.stripe_lt, x.disk_lt)

pub place_at-requires : goal.place_at-requires
place_at-requires c = let x = (stands (goal.at.place_at-requires c).After-q-1).reach in (x.stripe_lt, x.parity_lt)

pub fold_parity-requires : goal.fold_parity-requires
fold_parity-requires c =
    folds (stands (goal.at.fold_parity-requires c).After-q-1) c.place_at-at.ensures.start c.place_at.ensures.start

pub store_bytes-requires : goal.store_bytes-requires
store_bytes-requires c =
    let l = (lays (goal.at.store_bytes-requires c).Joined-not-is_absent (stands (goal.at.store_bytes-requires c).After-q-1)).0 in
    let x = (stands (goal.at.store_bytes-requires c).After-q-1).reach in
    let i = inside x c.place_at-at.ensures.start in
    omega arith

pub returns : goal.returns
returns c =
    record {
      images =
          c.store_bytes.ensures.target ∙ (lays (goal.at.returns c).Joined-not-is_absent (stands (goal.at.returns c).After-q-1)).1;
    }
