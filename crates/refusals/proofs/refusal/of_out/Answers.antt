-- `of_out` meets its contract: `past-k` is what is left of the rows after the k-th test. Assumes nothing.
use Prim.Native.Nat.{ℕ}
use mathlib.Core.Path.{◌≡◌, refl, sym, ◌∙◌}
use mathlib.Core.Bool.{Bool, true, not, ◌||◌}
use mathlib.Core.List.{[], ◌∷◌}
use lib.Dec.{ltb}
use Rattle.std.proofs.Common.{rules}
use Rattle.conditions.proofs.Asked.{under, over, told}
use Rattle.layout.specs.Layout.{capacity}
use Rattle.state.specs.declared.types.Record.{Record}
use Rattle.state.specs.Good.{geometry}
use Rattle.calls.specs.Call.{out, feed}
use Rattle.calls.specs.Health.{is_out}
use Rattle.calls.specs.Images.{disks_of}
use Rattle.calls.specs.Table.{disk, word, kept, refusal_of}
use Rattle.calls.proofs.Laws.Table.{stops, given, skipped, kept_on, out-rows}
use Rattle.refusals.proofs.Laws.Ready.{err-number}
use Rattle.refusals.proofs.refusal.of_out.Goals as goal
use Rattle.refusals.proofs.refusal.of_out.Goals.{Else-disks_of-d, In_ok-of_kept, then-disks_of-d-via-then-disks_of-d}
use Rattle.refusals.proofs.refusal.of_out.Goals.{then-disks_of-d-via-else-disks_of-d+then-is_out}

-- 10's condition
abbrev wrong : Record → ℕ → Bool
wrong r d = not (ltb d (disks_of r)) || is_out r.health d

past-1 : (c : In_ok-of_kept) → let a = c.args in refusal_of a.r (feed (out a.d) 0 0) ≡ word (disk (wrong a.r a.d) ∷ [])
past-1 c =
    let a = c.args in
    out-rows a.r (capacity (geometry a.r)) 0 0 a.d ∙ kept_on a.r (disk (wrong a.r a.d) ∷ []) c.in_ok-of_kept.ensures.number refl

-- the first half of it does not hold
below-N : (c : Else-disks_of-d) → let a = c.args in wrong a.r a.d ≡ is_out a.r.health a.d
below-N c = rw (under c.disks_of.ensures.count c.if-disks_of-d.false) refl

pub returns-in_err-of_kept : goal.returns-in_err-of_kept
returns-in_err-of_kept c =
    record {
      number =
          let a = c.args in
          stops (kept a.r) (disk (wrong a.r a.d) ∷ []) (search rules) (err-number c.from_residual.result c.from_residual.ensures.0) ∙ sym (out-rows a.r (capacity (geometry a.r)) 0 0 a.d);
    }

pub returns-then-disks_of-d : goal.returns-then-disks_of-d
returns-then-disks_of-d c =
    let a = c.args in
    record {
      number =
          let before = (goal.at.returns-then-disks_of-d c).In_ok-of_kept in
          let holds : wrong a.r a.d ≡ true = elim c.then-disks_of-d.branch [
            | then-disks_of-d-via-then-disks_of-d w ↦ rw (over c.disks_of.ensures.count w.if-disks_of-d.true) refl
            | then-disks_of-d-via-else-disks_of-d+then-is_out w ↦
                rw (under c.disks_of.ensures.count w.if-disks_of-d.false) (told w.is_out.ensures.answer w.if-is_out.true)
          ] in
          sym (past-1 before ∙ given 10 {c = wrong a.r a.d} [] holds);
    }

pub returns : goal.returns
returns c =
    record {
      number =
          sym (past-1 (goal.at.returns c).In_ok-of_kept ∙ skipped 10 [] (below-N (goal.at.returns c).Else-disks_of-d ∙ told c.is_out.ensures.answer c.if-is_out.false));
    }
