-- Sweep: of images that hold a list of blocks it finds no stripe unsound, and it leaves them as they were lent. Assumes nothing.
use Prim.Native.Nat.{ℕ}
use mathlib.Core.Path.{◌≡◌, refl, ap}
use mathlib.Core.List.{List}
use lib.ListN.{length}
use Rattle.state.specs.declared.types.Record.{Record}
use Rattle.calls.specs.Call.{sweep, on, all_sound}
use Rattle.calls.specs.Health.{is_lost}
use Rattle.calls.specs.Images.{size}
use Rattle.calls.specs.Table.{later_rows, word}
use Rattle.calls.specs.Effect.{effect, act}
use Rattle.calls.proofs.Laws.Passed as passed
use Rattle.calls.proofs.Laws.Holding.{Holding, Leaves}
use Rattle.calls.proofs.Laws.Sound.{sound}
use Rattle.calls.proofs.Laws.Unsound.{answers-none}

pub sweeps : (r : Record) (img room : List ℕ) (bs : List (List ℕ)) → (length img ≡ size r → Holding r img bs) → (c len : ℕ)
    → word (later_rows sweep r c (length img) len) ≡ 0
    → Leaves (act (on sweep img room) r) (all_sound r.stripes) r bs
unfolding effect
sweeps r img room bs hold c len z =
    let p = passed.sweeps r c (length img) len z in
    let h : Holding r img bs = hold p.long in
    record { answer = answers-none r img (λ S lS. sound r img bs h (ap is_lost p.all_in) S lS); state = refl; holding = h }
