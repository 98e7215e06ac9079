-- Format: the images left hold T × (n − 1) blocks of zeroes, whatever it was lent. Assumes nothing.
use Prim.Native.Nat.{ℕ, ◌-◌, ◌*◌, ◌<◌}
use mathlib.Core.Path.{◌≡◌, refl, sym, ◌∙◌}
use mathlib.Core.Bool.{true}
use mathlib.Core.List.{List}
use native.Mathlib.Omega.{arith}
use native.Mathlib.Nat.{add-zero}
use lib.ListN.{length, length-replicate}
use Rattle.layout.specs.declared.Role.TheVariants.{Data, Parity, Blank}
use Rattle.layout.specs.declared.Role.{Role}
use Rattle.layout.specs.Layout.{capacity, layout}
use Rattle.blocks.specs.Block.{zeros}
use Rattle.blocks.proofs.Laws.Grid.{Grid}
use Rattle.blocks.proofs.Laws.Rows.{sum-zero}
use Rattle.blocks.proofs.Laws.Xor.{get_or-zeros}
use Rattle.state.specs.declared.types.Record.{Record}
use Rattle.state.specs.Good.{geometry, GoodRecord}
use Rattle.state.specs.Update.{formatted}
use Rattle.calls.specs.Call.{format, on, done}
use Rattle.calls.specs.Health.{absent}
use Rattle.calls.specs.Images.{disks_of, size, Store, stored, zero_disks}
use Rattle.calls.specs.Table.{formable, later_rows, word}
use Rattle.calls.specs.Effect.{effect, act}
use Rattle.calls.proofs.Laws.Column.{Mask, Fits, Agree, Even, Holds, Stored}
use Rattle.calls.proofs.Laws.Stores.{Within, length-stored, cell-stored, stored_last, recorded-last, column-zero, within-zero}
use Rattle.calls.proofs.Laws.Lists.{blank-blocks, bytes-blank, whole-blank}
use Rattle.calls.proofs.Laws.Holding.{cell_in, Leaves}
use Rattle.calls.proofs.Laws.Reasons.{form-facts}
use Rattle.calls.proofs.Laws.Passed as passed

-- ---- on one byte of every place

fits-zero : (c : ℕ) (o : Role) → Fits (zeros c) o 0
fits-zero c (Data b) = sym (get_or-zeros c b)
fits-zero c Parity = tt
fits-zero c Blank = refl

stored-zero : (N T : ℕ) (own : ℕ → ℕ → Role) (a : Mask) (I : Grid) (c : ℕ) → ((S d : ℕ) → S < T → d < N → I S d ≡ 0) → Stored N T own a I (zeros c)
unfolding Agree Even Holds
stored-zero N T own a I c z =
    record { grid = λ S d. 0; agree = λ S d lS ld u. z S d lS ld; even = λ S lS. sum-zero N (λ d. 0) (λ d ld. refl); holds = λ S d lS ld. fits-zero c (own S d) }

-- ---- on the images

module _ (n B T : ℕ) where
  abbrev r : Record
  r = formatted n B T

  pub limits : formable n B T ≡ true → GoodRecord r
  limits f =
      let (lo, hi, bl, bh, tl, th) = form-facts n B T f in
      record {
        array =
            record {
              disks = record { n_low = lo; n_high = hi; m_high = omega arith };
              stripes_low = tl;
              stripes_high = th;
              moves = omega arith;
            };
        block_low = bl;
        block_high = bh;
        health = tt;
      }

  empty : T * (n - 1) ≡ capacity (geometry r)
  unfolding capacity
  empty = omega arith

  module _ (img room : List ℕ) (x : Record) (c k : ℕ) (z : word (later_rows (format n B T) x c (length img) k) ≡ 0) where
    pub formats : Leaves (act (on (format n B T) img room) x) done r (blank-blocks (T * (n - 1)) B)
    unfolding effect
    formats =
        let q = passed.formats x c (length img) k n B T z in
        let long : length img ≡ size r = q.long ∙ rw (add-zero n) in
        let ps : List Store = zero_disks B T 0 n in
        let w : Within (disks_of r) B T ps = within-zero B T 0 (disks_of r) n (omega arith) in
        record {
          answer = refl;
          state = recorded-last ps r x;
          holding =
              record {
                limits = limits q.fits;
                long = rw (stored_last B T ps r img) (length-stored B T ps img ∙ long);
                count = length-replicate (T * (n - 1)) (zeros B) ∙ empty;
                whole = λ b h. whole-blank (T * (n - 1)) B b (rw (length-replicate (T * (n - 1)) (zeros B)) at h);
                stored = λ nl j lj.
                    rw (bytes-blank (T * (n - 1)) B j, stored_last B T ps r img)
                    (stored-zero (disks_of r) T (layout (geometry r)).owner (absent r.health) (cell_in r (stored B T ps img) j) (T * (n - 1))
                    (λ S d lS ld. cell-stored B T (disks_of r) ps img w long j S d lj lS ∙ column-zero B T 0 j n (cell_in r img j) S d lS (omega arith) (omega arith)));
              };
        }
