-- Where a view begins, in bare numbers, as the contract of `view` has it. (What it shows is `Does.view_answer` of crate `calls`.)
-- The statement is `ViewBegins`; `view-begins` of proofs/Theorem.antt proves it.
use Rattle.std.specs.Prelude.{ℕ, suc, ◌+◌, ◌*◌, ◌≡◌, true, false}
use Rattle.layout.specs.Layout.{layout}
use Rattle.state.specs.declared.types.Record.{Record}
use Rattle.state.specs.Good.{geometry}
use Rattle.calls.specs.Health.{absent}
use Rattle.calls.specs.Effect.{view_of}
use Rattle.access.specs.Viewing.{begins}

-- img and scr are where images and scratch begin: what memory it is, and the byte in it
pub record ViewBegins : Type 0 where
  -- "as a part of the images": with block S of disk d
  pub part : (r : Record) (b : ℕ) (img scr : ℕ × ℕ) → let q = ((layout (geometry r)).place b).block in
      absent r.health q.stripe q.disk ≡ false
      → begins 0 (view_of r b) img scr ≡ (img.0, (q.disk * r.stripes + q.stripe) * r.block + img.1)
  -- "or, if its disk is out, as the lent scratch"
  pub scratch : (r : Record) (b : ℕ) (img scr : ℕ × ℕ) → let q = ((layout (geometry r)).place b).block in
      absent r.health q.stripe q.disk ≡ true → begins 0 (view_of r b) img scr ≡ scr
  -- the empty view of a refused call is one of the images
  pub refused : (r : Record) (b k : ℕ) (img scr : ℕ × ℕ) → begins (suc k) (view_of r b) img scr ≡ img
