-- Which disk counts as out in which stripe, in bare numbers, whatever the health is: every read goes by it, and so do a write's stores. And
-- what becomes of the health.
-- The statement is `AbsentIs`; `absent-is` of proofs/Absent.antt proves it.
use Rattle.std.specs.Prelude.{ℕ, ◌≤◌, ◌≡◌, true, false, ◌↔◌, ◌≢◌}
use Rattle.state.specs.declared.types.Health.TheVariants.{Whole, Out, Lost, Rebuilding}
use Rattle.state.specs.declared.types.Health.{Health}
use Rattle.calls.specs.Health.{is_lost, absent, after_out}

pub record AbsentIs : Type 0 where
  -- all disks are in
  pub whole : (S d : ℕ) → absent Whole S d ≡ false
  -- in every stripe the one that is out, and no other
  pub out : (o S d : ℕ) → (absent (Out o) S d ≡ true) ↔ (d ≡ o)
  -- "Stripes below the count use the disk as in service, others count it out": in stripe S exactly if the count is at most S; no other disk
  pub rebuilding : (o c S d : ℕ) → (absent (Rebuilding o c) S d ≡ true) ↔ ((d ≡ o) × (c ≤ S))
  -- two were out at once, and any may be
  pub lost : (S d : ℕ) → absent Lost S d ≡ true
  pub is-lost : (h : Health) → (is_lost h ≡ true) ↔ (h ≡ Lost)
  -- "whole becomes out; out with another disk becomes lost", and stays so; of a rebuild "Another disk out means lost; the same disk out
  -- means out again."
  pub after-out : (d o c : ℕ) → (after_out Whole d ≡ Out d) × (after_out (Out o) d ≡ Lost) × (after_out Lost d ≡ Lost)
      × (after_out (Rebuilding d c) d ≡ Out d) × (d ≢ o → after_out (Rebuilding o c) d ≡ Lost)
