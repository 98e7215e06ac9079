-- What each answer is as a number. `told` of proofs/Theorem.antt shows it.
use Rattle.std.specs.Prelude.{◌≡◌, Ok, Err}
use Rattle.packing.specs.declared.refusal.BadPoints.{BadPoints}
use Rattle.packing.specs.Number.{number_of}

pub record Told : Type 0 where
  pub done : (u : Unit) → number_of (Ok u) ≡ 0
  -- "(11, after 10 ..)"
  pub refused : (e : BadPoints) → number_of (Err e) ≡ 11
