-- Which version goes with which record, in bare numbers. Whoever changes the record, or a signature of include/pbm.h, raises the number
-- here, in `version` and in the header; tests/tests/c_interface.rs holds the number to the header's declarations.
-- The statement is `Versioned`; `versioned` of proofs/Theorem.antt proves it.
use Rattle.std.specs.Prelude.{◌≡◌}
use Rattle.state.specs.Bytes.{record_length}
use Rattle.pbm.specs.Version.{version}

pub record Versioned : Type 0 where
  pub number_is : version ≡ 1
  pub record_is : record_length ≡ 20
