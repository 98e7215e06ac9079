-- Which signatures, and which record, an archive has: `PBM_VERSION` of include/pbm.h.
use Rattle.std.specs.Prelude.{ℕ}

abbrev pub version : ℕ
version = 1
