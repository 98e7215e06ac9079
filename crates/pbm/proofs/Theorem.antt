-- The version: `versioned`. Assumes nothing.
use mathlib.Core.Path.{refl}
use Rattle.pbm.specs.Theorem.{Versioned}

pub versioned : Versioned
versioned = record { number_is = refl; record_is = refl }
