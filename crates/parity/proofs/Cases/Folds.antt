-- A write with its disk out, by computation. Assumes nothing.
use mathlib.Core.Path.{refl}
use Rattle.parity.specs.Fold.{counted}
use Rattle.parity.specs.Cases.Folds.{Folds}

pub folds : Folds
unfolding counted
folds = record { summed = refl; parity = refl; first = refl; second = refl; whole = refl }
