-- The cases, by computation. Assumes nothing.
use mathlib.Core.Path.{refl}
use Rattle.points.specs.Answer.{refused}
use Rattle.points.specs.Cases.Points.{Points}

pub points : Points
unfolding refused
points =
    record {
      there = refl;
      back = refl;
      edges_there = refl;
      edges_back = refl;
      one = refl;
      none = refl;
      alike = refl;
      empty = refl;
      odd = refl;
      shorter = refl;
      longer = refl;
      filled_all = refl;
      left_alone = refl;
    }
