-- Where a view begins: `view-begins`. Assumes nothing.
use mathlib.Core.Path.{refl}
use Rattle.calls.specs.Effect.{view_of}
use Rattle.access.specs.Theorem.{ViewBegins}

pub view-begins : ViewBegins
unfolding view_of
view-begins =
    record {
      part = λ r b img scr u. rw u refl;
      scratch = λ r b img scr u. rw u refl;
      refused = λ r b k img scr. refl;
    }
