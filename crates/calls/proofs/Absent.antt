-- Which disk counts as out in which stripe: `absent-is`. Assumes nothing.
use mathlib.Core.Path.{refl, ◌∙◌}
use borrow.Author.Tests.{leb-true, le-leb, eqb-true, eq-eqb, ne_eqb}
use Rattle.conditions.proofs.Tests.{both, and-true}
use Rattle.calls.specs.Health.{is_lost}
use Rattle.calls.specs.Absent.{AbsentIs}
use Rattle.calls.proofs.Laws.Reasons.{exactly, is-lost}

pub absent-is : AbsentIs
absent-is =
    record {
      whole = λ S d. refl;
      out = λ o S d. (eqb-true d o, eq-eqb d o);
      rebuilding = λ o c S d. (
        (λ e. let p = both _ _ e in (eqb-true d o p.0, leb-true c S p.1)),
        λ p. and-true _ _ (eq-eqb d o p.0) ∙ le-leb c S p.1,
      );
      lost = λ S d. refl;
      is-lost = λ h. exactly (is_lost h) (is-lost h);
      after-out = λ d o c. (refl, refl, refl, rw (eq-eqb d d refl) refl, λ ne. rw (ne_eqb d o ne) refl);
    }
