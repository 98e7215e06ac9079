-- `role_of` meets its contract. Assumes nothing.
use borrow.Author.Tests.{lt-ltb, le-ltb, eq-eqb, ne_eqb}
use Rattle.layout.specs.Coded.{role_of}
use Rattle.placement.proofs.coded.role_of.Goals as goal

pub returns-then-code-lt-PARITY : goal.returns-then-code-lt-PARITY
unfolding role_of
returns-then-code-lt-PARITY c = simp (lt-ltb _ _ c.if-code-lt-PARITY.true)

pub returns-then-code-eq-PARITY : goal.returns-then-code-eq-PARITY
unfolding role_of
returns-then-code-eq-PARITY c = simp (le-ltb _ _ c.if-code-lt-PARITY.false, eq-eqb _ _ c.if-code-eq-PARITY.true)

pub returns-else-code-eq-PARITY : goal.returns-else-code-eq-PARITY
unfolding role_of
returns-else-code-eq-PARITY c = simp (le-ltb _ _ c.if-code-lt-PARITY.false, ne_eqb _ _ c.if-code-eq-PARITY.false)
