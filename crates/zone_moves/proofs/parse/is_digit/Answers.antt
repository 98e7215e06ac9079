-- `is_digit` meets its contract: each way out is one outcome of the tests. Assumes nothing.
use borrow.Author.Tests.{le-leb, lt-leb}
use Rattle.zone_moves.specs.Request.{is_digit}
use Rattle.zone_moves.proofs.parse.is_digit.Goals as goal

pub returns-then-b-ge48 : goal.returns-then-b-ge48
unfolding is_digit
returns-then-b-ge48 c = simp (le-leb 48 _ c.if-b-ge48.true)

pub returns-else-b-ge48 : goal.returns-else-b-ge48
unfolding is_digit
returns-else-b-ge48 c = simp (lt-leb 48 _ c.if-b-ge48.false)
