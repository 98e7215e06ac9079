-- `in_limits` meets its contract: each way out is one outcome of the tests. Assumes nothing.
use borrow.Author.Tests.{le-leb, lt-leb}
use Rattle.zone_moves.specs.Request.{in_limits}
use Rattle.zone_moves.proofs.parse.in_limits.Goals as goal

pub returns-then-n-lt3 : goal.returns-then-n-lt3
unfolding in_limits
returns-then-n-lt3 c = simp (lt-leb 3 _ c.if-n-lt3.true)

pub returns-then-n-gt16 : goal.returns-then-n-gt16
unfolding in_limits
returns-then-n-gt16 c = simp (le-leb 3 _ c.if-n-lt3.false, lt-leb _ 16 c.if-n-gt16.true)

pub returns-then-m-lt1 : goal.returns-then-m-lt1
unfolding in_limits
returns-then-m-lt1 c = simp (le-leb 3 _ c.if-n-lt3.false, le-leb _ 16 c.if-n-gt16.false, lt-leb 1 _ c.if-m-lt1.true)

pub returns-then-m-gt16 : goal.returns-then-m-gt16
unfolding in_limits
returns-then-m-gt16 c = simp (le-leb 3 _ c.if-n-lt3.false, le-leb _ 16 c.if-n-gt16.false, le-leb 1 _ c.if-m-lt1.false, lt-leb _ 16 c.if-m-gt16.true)

pub returns : goal.returns
unfolding in_limits
returns c = simp (le-leb 3 _ c.if-n-lt3.false, le-leb _ 16 c.if-n-gt16.false, le-leb 1 _ c.if-m-lt1.false, le-leb _ 16 c.if-m-gt16.false)
