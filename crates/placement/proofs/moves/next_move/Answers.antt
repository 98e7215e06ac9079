-- `next_move` meets its contract. Assumes nothing.
use native.Mathlib.Omega.{arith}
use Rattle.layout.specs.Limits.{Disks}
use Rattle.layout.proofs.Laws.Counting.{Held, held, next-lag, next-to, next-zone}
use Rattle.placement.proofs.moves.next_move.Goals as goal
use Rattle.placement.proofs.moves.next_move.Goals.{Start}

-- the cursor at entry
given : (c : Start) → Held c.args.n c.args.m c.args.c
given c = held _ _ c.requires.0 c.requires.1 _ c.requires.3 c.requires.2

alone : (c : Start) → Disks c.args.n 0
alone c = record { n_low = c.requires.0.n_low; n_high = c.requires.0.n_high; m_high = omega arith }

pub overflow_add-i : goal.overflow_add-i
overflow_add-i c = omega (arith, given (goal.at.overflow_add-i c).Start)

pub overflow_sub-result : goal.overflow_sub-result
overflow_sub-result c = (given (goal.at.overflow_sub-result c).Start).stripe-low

pub two_down-requires : goal.two_down-requires
two_down-requires c = (alone (goal.at.two_down-requires c).Start, (given (goal.at.two_down-requires c).Start).from)

pub returns-then-i-n : goal.returns-then-i-n
returns-then-i-n c =
    next-lag _ _ c.requires.0 c.requires.1 _ c.requires.3 c.if-i-n.true _ c.two_down.ensures

pub overflow_add-p : goal.overflow_add-p
overflow_add-p c = omega (arith, given (goal.at.overflow_add-p c).Start)

pub overflow_add-result : goal.overflow_add-result
overflow_add-result c = omega (arith, given (goal.at.overflow_add-result c).Start)

pub returns-then-p-n : goal.returns-then-p-n
returns-then-p-n c =
    next-to _ _ c.requires.0 c.requires.1 _ c.requires.3 c.if-i-n.false _ c.one_up-base.ensures c.if-p-n.true

pub overflow_add-result-2 : goal.overflow_add-result-2
overflow_add-result-2 c = omega (arith, given (goal.at.overflow_add-result-2 c).Start)

pub returns : goal.returns
returns c =
    next-zone _ _ c.requires.0 c.requires.1 _ c.requires.3 c.if-i-n.false _ c.one_up-base.ensures c.if-p-n.false
