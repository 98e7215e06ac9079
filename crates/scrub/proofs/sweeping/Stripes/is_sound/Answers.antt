-- `is_sound` meets its contract. Assumes nothing.
use native.Mathlib.Omega.{arith}
use Rattle.layout.proofs.Laws.Opening.{open-le}
use Rattle.state.specs.Good.{geometry}
use Rattle.scrub.proofs.Laws.Sweeping.{odd, even-full, even}
use Rattle.scrub.proofs.sweeping.Stripes.is_sound.Goals as goal

pub overflow_add-begun : goal.overflow_add-begun
overflow_add-begun c =
    let x = c.args.self.now in
    let w = x.array.good.array in
    omega (arith, x.counted, c.disks_of.ensures.count, open-le (geometry x.array.rec) w, w.stripes_high, w.disks.n_high, w.disks.m_high)

pub returns-then-s-self : goal.returns-then-s-self
returns-then-s-self c =
    let x = c.args.self.now in
    let n = c.summed_disks.ensures.count in
    record {
      answer = even-full x c.args.s c.requires.0 c.disks_of.ensures.count n c.sums_to_zero.ensures.answer c.if-sums_to_zero.true c.if-s-self.true;
    }

pub returns-then-s-begun : goal.returns-then-s-begun
returns-then-s-begun c =
    let x = c.args.self.now in
    let n = c.summed_disks.ensures.count in
    record {
      answer = even x c.args.s c.requires.0 c.disks_of.ensures.count n c.sums_to_zero.ensures.answer c.if-sums_to_zero.true c.blanks_are_zero.ensures.answer;
    }

pub returns-else-s-begun : goal.returns-else-s-begun
returns-else-s-begun c =
    let x = c.args.self.now in
    let n = c.summed_disks.ensures.count in
    record {
      answer = even x c.args.s c.requires.0 c.disks_of.ensures.count n c.sums_to_zero.ensures.answer c.if-sums_to_zero.true c.new_are_zero.ensures.answer;
    }

pub returns-else-sums_to_zero : goal.returns-else-sums_to_zero
returns-else-sums_to_zero c =
    let x = c.args.self.now in
    let n = c.summed_disks.ensures.count in
    record { answer = odd x c.args.s c.requires.0 c.disks_of.ensures.count n c.sums_to_zero.ensures.answer c.if-sums_to_zero.false }
