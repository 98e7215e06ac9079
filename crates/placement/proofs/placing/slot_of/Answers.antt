-- `slot_of` meets its contract. Assumes nothing.
use native.Mathlib.Omega.{arith}
use Rattle.layout.proofs.Laws.Layout.{open-room, in-new, slot-old, slot-new}
use Rattle.placement.proofs.placing.slot_of.Goals as goal

pub returns-then-b-old : goal.returns-then-b-old
returns-then-b-old c =
    slot-old _ c.requires.0 _ c.requires.1 _ c.old_blocks-old.ensures c.if-b-old.true _ c.old_slot.ensures

pub overflow_cast-b-2 : goal.overflow_cast-b-2
overflow_cast-b-2 c =
    omega (arith, c.if-b-old.false, c.old_blocks-old.ensures, in-new _ c.requires.0 _ c.requires.1 (omega (arith, c.if-b-old.false, c.old_blocks-old.ensures)), open-room _ c.requires.0)

pub new_slot-requires : goal.new_slot-requires
new_slot-requires c =
    (c.requires.0, omega (arith, c.if-b-old.false, c.old_blocks-old.ensures, in-new _ c.requires.0 _ c.requires.1 (omega (arith, c.if-b-old.false, c.old_blocks-old.ensures))))

pub returns : goal.returns
returns c =
    slot-new _ c.requires.0 _ c.requires.1 _ c.old_blocks-old.ensures c.if-b-old.false _ c.new_slot.ensures
