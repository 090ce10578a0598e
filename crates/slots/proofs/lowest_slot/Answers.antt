-- `slots::lowest_slot`: whatever the test tells, no slot before the loop's breaks the limit.
use mathlib.Core.Path.{refl, sym, ◌∙◌}
use Rattle.slots.proofs.Steps.{slot-breaks, slot_keeps, no_slot_left}
use Rattle.slots.proofs.lowest_slot.Goals as goal

pub loop-slot-init : goal.loop-slot-init
loop-slot-init g c test said = refl

pub returns-then-breaks : goal.returns-then-breaks
returns-then-breaks g c test said =
    let below = c.loop-slot-test.true in
    let told_so = sym (said _ _ below c.breaks.ensures) ∙ c.if-breaks.true in
    sym (c.loop-slot.invariant test said ∙ slot-breaks test 20 below told_so)

pub loop-slot-preserved : goal.loop-slot-preserved
loop-slot-preserved g c test said =
    let below = c.loop-slot-test.true in
    c.loop-slot.invariant test said ∙ slot_keeps test 20 below (sym (said _ _ below c.breaks.ensures) ∙ c.if-breaks.false)

pub returns : goal.returns
returns g c test said = sym (c.loop-slot.invariant test said ∙ no_slot_left test _ 20 c.loop-slot-test.false)
