-- `slots::lowest_broken`: whatever the test tells, no number before the loop's is broken.
use mathlib.Core.Path.{refl, sym, ◌∙◌}
use native.Mathlib.Omega.{arith}
use Rattle.slots.specs.Told.{told}
use Rattle.slots.proofs.Steps.{no_number_left, told-here, next-number, number-at}
use Rattle.slots.proofs.lowest_broken.Goals as goal

pub loop-refusal-init : goal.loop-refusal-init
unfolding told
loop-refusal-init g c test said = refl

pub returns-in-Some : goal.returns-in-Some
returns-in-Some g c test said =
    let h = c.loop-refusal-test.true in
    let found = c.in-Some.ensures test (said _) in
    told-here test (number-at _ h) h (c.loop-refusal.invariant test said) found

pub loop-refusal-preserved : goal.loop-refusal-preserved
loop-refusal-preserved g c test said =
    let h = c.loop-refusal-test.true in
    let none = c.in_default.ensures test (said _) in
    next-number test (number-at _ h) h (c.loop-refusal.invariant test said) none

pub returns : goal.returns
returns g c test said = sym (c.loop-refusal.invariant test said ∙ no_number_left test 8 (omega (arith, c.loop-refusal-test.false)))
