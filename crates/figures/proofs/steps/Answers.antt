-- `figures::steps` meets its contract: the steps so far, and those that are left to go. Assumes nothing.
use Prim.Native.Nat.{◌+◌, ◌-◌}
use mathlib.Core.Path.{◌≡◌, sym, ◌∙◌}
use native.Mathlib.Omega.{arith}
use Rattle.dial.specs.Scale.{peak_of}
use Rattle.figures.specs.Figures.{in_beam, steps_of}
use Rattle.figures.proofs.Laws.{row_goes_on, row_ends, row-none}
use Rattle.figures.proofs.steps.Goals as goal
use Rattle.figures.proofs.steps.Goals.{After-is_near}

pub loop-n-init : goal.loop-n-init
unfolding steps_of peak_of
loop-n-init c = (rw c.requires.0 (omega arith), omega arith, rw c.requires.0)

-- the test is that of the beam
tested : (c : After-is_near) → in_beam c.before.before.before.before.before.args.numbers.now c.before.before.before.loop-n.v ≡ c.is_near.result
unfolding in_beam
tested c = rw (← c.before.before.before.loop-n.invariant.2) (sym c.is_near.ensures)

pub returns-then-not-is_near : goal.returns-then-not-is_near
returns-then-not-is_near c =
    let loop = c.loop-n in
    let a = c.args in
    let out = tested (goal.at.returns-then-not-is_near c).After-is_near ∙ c.if-not-is_near.true in
    (omega (arith, loop.invariant.0, row_ends a.numbers.now a.turn loop.v (359 - loop.n) out), omega arith)

pub loop-n-preserved : goal.loop-n-preserved
loop-n-preserved c =
    let loop = c.loop-n in
    let a = c.args in
    let n = loop.n in
    let left : 359 - n - 1 ≡ 359 - (n + 1) = omega arith in
    let more = rw left at (row_goes_on a.numbers.now a.turn loop.v (359 - n) (omega arith) (tested (goal.at.loop-n-preserved c).After-is_near ∙ c.if-not-is_near.false)) in
    (omega (arith, loop.invariant.0, more), omega arith, loop.invariant.2)

pub returns : goal.returns
returns c =
    let loop = c.loop-n in
    let a = c.args in
    let e : 359 - loop.n ≡ 0 = omega arith in
    (omega (arith, loop.invariant.0, row-none a.numbers.now a.turn loop.v (359 - loop.n) e), omega arith)
