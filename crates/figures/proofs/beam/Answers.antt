-- `figures::beam` meets its contract. Assumes nothing.
use Prim.Native.Nat.{◌+◌}
use mathlib.Core.Path.{◌≡◌}
use native.Mathlib.Omega.{arith}
use borrow.Author.Tests.{ne_eqb}
use Rattle.figures.specs.Figures.{beam_of}
use Rattle.figures.proofs.Laws.{beam_most}
use Rattle.figures.proofs.beam.Goals as goal

pub returns : goal.returns
unfolding beam_of
returns c =
    let right = c.steps-clockwise.ensures.0 in
    let is : c.steps-clockwise.result + 1 + c.steps.result ≡ beam_of c.args.numbers.now =
    rw (← right, ne_eqb _ _ c.if-clockwise-eq359.false, ← c.steps.ensures.0) in
    (is, omega (arith, beam_most c.args.numbers.now))
