-- `curtain_pattern::integral::readings` meets its contract.
use native.Mathlib.Numerals.{add-one}
use native.Mathlib.Omega.{arith}
use Rattle.curtain_pattern.proofs.InSteps.{f2_in_steps}
use Rattle.curtain_pattern.specs.Integral.{p_after, read, ◌⊞◌}
use Rattle.curtain_pattern.specs.Integral as Integral
use Rattle.curtain_pattern.proofs.integral.readings.Goals as goal

pub loop-k-preserved : goal.loop-k-preserved
unfolding p_after Integral.readings read ◌⊞◌
loop-k-preserved c =
    let before = c.loop-k.invariant in
    (rw (add-one, c.f2_at-pint.ensures, c.elevation_at-e.ensures, f2_in_steps, before.0, before.1), rw (add-one, before.1), omega arith)
