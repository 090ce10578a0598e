-- `curtain_pattern::integral::readings` meets its contract.
use mathlib.Core.Path.{◌≡◌}
use Rattle.curtain_pattern.specs.Integral.{p_after}
use Rattle.curtain_pattern.specs.Integral as Integral
use Rattle.curtain_pattern.proofs.integral.readings.Given as goal

abbrev pub invariant-loop-k : goal.invariant-loop-k
invariant-loop-k l =
    (l.pint ≡ (Integral.readings l.ant l.t l.k).value) × (l.p ≡ p_after l.k) × (l.readings ≡ l.k)
