-- `curtain_pattern::integral::dbltrap` meets its contract.
use mathlib.Core.Path.{◌≡◌}
use Prim.Native.Nat.{◌*◌}
use Rattle.curtain_pattern.specs.Integral.{t_after}
use Rattle.curtain_pattern.specs.Integral as Integral
use Rattle.curtain_pattern.proofs.integral.dbltrap.Given as goal

abbrev pub invariant-loop-ip : goal.invariant-loop-ip
invariant-loop-ip l =
    (l.tint ≡ (Integral.tint l.ant l.ip).value) × (l.readings ≡ l.ip * 181) × (l.t ≡ t_after l.ip)
