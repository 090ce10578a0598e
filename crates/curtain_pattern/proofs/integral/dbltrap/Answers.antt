-- `curtain_pattern::integral::dbltrap` meets its contract.
use mathlib.Core.Path.{◌≡◌, refl, sym, ◌∙◌}
use native.Mathlib.Numerals.{add-one}
use native.Mathlib.Omega.{arith}
use Rattle.curtain_pattern.proofs.ReadingCount.{read_is, strip-readings, tint-readings}
use Rattle.curtain_pattern.specs.Integral.{t_after, ◌⊞◌}
use Rattle.curtain_pattern.specs.Integral as Integral
use Rattle.curtain_pattern.proofs.integral.dbltrap.Goals as goal
use Rattle.curtain_pattern.proofs.integral.dbltrap.Goals.{After-strip-s}

pub loop-ip-init : goal.loop-ip-init
unfolding t_after Integral.tint
loop-ip-init c = (refl, refl, refl)

-- what an elevation has counted
counted : (c : After-strip-s) → c.strip-s.result.readings ≡ 181
counted c = rw c.strip-s.ensures (strip-readings _ _ _)

pub overflow_add-readings : goal.overflow_add-readings
overflow_add-readings c = omega (arith, counted (goal.at.overflow_add-readings c).After-strip-s)

pub loop-ip-preserved : goal.loop-ip-preserved
unfolding t_after Integral.tint ◌⊞◌
loop-ip-preserved c =
    let s = c in
    let inv = s.loop-ip.invariant in
    (rw (add-one, s.strip-s.ensures, inv.0, inv.2), omega (arith, counted (goal.at.loop-ip-preserved c).After-strip-s), rw (add-one, inv.2))

pub returns : goal.returns
returns c =
    let loop = c.loop-ip in
    let ant = c.args.ant in
    let e : loop.ip ≡ 91 = omega arith in
    read_is (Integral.dbltrap ant) (rw e at loop.invariant.0) (rw e at loop.invariant.1 ∙ sym (tint-readings ant 91))
