-- The code's steps, proved equal: `f2` from what it takes of the elevation alone, which the integral has once for each sweep of the azimuth (`f2_in_steps`). Definitions only.
use Rattle.std.specs.Prelude.{Float}
use Rattle.sine.specs.Sine.{sine, cosine}
use Rattle.floats.specs.Ops.{◌⊗◌}
use Rattle.curtain_pattern.specs.Pattern.{ef_of, bay_power, stack_sines, stack_power}
use Rattle.curtain_pattern.specs.declared.pattern.Curtain.{Curtain}
use Rattle.curtain_pattern.specs.declared.pattern.Elevation.{Elevation}

unfoldable pub elevation_of : Curtain → Float → Elevation
elevation_of ant theta =
    record { ctheta = cosine theta; stheta = sine theta; fz = stack_sines ant (sine theta) ant.nostak }

unfoldable pub f2_at : Curtain → Elevation → Float → Float
f2_at ant e phi =
    let cphi = cosine phi in
    let sphi = sine phi in
    let cpsi = e.ctheta ⊗ sphi in
    let ef = ef_of ant.eil ant.ceil cpsi in
    let fx = sine (ant.xr ⊗ e.ctheta ⊗ cphi) in
    ef ⊗ ef ⊗ fx ⊗ fx ⊗ bay_power ant cpsi ⊗ stack_power e.fz e.stheta sphi cphi
