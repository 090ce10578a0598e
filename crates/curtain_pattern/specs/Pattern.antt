-- The source's `f2`: the curtain's power pattern at one direction. Definitions only.
use Rattle.std.specs.Prelude.{ℕ, zero, suc, ◌≤◌, cond, get_or, Float}
use Rattle.std.specs.Float.{nan}
use Rattle.std.specs.Float.Ieee.{le}
use Rattle.sine.specs.Sine.{sine, cosine}
use Rattle.floats.specs.Ops.{◌⊕◌, ◌⊖◌, ◌⊗◌, ◌⊘◌, +0}
use Rattle.floats.specs.Literals.{one}
use Rattle.curtain_pattern.specs.Literals.{tiny}
use Rattle.curtain_pattern.specs.declared.pattern.Curtain.{Curtain}

-- a curtain whose counts its tables hold
abbrev pub Counted : Curtain → Type 0
Counted ant = (ant.nbs ≤ 14) × (ant.nostak ≤ 8)

-- ef, one dipole: spsi2 is 1.0e-12 at the least
unfoldable pub ef_of : Float → Float → Float → Float
ef_of eil ceil cpsi =
    let s = one ⊖ cpsi ⊗ cpsi in
    let spsi2 = cond (le s tiny) tiny s in
    (cosine (eil ⊗ cpsi) ⊖ ceil) ⊘ spsi2

-- the phase of bay i
unfoldable pub arg : Curtain → Float → ℕ → Float
arg ant cpsi i = get_or ant.y i nan ⊗ cpsi ⊕ get_or ant.ps i nan

-- fyr and fyi: the sums over the first n bays
unfoldable pub bay_cosines : Curtain → Float → ℕ → Float
bay_cosines ant cpsi zero = +0
bay_cosines ant cpsi (suc i) = bay_cosines ant cpsi i ⊕ get_or ant.r i nan ⊗ cosine (arg ant cpsi i)

unfoldable pub bay_sines : Curtain → Float → ℕ → Float
bay_sines ant cpsi zero = +0
bay_sines ant cpsi (suc i) = bay_sines ant cpsi i ⊕ get_or ant.r i nan ⊗ sine (arg ant cpsi i)

unfoldable pub bay_power : Curtain → Float → Float
bay_power ant cpsi =
    let fyr = bay_cosines ant cpsi ant.nbs in
    let fyi = bay_sines ant cpsi ant.nbs in
    fyr ⊗ fyr ⊕ fyi ⊗ fyi

-- fzphr at first: the sum over the first n stacks
unfoldable pub stack_sines : Curtain → Float → ℕ → Float
stack_sines ant stheta zero = +0
stack_sines ant stheta (suc i) = stack_sines ant stheta i ⊕ get_or ant.c i nan ⊗ sine (get_or ant.z i nan ⊗ stheta)

-- cof is formed first: fz times (sine times sine)
unfoldable pub stack_power : Float → Float → Float → Float → Float
stack_power fz stheta sphi cphi =
    let cof = stheta ⊗ sphi in
    let fzthr = fz ⊗ cof in
    let fzphr = fz ⊗ cphi in
    fzthr ⊗ fzthr ⊕ fzphr ⊗ fzphr

-- `f2`
unfoldable pub f2 : Curtain → Float → Float → Float
f2 ant theta phi =
    let cphi = cosine phi in
    let sphi = sine phi in
    let ctheta = cosine theta in
    let stheta = sine theta in
    let cpsi = ctheta ⊗ sphi in
    let ef = ef_of ant.eil ant.ceil cpsi in
    let fx = sine (ant.xr ⊗ ctheta ⊗ cphi) in
    let fz = stack_sines ant stheta ant.nostak in
    ef ⊗ ef ⊗ fx ⊗ fx ⊗ bay_power ant cpsi ⊗ stack_power fz stheta sphi cphi
