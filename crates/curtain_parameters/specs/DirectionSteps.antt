-- The code's steps, proved equal: `f2` at one direction, straight from the parameters, without tables (`bays_in_steps`, `stacks_in_steps`). Definitions only.
use Rattle.std.specs.Prelude.{ℕ, zero, suc, cond, eqb, ℤ, Float}
use Rattle.sine.specs.Sine.{sine, cosine}
use Rattle.floats.specs.Ops.{◌⊕◌, ◌⊗◌, count, +0}
use Rattle.floats.specs.Literals.{one}
use Rattle.curtain_parameters.specs.Excitation.{stkrat, bayphs}

-- the place of bay i; the first is at 0
unfoldable pub place_of : Float → ℕ → Float
place_of xb i = cond (eqb i 0) +0 (count i ⊗ xb)

unfoldable pub arg_of : Float → ℤ → Float → Float → ℕ → Float
arg_of odrat islew xb cpsi i = place_of xb i ⊗ cpsi ⊕ odrat ⊗ bayphs islew i

unfoldable pub bay_cosines_of : Float → ℤ → Float → Float → ℕ → Float
bay_cosines_of odrat islew xb cpsi zero = +0
bay_cosines_of odrat islew xb cpsi (suc i) = bay_cosines_of odrat islew xb cpsi i ⊕ one ⊗ cosine (arg_of odrat islew xb cpsi i)

unfoldable pub bay_sines_of : Float → ℤ → Float → Float → ℕ → Float
bay_sines_of odrat islew xb cpsi zero = +0
bay_sines_of odrat islew xb cpsi (suc i) = bay_sines_of odrat islew xb cpsi i ⊕ one ⊗ sine (arg_of odrat islew xb cpsi i)

unfoldable pub bay_power_of : Float → ℤ → Float → Float → ℕ → Float
bay_power_of odrat islew xb cpsi nbs =
    let fyr = bay_cosines_of odrat islew xb cpsi nbs in
    let fyi = bay_sines_of odrat islew xb cpsi nbs in
    fyr ⊗ fyr ⊕ fyi ⊗ fyi

unfoldable pub stack_sines_of : ℕ → Float → Float → Float → ℕ → Float
stack_sines_of mode xs xh stheta zero = +0
stack_sines_of mode xs xh stheta (suc i) =
    stack_sines_of mode xs xh stheta i ⊕ stkrat mode i ⊗ sine ((xs ⊗ count i ⊕ xh) ⊗ stheta)
