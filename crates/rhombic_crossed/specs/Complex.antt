-- Complex numbers, in the order of operations of `gainrel`. Definitions only.
use Rattle.std.specs.Prelude.{Float}
use Rattle.floats.specs.Ops.{◌⊕◌, ◌⊖◌, ◌⊗◌}
use Rattle.rhombic_crossed.specs.declared.complex.Complex.{Complex}

unfoldable pub times : Complex → Complex → Complex
times p q = record { re = p.re ⊗ q.re ⊖ p.im ⊗ q.im; im = p.re ⊗ q.im ⊕ p.im ⊗ q.re }

unfoldable pub plus : Complex → Complex → Complex
plus p q = record { re = p.re ⊕ q.re; im = p.im ⊕ q.im }

unfoldable pub scaled : Float → Complex → Complex
scaled k p = record { re = k ⊗ p.re; im = k ⊗ p.im }

unfoldable pub power_of : Complex → Float
power_of p = p.re ⊗ p.re ⊕ p.im ⊗ p.im
