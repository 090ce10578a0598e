-- `sine::in_domain`: its test is that of the definition.
use mathlib.Core.Path.{ap}
use mathlib.Core.Bool.{false}
use lib.IntN.{pos}
use lib.Ieee.{Float, fin, le, of_bits}
use Rattle.sine.proofs.in_domain.Goals as goal

pub returns : goal.returns
unfolding of_bits
returns c = ap (λ (x : Float). le x (fin false 1 (pos 16))) c.abs.ensures
