-- `station::packed::last_byte` meets its contract. Assumes nothing.
use mathlib.Core.Path.{ap, subst}
use Prim.Native.Nat.{ℕ, ◌-◌, ◌*◌, ◌^◌, ◌<◌}
use native.Mathlib.Nat.{mul-lt-mul_of_pos_right}
use native.Mathlib.Omega.{arith}
use lib.Pow.{pow_pos}
use Rattle.station.proofs.Unpacking.{unit}
use Rattle.station.proofs.packed.last_byte.Goals as goal
use Rattle.station.proofs.packed.last_byte.Goals.{After-unit}

small : (c : After-unit) → c.before.args.carry * c.unit.result < 256
small c =
    let a = c.before.args in
    rw c.unit.ensures (subst (λ (n : ℕ). a.carry * 2 ^ (8 - a.header) < n) (unit a.header c.before.requires.1) (mul-lt-mul_of_pos_right c.before.requires.0 (pow_pos (8 - a.header))))

pub overflow_mul-result : goal.overflow_mul-result
overflow_mul-result c = omega (arith, small (goal.at.overflow_mul-result c).After-unit)

pub overflow_cast-result-2 : goal.overflow_cast-result-2
overflow_cast-result-2 c = omega (arith, small (goal.at.overflow_cast-result-2 c).After-unit)

pub returns : goal.returns
returns c = ap (λ (u : ℕ). c.args.carry * u) c.unit.ensures
