-- `logarithm::logarithm_times` meets its contract.
use mathlib.Core.Path.{◌≡◌, sym, ap, ◌∙◌}
use mathlib.Core.Bool.{Bool, true, cond}
use Prim.Native.Nat.{◌^◌, ◌<◌}
use native.Mathlib.Omega.{arith}
use lib.Signed.{mag, nat_abs-le}
use lib.Ieee.{nan, of_bits, div}
use lib.Ieee.Positive.{positive}
use mir.Syntax.{w64}
use mir.Val.{to_z, of_z}
use mir.Facts.{to_z-of_z}
use Rattle.logarithm.specs.Logarithm.{scaled, binary_logarithm, logarithm_times}
use Rattle.numeric.specs.Rounding.{F}
use Rattle.numeric.proofs.Comparisons.{holds}
use Rattle.logarithm.proofs.BoundsAndOrder.{logarithm_lt, scaled-lt}
use Rattle.logarithm.proofs.logarithm_times.Goals as goal
use Rattle.logarithm.proofs.logarithm_times.Goals.{After-binary_logarithm, After-scaled_down, Then-is_positive}

-- on the branch where x is positive
passed : (c : Then-is_positive) → positive c.before.before.args.x ≡ true
passed c = sym c.before.is_positive.ensures ∙ c.if-is_positive.true

read-logarithm : (c : After-binary_logarithm) → to_z w64 (of_z w64 c.binary_logarithm.result) ≡ binary_logarithm c.before.before.before.args.x
read-logarithm c = to_z-of_z {w = w64} {z = c.binary_logarithm.result} (record { sfits = c.binary_logarithm.type_inv }) ∙ c.binary_logarithm.ensures

pub binary_logarithm-requires : goal.binary_logarithm-requires
binary_logarithm-requires c = holds (passed c)

bound : (c : After-binary_logarithm) → mag (binary_logarithm c.before.before.before.args.x) < 2 ^ 39
bound c =
    let s = c.before.before.before in
    logarithm_lt s.args.x (holds s.well_formed.1.0.1) (holds (passed c.before))

pub scaled_down-requires : goal.scaled_down-requires
scaled_down-requires c = (rw (read-logarithm c) (bound c), c.before.before.before.requires)

read-scaled : (c : After-scaled_down) → to_z w64 (of_z w64 c.scaled_down.result) ≡ scaled c.before.before.before.before.args.k (binary_logarithm c.before.before.before.before.args.x)
read-scaled c =
    to_z-of_z {w = w64} {z = c.scaled_down.result} (record { sfits = c.scaled_down.type_inv })
    ∙ c.scaled_down.ensures
    ∙ ap (scaled c.before.before.before.before.args.k) (read-logarithm c.before)

pub from_signed_units-requires : goal.from_signed_units-requires
from_signed_units-requires c =
    let s = c.before.before.before.before in
    rw (read-scaled c) (omega (arith, nat_abs-le (scaled s.args.k (binary_logarithm s.args.x)) (scaled-lt s.args.k (binary_logarithm s.args.x) s.requires (bound c.before))))

pub returns-then-is_positive : goal.returns-then-is_positive
unfolding logarithm_times
returns-then-is_positive c =
    let s = c.before.before.before.before.before in
    let w = F (scaled s.args.k (binary_logarithm s.args.x)) in
    c.from_signed_units.ensures ∙ ap F (read-scaled c.before) ∙ sym (ap (λ (b : Bool). cond b w nan) (passed c.before.before.before))

pub returns-else-is_positive : goal.returns-else-is_positive
unfolding logarithm_times of_bits div
returns-else-is_positive c =
    let s = c.before.before in
    sym (ap (λ (b : Bool). cond b (F (scaled s.args.k (binary_logarithm s.args.x))) nan) (sym c.before.is_positive.ensures ∙ c.if-is_positive.false))
