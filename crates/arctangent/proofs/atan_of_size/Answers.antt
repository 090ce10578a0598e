-- `arctangent::atan_of_size` meets its contract: a up to 1 and 1 / a above are fractions, and the angle is at most 2 ^ 30 (`Angles.antt`).
use mathlib.Core.Path.{subst, ◌≡◌, sym, ap, ◌∙◌}
use mathlib.Core.Bool.{Bool, true, false, cond}
use Prim.Native.Nat.{◌-◌, ◌^◌, ◌≤◌}
use native.Mathlib.Omega.{arith}
use lib.Dec.{T}
use lib.IntN.{ℤ, ◌-ℤ◌}
use lib.Ieee.{Float, binary32, of_bits, lt, div}
use Rattle.arctangent.specs.Arctangent as Spec
use Rattle.arctangent.specs.Arctangent.{one, angle, atan_of_size}
use Rattle.numeric.specs.Rounding.{F, truncated}
use Rattle.numeric.specs.Inner.{unsigned}
use Rattle.arctangent.proofs.Angles.{angle_law, itself_at_most, inverse_at_most}
use Rattle.numeric.proofs.Comparisons.{AtMost}
use Rattle.numeric.proofs.rounding.Laws.{F-unsigned}
use Rattle.numeric.proofs.Integers.{minus}
use Rattle.numeric.proofs.rounding.Truncation.{truncated-le}
use Rattle.arctangent.proofs.atan_of_size.Goals as goal
use Rattle.arctangent.proofs.atan_of_size.Goals.{After-angle, After-angle-else-a, After-truncated, After-truncated-else-a, Else-a, Then-a}

-- the two results of `atan_of_size`
above : (a : Float) → lt one a ≡ true → atan_of_size a ≡ F (Spec.right -ℤ angle (truncated 30 (div binary32 one a)))
unfolding atan_of_size
above a e = ap (λ (b : Bool). cond b (F (Spec.right -ℤ angle (truncated 30 (div binary32 one a)))) (F (angle (truncated 30 a)))) e

below : (a : Float) → lt one a ≡ false → atan_of_size a ≡ F (angle (truncated 30 a))
unfolding atan_of_size
below a e = ap (λ (b : Bool). cond b (F (Spec.right -ℤ angle (truncated 30 (div binary32 one a)))) (F (angle (truncated 30 a)))) e

-- above 1
inverse : (c : Then-a) → AtMost 0 (div binary32 one c.before.args.a)
unfolding of_bits
inverse c = inverse_at_most c.before.args.a c.before.requires c.if-a.true

pub truncated-requires : goal.truncated-requires
unfolding of_bits
truncated-requires c = ((inverse c).0, omega (arith, truncated-le 0 30 (div binary32 one c.before.args.a) (inverse c)), omega arith)

inverse-le : (c : After-truncated) → c.truncated.result ≤ 2 ^ 30
unfolding of_bits
inverse-le c = rw c.truncated.ensures (truncated-le 0 30 (div binary32 one c.before.before.args.a) (inverse c.before))

pub angle-requires : goal.angle-requires
angle-requires c = inverse-le c

angle-le : (c : After-angle) → c.angle.result ≤ 2 ^ 30
angle-le c = angle_law c.before.truncated.result c.angle.result (inverse-le c.before) c.angle.ensures

pub overflow_sub-angle : goal.overflow_sub-angle
overflow_sub-angle c = omega (arith, angle-le c)

pub returns-then-a : goal.returns-then-a
unfolding of_bits
returns-then-a c =
    let a = c.before.before.before.before.args.a in
    let r = c.before.angle.result in (
      c.from_units.ensures
          ∙ ap F (sym (minus 1686629713 r (omega (arith, angle-le c.before))) ∙ ap (λ (z : ℤ). Spec.right -ℤ z) (sym c.before.angle.ensures ∙ ap angle c.before.before.truncated.ensures))
          ∙ sym (above a c.before.before.before.if-a.true),
      subst (λ (z : Float). T (unsigned z)) (sym c.from_units.ensures) (F-unsigned (1686629713 - c.before.angle.result)),
    )

-- up to 1
itself : (c : Else-a) → AtMost 0 c.before.args.a
unfolding of_bits
itself c = itself_at_most c.before.args.a c.before.requires c.if-a.false

pub truncated-requires-else-a : goal.truncated-requires-else-a
truncated-requires-else-a c = ((itself c).0, omega (arith, truncated-le 0 30 c.before.args.a (itself c)), omega arith)

itself-le : (c : After-truncated-else-a) → c.truncated-else-a.result ≤ 2 ^ 30
itself-le c = rw c.truncated-else-a.ensures (truncated-le 0 30 c.before.before.args.a (itself c.before))

pub angle-requires-else-a : goal.angle-requires-else-a
angle-requires-else-a c = itself-le c

angle2-le : (c : After-angle-else-a) → c.angle-else-a.result ≤ 2 ^ 30
angle2-le c = angle_law c.before.truncated-else-a.result c.angle-else-a.result (itself-le c.before) c.angle-else-a.ensures

pub from_units-requires-else-a : goal.from_units-requires-else-a
from_units-requires-else-a c = omega (arith, angle2-le c)

pub returns-else-a : goal.returns-else-a
unfolding of_bits
returns-else-a c =
    let a = c.before.before.before.before.args.a in (
      c.from_units-else-a.ensures
          ∙ ap F (sym c.before.angle-else-a.ensures ∙ ap angle c.before.before.truncated-else-a.ensures)
          ∙ sym (below a c.before.before.before.if-a.false),
      subst (λ (z : Float). T (unsigned z)) (sym c.from_units-else-a.ensures) (F-unsigned c.before.angle-else-a.result),
    )
