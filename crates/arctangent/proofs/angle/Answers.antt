-- `arctangent::angle` meets its contract.
use mathlib.Core.Path.{◌≡◌, ap, ◌∙◌, subst}
use Prim.Native.Nat.{ℕ, ◌*◌}
use native.Mathlib.Omega.{arith}
use lib.IntN.{pos}
use Rattle.arctangent.specs.Arctangent as Spec
use Rattle.arctangent.proofs.Angles.{Angle, angle_of}
use Rattle.arctangent.proofs.angle.Goals as goal
use Rattle.arctangent.proofs.angle.Goals.{After-halved-quarter, After-series_left}

-- t halved twice
twice : (c : After-halved-quarter) → c.halved-quarter.result ≡ Spec.halved (Spec.halved c.before.before.args.t)
twice c = c.halved-quarter.ensures ∙ ap Spec.halved c.before.halved.ensures

found : (c : After-series_left) → Angle c.before.before.before.args.t (4 * c.series_left.result)
found c =
    angle_of c.before.before.before.args.t c.series_left.result c.before.before.before.requires
    (subst (λ (h : ℕ). Spec.series h 7 1 h ≡ pos c.series_left.result) (twice c.before) c.series_left.ensures)

pub overflow_mul-result : goal.overflow_mul-result
overflow_mul-result c = record { fits = omega (arith, (found c).under) }

pub returns : goal.returns
returns c = (found c).is
