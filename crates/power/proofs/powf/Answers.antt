-- `power::powf` meets its contract.
use mathlib.Core.Path.{◌≡◌, sym, ap, ◌∙◌}
use mathlib.Core.Bool.{Bool, true, false, ◌&&◌, cond}
use Prim.Native.Nat.{◌^◌, ◌≤◌}
use native.Mathlib.Omega.{arith}
use lib.Dec.{T}
use lib.Ieee.{Float, nan, binary32, fits, of_bits, div}
use mir.Syntax.{w64}
use mir.Val.{to_z, of_z}
use mir.Facts.{to_z-of_z}
use Rattle.logarithm.specs.Logarithm.{scaled, binary_logarithm}
use Rattle.power.specs.Power.{normal, is_exponent, antilogarithm, powf_of}
use Rattle.numeric.specs.Rounding.{truncated}
use Rattle.numeric.proofs.Comparisons.{holds, AtMost}
use Rattle.logarithm.proofs.BoundsAndOrder.{logarithm_lt}
use Rattle.power.proofs.Words.{normal-positive, logarithm_range, scaled_range, exponent-at-most}
use Rattle.numeric.proofs.rounding.Truncation.{truncated-le}
use Rattle.power.proofs.powf.Goals as goal
use Rattle.power.proofs.powf.Goals.{After-scaled_down, After-truncated, Joined-else-is_normal, Then-is_exponent, else-is_normal-via-then-is_normal+else-is_exponent, else-is_normal-via-else-is_normal}

-- where x and y are in the domain
module _ (c : Then-is_exponent) where
  abbrev x : Float
  x = c.before.before.before.before.args.x

  abbrev y : Float
  y = c.before.before.before.before.args.y

  x-normal : normal c.before.before.before.before.args.x ≡ true
  x-normal = sym c.before.before.before.is_normal.ensures ∙ c.before.before.if-is_normal.true

  y-exponent : is_exponent c.before.before.before.before.args.y ≡ true
  y-exponent = sym c.before.is_exponent.ensures ∙ c.if-is_exponent.true

  is_normal : T (normal c.before.before.before.before.args.x)
  is_normal = holds x-normal

  y-at-most : AtMost 0 c.before.before.before.before.args.y
  y-at-most = exponent-at-most c.before.before.before.before.args.y (holds y-exponent)

  factor-le : truncated 24 c.before.before.before.before.args.y ≤ 2 ^ 24
  factor-le = truncated-le 0 24 c.before.before.before.before.args.y y-at-most

  x_fits : T (fits binary32 c.before.before.before.before.args.x)
  x_fits = holds c.before.before.before.before.well_formed.0.1

pub is_normal-requires : goal.is_normal-requires
is_normal-requires c = tt

pub is_exponent-requires : goal.is_exponent-requires
is_exponent-requires c = tt

pub binary_logarithm-requires : goal.binary_logarithm-requires
binary_logarithm-requires c = normal-positive (x c) (is_normal (goal.at.binary_logarithm-requires c).Then-is_exponent)

pub truncated-requires : goal.truncated-requires
truncated-requires c = ((y-at-most (goal.at.truncated-requires c).Then-is_exponent).0, omega (arith, factor-le (goal.at.truncated-requires c).Then-is_exponent), omega arith)

read-logarithm : (c : After-truncated) → to_z w64 (of_z w64 c.before.binary_logarithm.result) ≡ binary_logarithm (x c.before.before)
read-logarithm c = to_z-of_z {w = w64} {z = c.before.binary_logarithm.result} (record { sfits = c.before.binary_logarithm.type_inv }) ∙ c.before.binary_logarithm.ensures

pub scaled_down-requires : goal.scaled_down-requires
scaled_down-requires c = let t = (goal.at.scaled_down-requires c).Then-is_exponent in (rw (read-logarithm (goal.at.scaled_down-requires c).After-truncated) (logarithm_lt (x t) (x_fits t) (normal-positive (x t) (is_normal t))), rw c.truncated.ensures (factor-le t))

read-scaled : (c : After-scaled_down) → to_z w64 (of_z w64 c.scaled_down.result) ≡ scaled (truncated 24 (y c.before.before.before)) (binary_logarithm (x c.before.before.before))
read-scaled c =
    to_z-of_z {w = w64} {z = c.scaled_down.result} (record { sfits = c.scaled_down.type_inv })
    ∙ c.scaled_down.ensures
    ∙ (λ i. scaled (c.before.truncated.ensures i) (read-logarithm c.before i))

pub antilogarithm-requires : goal.antilogarithm-requires
antilogarithm-requires c =
    let t = (goal.at.antilogarithm-requires c).Then-is_exponent in
    rw (read-scaled (goal.at.antilogarithm-requires c).After-scaled_down) (scaled_range (truncated 24 (y t)) (binary_logarithm (x t)) (factor-le t) (logarithm_range (x t) (x_fits t) (is_normal t)))

pub returns-then-is_exponent : goal.returns-then-is_exponent
unfolding powf_of
returns-then-is_exponent c =
    let t = (goal.at.returns-then-is_exponent c).Then-is_exponent in
    let r = antilogarithm (scaled (truncated 24 (y t)) (binary_logarithm (x t))) in
    c.antilogarithm.ensures ∙ ap antilogarithm (read-scaled (goal.at.returns-then-is_exponent c).After-scaled_down) ∙ sym (λ i. cond (x-normal t i && y-exponent t i) r nan)

outside : (c : Joined-else-is_normal) → (normal c.before.before.args.x && is_exponent c.before.before.args.y) ≡ false
outside c =
    let n = sym c.before.is_normal.ensures in
    elim c.else-is_normal.branch [ else-is_normal-via-then-is_normal+else-is_exponent u ↦ (λ i. (n ∙ u.if-is_normal.true) i && (sym u.is_exponent.ensures ∙ u.if-is_exponent.false) i) | else-is_normal-via-else-is_normal u ↦ (λ i. (n ∙ u.if-is_normal.false) i && is_exponent c.before.before.args.y) ]

pub returns-else-is_normal : goal.returns-else-is_normal
unfolding powf_of of_bits div
returns-else-is_normal c =
    sym (ap (λ (b : Bool). cond b (antilogarithm (scaled (truncated 24 c.args.y) (binary_logarithm c.args.x))) nan) (outside (goal.at.returns-else-is_normal c).Joined-else-is_normal))
