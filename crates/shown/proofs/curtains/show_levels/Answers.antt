-- `shown::curtains::show_levels` meets its contract. Assumes nothing.
use Prim.Native.Nat.{ℕ, ◌<◌}
use mathlib.Core.Path.{◌≡◌, refl, sym, ap, ◌∙◌}
use mathlib.Core.List.{List}
use native.Mathlib.Omega.{arith}
use lib.ListN.{replicate, length-set, get_or-replicate}
use lib.Ieee.{Float, nan}
use Rattle.std.proofs.Common.{Err, rules}
use Rattle.floats.specs.Ops.{at}
use Rattle.answers.specs.declared.Kind.{Kind}
use Rattle.answers.specs.declared.Kind.TheVariants as kind
use Rattle.answers.specs.Outcome.{accepted}
use Rattle.request.specs.Request.{and_then}
use Rattle.shown.specs.Plate.{gain_in}
use Rattle.shown.specs.CurtainPlate.{level_at}
use Rattle.shown.proofs.Filled.{filled_more}
use Rattle.shown.proofs.Plates.{plate_of_gains, plate-refused}
use Rattle.shown.proofs.curtains.show_levels.Goals as goal

pub loop-v-init : goal.loop-v-init
loop-v-init c = (refl, λ k h. absurd (omega arith))

pub returns-in_err-levels : goal.returns-in_err-levels
unfolding level_at and_then
returns-in_err-levels c =
    let loop = c.loop-v in
    let a = c.args in
    let out : c.from_residual.result ≡ Err c.in_err-levels.field-0.0 = search rules in
    rw out
    (sym
    (plate-refused (level_at a.parm a.factor a.u) (λ (k : ℕ). (kind.Level, at loop.levels k)) loop.v loop.invariant.1
    (rw (← c.in_err-levels.ensures)) (omega arith)))

pub loop-v-preserved : goal.loop-v-preserved
unfolding level_at and_then
loop-v-preserved c =
    let loop = c.loop-v in
    let a = c.args in
    let gain = level_at a.parm a.factor a.u in (
      rw length-set loop.invariant.0,
      filled_more (λ (k : ℕ) (x : Float). gain k ≡ accepted (kind.Level, x)) loop.levels loop.v _ nan (omega arith) loop.invariant.1
          (rw (← c.in_ok-levels.ensures)),
    )

-- all kinds are levels
level_in : (levels : List Float) (v : ℕ) → v < 360 → (kind.Level, at levels v) ≡ gain_in (replicate 360 kind.Level) levels v
level_in levels v h = rw (get_or-replicate {A = Kind} 360 v kind.Level kind.Level h)

pub returns : goal.returns
returns c =
    let loop = c.loop-v in
    let a = c.args in
    c.in_hundredths.ensures
    ∙ sym
    (plate_of_gains (level_at a.parm a.factor a.u) (gain_in (replicate 360 kind.Level) loop.levels)
    λ v h. loop.invariant.1 v (omega arith) ∙ ap accepted (level_in loop.levels v h))
