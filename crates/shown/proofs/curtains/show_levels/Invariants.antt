-- `shown::curtains::show_levels` meets its contract. Assumes nothing.
use Prim.Native.Nat.{ℕ, ◌<◌}
use mathlib.Core.Path.{◌≡◌}
use lib.ListN.{length}
use Rattle.floats.specs.Ops.{at}
use Rattle.answers.specs.declared.Kind.TheVariants as kind
use Rattle.answers.specs.Outcome.{accepted}
use Rattle.shown.specs.CurtainPlate.{level_at}
use Rattle.shown.proofs.curtains.show_levels.Given as goal

abbrev pub invariant-loop-v : goal.invariant-loop-v
invariant-loop-v l = (length l.levels ≡ 360) × ((k : ℕ) → k < l.v → level_at l.parm l.factor l.u k ≡ accepted (kind.Level, at l.levels k))
