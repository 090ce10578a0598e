-- `least`, a number a turn: none of the first i passes. Assumes nothing.
use Prim.Native.Nat.{ℕ, ◌+◌, ◌<◌}
use mathlib.Core.Bool.{false}
use Rattle.fields.proofs.first.least.Given as goal

abbrev pub invariant-loop-i : goal.invariant-loop-i
invariant-loop-i g l = (i : ℕ) → i < l.i → goal.F-post g l.passes (i + 1) false
