-- `slots::lowest_slot`: whatever the test tells, no slot before the loop's breaks the limit.
use mathlib.Core.Path.{◌≡◌}
use Prim.Native.Nat.{ℕ, ◌-◌, ◌<◌}
use mathlib.Core.Bool.{Bool}
use Rattle.answers.specs.Outcome.{number}
use Rattle.slots.specs.Told.{Breaks, lowest}
use Rattle.slots.proofs.lowest_slot.Given as goal

abbrev pub invariant-loop-slot : goal.invariant-loop-slot
invariant-loop-slot g l =
    (test : Breaks) → ((s : ℕ) (x : Bool) → s < 20 → goal.F-post g l.breaks l.refusal s x → x ≡ test (number l.refusal) s)
    → lowest test (number l.refusal) 20 0 ≡ lowest test (number l.refusal) (20 - l.slot) l.slot
