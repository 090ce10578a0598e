-- `slots::lowest_broken`: whatever the test tells, no number before the loop's is broken.
use mathlib.Core.Path.{◌≡◌}
use Prim.Native.Nat.{ℕ, ◌+◌, ◌-◌, ◌<◌}
use mathlib.Core.Bool.{Bool}
use Rattle.answers.specs.declared.Refusal.{Refusal}
use Rattle.answers.specs.Outcome.{number}
use Rattle.slots.specs.Told.{Breaks, numbers_from, told}
use Rattle.slots.proofs.lowest_broken.Given as goal

abbrev pub invariant-loop-refusal : goal.invariant-loop-refusal
invariant-loop-refusal g l =
    (test : Breaks) → ((r : Refusal) (s : ℕ) (x : Bool) → s < 20 → goal.F-post g l.breaks r s x → x ≡ test (number r) s)
    → told test ≡ numbers_from test (8 - (2 + l.refusal-index)) (2 + l.refusal-index)
