-- `curtain::levels::pairs`: the pairs before the loop's are answered, and their levels stand in front.
use mathlib.Core.Path.{◌≡◌}
use Prim.Native.Nat.{ℕ, ◌+◌}
use lib.ListN.{length, take}
use Rattle.answers.specs.Outcome.{accepted}
use Rattle.curtain.specs.Levels.{pair_at, in_order}
use Rattle.curtain_parameters.specs.Pattrn0.{curtain_of}
use Rattle.curtain.proofs.levels.pairs.Given as goal

abbrev pub invariant-loop-k : goal.invariant-loop-k
invariant-loop-k l =
    (length l.levels ≡ 64)
    × ((before : ℕ) → in_order (pair_at (curtain_of l.parm) l.factor l.directions) before l.k ≡ accepted (take l.k l.levels, before + l.k))
