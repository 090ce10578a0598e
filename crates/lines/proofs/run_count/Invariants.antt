-- `run_count`, a word a turn: n words stand before `at`. Assumes nothing.
use Prim.Native.Nat.{◌-◌, ◌≤◌}
use lib.ListN.{length}
use Rattle.lines.specs.Words.{runs_of}
use Rattle.lines.specs.Inner.{StartsAfter}
use Rattle.lines.proofs.run_count.Given as goal

abbrev pub invariant-loop-at : goal.invariant-loop-at
invariant-loop-at l = StartsAfter l.s l.n l.at × (l.n ≤ l.at) × (l.n ≤ length (runs_of l.s))

abbrev pub decreases-loop-at : goal.decreases-loop-at
decreases-loop-at l = length l.s - l.at
