-- `check_khz`: every kHz below the loop's is covered once.
use Prim.Native.Nat.{◌-◌, ◌≤◌}
use Rattle.bandbook.specs.Rows.{rows_in}
use Rattle.bandbook.specs.Book.{bad_khz}
use Rattle.bandbook.proofs.Least.{NoneTo}
use Rattle.bandbook.proofs.coverage.check_khz.Given as goal

abbrev pub invariant-loop-khz : goal.invariant-loop-khz
invariant-loop-khz l = (2000 ≤ l.khz) × (l.khz ≤ 30000) × NoneTo (bad_khz (rows_in l.words)) 2000 l.khz

abbrev pub decreases-loop-khz : goal.decreases-loop-khz
decreases-loop-khz l = 30000 - l.khz
