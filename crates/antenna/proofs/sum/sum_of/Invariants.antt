-- `antenna::sum::sum_of` adds one float a turn.
use Rattle.std.proofs.Common.{◌≡◌, ◌%◌, ◌^◌, take}
use Rattle.words.specs.Patterns.{bits}
use Rattle.antenna.specs.TableSum.{total}
use Rattle.antenna.proofs.sum.sum_of.Given as goal

abbrev pub invariant-loop-x : goal.invariant-loop-x
invariant-loop-x l = l.sum ≡ total (bits (take l.x-index l.x-items)) % 2 ^ 32
