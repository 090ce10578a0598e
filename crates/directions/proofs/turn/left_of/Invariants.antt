-- `turn::left_of`: one doubling a turn.
use Rattle.std.proofs.Common.{◌≡◌, ◌*◌, ◌%◌, ◌^◌}
use Rattle.directions.proofs.turn.left_of.Given as goal

abbrev pub invariant-loop-k : goal.invariant-loop-k
invariant-loop-k l = l.left ≡ l.d * 2 ^ l.k % 11796480
