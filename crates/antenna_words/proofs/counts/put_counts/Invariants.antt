-- `put_counts` writes one word a turn.
use mathlib.Core.Path.{◌≡◌}
use Rattle.words.proofs.Copies.{written}
use Rattle.antenna_words.specs.Fields.{low}
use Rattle.antenna_words.proofs.counts.put_counts.Given as goal

abbrev pub invariant-loop-i : goal.invariant-loop-i
invariant-loop-i l = l.out ≡ written low l.initial.out l.at l.ns l.i
