-- `word_start`, a word a turn: as many words as there were turns stand before `at`. Assumes nothing.
use Rattle.lines.specs.Inner.{StartsAfter}
use Rattle.lines.proofs.word_start.Given as goal

abbrev pub invariant-loop : goal.invariant-loop
invariant-loop l = StartsAfter l.s l.counter l.at
