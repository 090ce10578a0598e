-- `word_start`, a word a turn: as many words as there were turns stand before `at`. Assumes nothing.
use native.Mathlib.Omega.{arith}
use Rattle.lines.proofs.Starts.{starts_first, starts_next, starts_past}
use Rattle.lines.proofs.word_start.Goals as goal

pub loop-init : goal.loop-init
loop-init c = rw c.run_end-at.ensures (starts_first c.args.s.now)

pub returns-then-s-at : goal.returns-then-s-at
returns-then-s-at c = let a = c.args in
    let loop = c.loop in
    starts_past a.s.now loop.counter loop.at loop.invariant c.if-s-at.true a.k (omega arith)

pub loop-preserved : goal.loop-preserved
loop-preserved c = let s = c.args.s.now in
    let loop = c.loop in
    rw c.next_word-at.ensures (starts_next s loop.counter loop.at loop.invariant)
