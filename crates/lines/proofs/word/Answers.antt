-- `word`: before the remark, from the word's start to the next blank. Assumes nothing.
use mathlib.Core.Path.{sym}
use Rattle.lines.proofs.Starts.{bare_length, starts_found}
use Rattle.lines.proofs.word.Goals as goal

pub slice_bounds-s-end : goal.slice_bounds-s-end
slice_bounds-s-end c = rw c.run_end-end.ensures (sym (bare_length c.args.line.now))

pub returns : goal.returns
returns c = let a = c.args in
    let end = c.run_end-end.ensures in
    rw (c.run_end-to.ensures, end) (starts_found a.line.now a.k c.word_start-from.result (rw end at c.word_start-from.ensures))
