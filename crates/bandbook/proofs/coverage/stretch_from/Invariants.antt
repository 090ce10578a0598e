-- `stretch_from`: of the rows passed, as many cover each kHz up to the end.
use Rattle.std.proofs.Common.{◌≡◌, ◌+◌, ◌*◌, ◌<◌, ◌≤◌, length}
use Rattle.std.specs.Slice.Iter.{chunks_exact_rest, chunks_exact_size}
use Rattle.bandbook.specs.Rows.{rows_in}
use Rattle.bandbook.proofs.Steady.{Passed}
use Rattle.bandbook.proofs.coverage.stretch_from.Given as goal

abbrev pub invariant-loop-words : goal.invariant-loop-words
invariant-loop-words l =
    let rest = chunks_exact_rest l.words-iterator in
    (chunks_exact_size l.words-iterator ≡ 3) × (3 * l.rows + length rest ≤ length l.fn.words) × (l.khz < l.end) × (l.end ≤ 30000) × Passed (rows_in l.fn.words) l.khz (rows_in rest) l.rows l.end
