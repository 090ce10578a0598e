-- `stretch_from`: of the rows passed, as many cover each kHz up to the end.
use mathlib.Core.Path.{sym, ap, ◌∙◌}
use native.Mathlib.Omega.{arith}
use Rattle.std.proofs.Common.{rules, length}
use Rattle.bandbook.specs.Rows.{rows_in}
use Rattle.bandbook.proofs.Steady.{one-le, pass, all_passed}
use Rattle.bandbook.proofs.Chunks.{chunk_next, chunks_end}
use Rattle.bandbook.proofs.coverage.stretch_from.Goals as goal

pub loop-words-init : goal.loop-words-init
loop-words-init c =
    let e = ap (λ s. s.rest.now) c.into_iter-words-iterator.ensures.into_iter_gives ∙ c.chunks_exact-words-items.ensures.rest in
    (search rules, omega (arith, ap length e), omega arith, omega arith, λ j l u. rw e (omega arith))

pub overflow_add-rows : goal.overflow_add-rows
overflow_add-rows c =
    let next = chunk_next c.loop-words.words-iterator c.next.new.self _ c.in-Some.is c.next.ensures.steps c.loop-words.invariant.0 in
    omega (arith, c.count_one-rows.ensures, one-le c.args.khz c.row_of-row.result, next.2)

pub nearer_edge-requires : goal.nearer_edge-requires
nearer_edge-requires c = c.loop-words.invariant.2

pub loop-words-preserved : goal.loop-words-preserved
loop-words-preserved c =
    let loop = c.loop-words in
    let row = c.row_of-row in
    let low = c.nearer_edge.ensures in
    let high = c.nearer_edge-end.ensures in
    let one = c.count_one-rows in
    let next = chunk_next loop.words-iterator c.next.new.self _ c.in-Some.is c.next.ensures.steps loop.invariant.0 in
    let rows = rows_in c.args.words.now in
    let passed = rw (next.1, sym row.ensures) at loop.invariant.4 in (
      next.0,
      omega (arith, one.ensures, one-le c.args.khz row.result, next.2),
      high.after,
      omega arith,
      rw one.ensures (pass rows c.args.khz row.result _ loop.rows loop.end passed _ (omega arith) (λ k. omega (arith, low.before k)) high.before),
    )

pub returns : goal.returns
returns c =
    let loop = c.loop-words in
    let rows = rows_in c.args.words.now in
    let e = chunks_end loop.words-iterator c.next.new.self _ c.in-None.is c.next.ensures.steps loop.invariant.0 in
    record { after = omega arith; inside = omega arith; same = all_passed rows c.args.khz loop.rows loop.end (rw e at loop.invariant.4) }
