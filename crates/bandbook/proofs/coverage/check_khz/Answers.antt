-- `check_khz`: every kHz below the loop's is covered once.
use mathlib.Core.Path.{◌≡◌, sym, ◌∙◌}
use native.Mathlib.Omega.{arith}
use borrow.Author.Tests.{ne_eqb}
use Rattle.bandbook.specs.Rows.{rows_in}
use Rattle.bandbook.specs.Book.{bad_khz}
use Rattle.bandbook.proofs.Least.{join}
use Rattle.bandbook.proofs.Faults.{once-good, khz_found, no_khz_found}
use Rattle.bandbook.proofs.coverage.check_khz.Goals as goal

pub returns-then-stretch-eq0 : goal.returns-then-stretch-eq0
returns-then-stretch-eq0 c =
    let rows = rows_in c.args.words.now in
    let loop = c.loop-khz in
    let n = c.stretch_from-stretch.ensures.same loop.khz (omega arith) c.stretch_from-stretch.ensures.after in
    sym (khz_found rows loop.khz (omega arith) (omega arith) loop.invariant.2 (λ e. omega (arith, n)) ∙ rw (n, c.if-stretch-eq0.true, c.at.ensures))

pub returns-then-stretch-gt1 : goal.returns-then-stretch-gt1
returns-then-stretch-gt1 c =
    let rows = rows_in c.args.words.now in
    let loop = c.loop-khz in
    let stretch = c.stretch_from-stretch in
    let n = stretch.ensures.same loop.khz (omega arith) stretch.ensures.after in
    sym (khz_found rows loop.khz (omega arith) (omega arith) loop.invariant.2 (λ e. omega (arith, n)) ∙ rw (n, ne_eqb stretch.result.rows 0 (λ e. omega arith), c.at-then-stretch-gt1.ensures))

pub loop-khz-preserved : goal.loop-khz-preserved
loop-khz-preserved c =
    let rows = rows_in c.args.words.now in
    let loop = c.loop-khz in
    let stretch = c.stretch_from-stretch in
    let one : stretch.result.rows ≡ 1 = omega arith in
    (omega arith, omega arith, join (bad_khz rows) loop.invariant.2 (λ j l u. once-good rows j (stretch.ensures.same j l u ∙ one)))

pub returns : goal.returns
returns c =
    let loop = c.loop-khz in
    let e : loop.khz ≡ 30000 = omega arith in
    sym (no_khz_found (rows_in c.args.words.now) (rw e at loop.invariant.2))
