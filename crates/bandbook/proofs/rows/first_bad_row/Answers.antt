-- `first_bad_row`: the first that `find` comes upon.
use Rattle.std.proofs.Common.{◌≡◌, Some, true, false, arith, rules, tests}
use Rattle.std.proofs.lemmas.Iterator.{first_from_Range}
use Rattle.bandbook.specs.Rows.{rows_in, bad_row}
use Rattle.bandbook.specs.Book.{first_bad_row}
use Rattle.bandbook.proofs.RowWords.{rows-length}
use Rattle.bandbook.proofs.Faults.{FoundBad, found_bad, low_bad}
use Rattle.bandbook.proofs.rows.first_bad_row.Goals as goal
use Rattle.bandbook.proofs.rows.first_bad_row.Goals.{After-find}

bad : (c : After-find) → FoundBad (rows_in c.args.words.now) c.find.result
bad c =
    let rows = rows_in c.args.words.now in
    rw (rows-length c.args.words.now)
    (first_from_Range _ _ _ _ (λ k. bad_row rows k ≡ true) (λ k. bad_row rows k ≡ false) c.find.ensures.ran
    (λ x q k. search (rules, tests))
    (λ x q k. search (rules, tests)))

first : (c : After-find) → c.find.result ≡ first_bad_row (rows_in c.args.words.now)
first c = found_bad (rows_in c.args.words.now) c.find.result (bad c)

pub returns-in_err-i : goal.returns-in_err-i
returns-in_err-i c =
    let e = first (goal.at.returns-in_err-i c).After-find in
    search (rules, e)

pub overflow_cast-result : goal.overflow_cast-result
overflow_cast-result c =
    let e : c.find.result ≡ Some c.in_ok-i.i = search rules in
    let low = low_bad (rows_in c.args.words.now) c.in_ok-i.i (rw e at (bad (goal.at.overflow_cast-result c).After-find)) in
    omega (arith, low)

pub returns : goal.returns
returns c =
    let e = first (goal.at.returns c).After-find in
    search (rules, e)
