-- `station_at`: the row that `find` comes upon.
use Rattle.std.proofs.Common.{◌≡◌, ◌∙◌, ap, rules, tests}
use Rattle.std.proofs.lemmas.Iterator.Search.{find_from_yields_List}
use Rattle.std.specs.Option.{option_map}
use Rattle.bandbook.specs.Rows.{rows_in}
use Rattle.bandbook.specs.Coverage.{covers, station_at}
use Rattle.bandbook.proofs.Chunks.{row_read, rows_given, id_of, station_found}
use Rattle.bandbook.proofs.coverage.station_at.Goals as goal
use Rattle.bandbook.proofs.coverage.station_at.Goals.{After-find-row}

found : (c : After-find-row) → id_of (option_map row_read c.find-row.result) ≡ station_at (rows_in c.args.words.now) c.args.khz
found c =
    let words = c.args.words.now in
    let given = rows_given words c.chunks_exact.ensures.rest c.chunks_exact.ensures.size in
    ap id_of (find_from_yields_List (covers c.args.khz) _ _ c.find-row.result c.find-row.ensures.ran given (λ x b q k. search (rules, tests)))
    ∙ station_found c.args.khz (rows_in words)

pub returns-in-Some : goal.returns-in-Some
returns-in-Some c =
    let f = found (goal.at.returns-in-Some c).After-find-row in
    ap (λ r. r.id) c.row_of.ensures ∙ (rw c.in-Some.is at f)

pub returns-in-None : goal.returns-in-None
returns-in-None c =
    let f = found (goal.at.returns-in-None c).After-find-row in
    rw c.in-None.is at f
