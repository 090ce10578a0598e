-- `svg_text::masts::read_mast` meets its contract. Assumes nothing.
use mathlib.Core.Path.{◌≡◌}
use lib.ListN.{length}
use Rattle.std.proofs.Common.{Err, rules}
use Rattle.request.specs.Request.{and_then}
use Rattle.shown.proofs.Rows.{numbers_shown, kinds_shown}
use Rattle.svg_text.specs.Drawn.{drawn_of}
use Rattle.svg_text.proofs.masts.read_mast.Goals as goal

pub returns-in_err-row : goal.returns-in_err-row
unfolding drawn_of and_then
returns-in_err-row c =
    let out : c.from_residual.result ≡ Err c.in_err-row.field-0.0 = search rules in
    rw (out, ← c.in_err-row.ensures)

pub returns-in_err-heading : goal.returns-in_err-heading
unfolding drawn_of and_then
returns-in_err-heading c =
    let out : c.from_residual-in_err-heading.result ≡ Err c.in_err-heading.field-0.0 = search rules in
    rw (out, ← c.in_ok-row.ensures, ← c.in_err-heading.ensures)

pub returns : goal.returns
unfolding drawn_of and_then
returns c =
    let row = c.in_ok-row.row in
    let numbers : length row.numbers ≡ 360 = search rules in
    let kinds : length row.kinds ≡ 360 = search rules in
    rw (← c.in_ok-row.ensures, ← c.in_ok-heading.ensures, numbers_shown row numbers, kinds_shown row kinds)
