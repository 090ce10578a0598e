-- `planet_text::output::planet_output` meets its contract. Assumes nothing.
use mathlib.Core.Path.{refl}
use native.Mathlib.Omega.{arith}
use borrow.Author.Tests.{lt-ltb}
use lib.ListN.{length}
use Rattle.words.proofs.Writing.{wrote_none, within, page_has}
use Rattle.planet_text.specs.Planet.{output_in}
use Rattle.planet_text.proofs.Printed.{output_refused, output_written}
use Rattle.planet_text.proofs.output.planet_output.Goals as goal

pub returns-then-text-lt8960 : goal.returns-then-text-lt8960
unfolding output_in
returns-then-text-lt8960 c =
    let text = c.args.text.now in
    rw (lt-ltb (length text) 8960 c.if-text-lt8960.true) record { text = wrote_none text 0; within = (omega arith, refl) }

pub returns-in-Err-clause-text : goal.returns-in-Err-clause-text
returns-in-Err-clause-text c =
    let a = c.args in
    let said = output_refused a.input.now a.text.now c.if-text-lt8960.false c.planet.result _ c.planet.ensures.answer c.planet.ensures.text _ c.in-Err.is in
    let line = rw c.new-page.ensures at c.push_refusal.ensures in
    rw ((page_has line).0, said.0, said.1) at c.put_page.ensures

pub returns-in-Ok : goal.returns-in-Ok
returns-in-Ok c =
    let a = c.args in
    let w = output_written a.input.now a.text.now c.if-text-lt8960.false c.planet.result _ c.planet.ensures.answer c.planet.ensures.text _ c.in-Ok.is in
    record { text = w.0; within = within w.0 w.1 }
