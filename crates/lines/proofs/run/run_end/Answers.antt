-- `run::run_end`, a byte a turn: no byte before i ends the run. Assumes nothing.
use mathlib.Core.Path.{sym, ◌∙◌}
use native.Mathlib.Numerals.{add-one}
use native.Mathlib.Omega.{arith}
use Rattle.lines.specs.Inner.{stops_at}
use Rattle.lines.proofs.Runs.{end_here, end_later, end_past}
use Rattle.lines.proofs.run.run_end.Goals as goal

pub returns-then-stops : goal.returns-then-stops
returns-then-stops c = let a = c.args in
    let loop = c.loop-i in
    sym (loop.invariant ∙ end_here (stops_at a.stop) a.s.now loop.i (omega arith) (sym c.stops.ensures ∙ c.if-stops.true))

pub loop-i-preserved : goal.loop-i-preserved
loop-i-preserved c = let a = c.args in
    let loop = c.loop-i in
    rw add-one (loop.invariant ∙ end_later (stops_at a.stop) a.s.now loop.i (omega arith) (sym c.stops.ensures ∙ c.if-stops.false))

pub returns : goal.returns
returns c = let a = c.args in
    let loop = c.loop-i in
    sym (loop.invariant ∙ end_past (stops_at a.stop) a.s.now loop.i (omega arith))
