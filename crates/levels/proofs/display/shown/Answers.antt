-- `shown`: the two parts of the ring in the order received, each compared with what stood before it.
use mathlib.Core.Path.{◌≡◌, ◌∙◌}
use mathlib.Core.List.{◌++◌}
use native.Mathlib.Omega.{arith}
use lib.ListN.{length, length-append}
use lib.Seq.{slice, length-slice}
use lib.Ieee.{binary32, of_bits}
use Rattle.levels.specs.State.{held, next, levels_in}
use Rattle.levels.specs.Shown.{screen_of}
use Rattle.levels.proofs.FirstLevel.{in_two_parts}
use Rattle.levels.proofs.Places.{as_slice}
use Rattle.levels.proofs.display.shown.Goals as goal

pub returns-then-count-eq0 : goal.returns-then-count-eq0
unfolding levels_in screen_of
returns-then-count-eq0 c =
    let s = c.args.state.now in
    let h : held s ≡ 0 = c.if-count-eq0.true in
    let n : next s ≡ 0 = omega arith in
    rw (h, n)

pub returns : goal.returns
unfolding levels_in
returns c =
    let s = c.args.state.now in
    let first = c.earliest-first in
    let late = slice (next s) (held s) s in
    let early = slice 0 (next s) s in
    let words : length (late ++ early) ≡ held s = length-append late early ∙ omega (arith, length-slice (next s) (held s) s (omega arith), length-slice 0 (next s) s (omega arith)) in
    rw (c.extremes_over-all.ensures.greatest_value, c.extremes_over-all.ensures.least_value, c.extremes_over-late.ensures.greatest_value, c.extremes_over-late.ensures.least_value, as_slice s (next s) (held s) (omega arith))
    (in_two_parts (of_bits binary32) late early (held s) words (omega arith) first.result first.ensures)
