-- `find`, a line a turn: none of the lines passed passes the test. Assumes nothing.
use mathlib.Core.Path.{refl}
use native.Mathlib.Omega.{arith}
use borrow.Author.Count.{below_more}
use Rattle.std.proofs.Common.{rules}
use native.Mathlib.Numerals.{add-one}
use Rattle.card.specs.Inner.{FirstLine}
use Rattle.card.proofs.Walk.{walk_start, walk_end, walk_on, forward, inside, next-counted, next-line}
use Rattle.card.proofs.line.find.Goals as goal

pub loop-at-init : goal.loop-at-init
loop-at-init g c = (walk_start _ _ c.text_start-at.ensures, λ i h. absurd (omega arith))

pub overflow_add-number : goal.overflow_add-number
overflow_add-number g c = omega (arith, c.loop-at.invariant.0.counted)

pub passes-requires : goal.passes-requires
passes-requires g c = c.requires _ (next-line c.loop-at.invariant.0 c.loop-at-test.true c.line_end-to.ensures refl refl)

pub returns-then-passes : goal.returns-then-passes
unfolding FirstLine
returns-then-passes g c =
    let l = c.loop-at in
    record {
      its = next-line l.invariant.0 c.loop-at-test.true c.line_end-to.ensures refl refl;
      within = omega (arith, next-counted l.invariant.0 c.loop-at-test.true c.line_end-to.ensures);
      counted = omega arith;
      before = λ i b. l.invariant.1 i (omega arith);
      here = search rules;
    }

pub slice_bounds-line-count : goal.slice_bounds-line-count
slice_bounds-line-count g c = forward c.loop-at.invariant.0 c.loop-at-test.true c.line_end-to.ensures

pub slice_bounds-line-start : goal.slice_bounds-line-start
slice_bounds-line-start g c = forward c.loop-at.invariant.0 c.loop-at-test.true c.line_end-to.ensures

pub slice_bounds-line-end : goal.slice_bounds-line-end
slice_bounds-line-end g c = inside c.loop-at.invariant.0 c.loop-at-test.true c.line_end-to.ensures

pub overflow_add-at : goal.overflow_add-at
overflow_add-at g c = omega (arith, inside c.loop-at.invariant.0 c.loop-at-test.true c.line_end-to.ensures)

pub loop-at-smaller : goal.loop-at-smaller
loop-at-smaller g c = omega (arith, forward c.loop-at.invariant.0 c.loop-at-test.true c.line_end-to.ensures)

pub loop-at-preserved : goal.loop-at-preserved
loop-at-preserved g c =
    let l = c.loop-at in
    let this = next-line l.invariant.0 c.loop-at-test.true c.line_end-to.ensures refl refl in (
      rw add-one (walk_on l.invariant.0 c.loop-at-test.true c.line_end-to.ensures),
      below_more _ l.number l.invariant.1 (record { line = _; number = refl; its = this; failed = c.if-passes.ensures }),
    )

pub returns : goal.returns
unfolding FirstLine
returns g c i h = let l = c.loop-at in l.invariant.1 i (omega (arith, walk_end l.invariant.0 c.loop-at-test.false))
