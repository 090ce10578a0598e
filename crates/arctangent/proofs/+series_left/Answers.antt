-- `arctangent::series_left` meets its contract: the terms after the first are no more than it (`Angles.antt`).
use native.Mathlib.Omega.{arith}
use Rattle.arctangent.specs.Arctangent.{series}
use Rattle.arctangent.proofs.Angles.{series-more, term-under}
use Rattle.arctangent.proofs.+series_left.Goals as goal

pub returns-then-left-eq0 : goal.returns-then-left-eq0
unfolding series
returns-then-left-eq0 t c = rw c.if-left-eq0.true

pub overflow_sub-result : goal.overflow_sub-result
overflow_sub-result t c = let s = c.args in term-under s.t s.left s.divisor s.power c.series_left.result (omega arith) (omega arith) c.series_left.ensures

pub returns : goal.returns
unfolding series
returns t c = let s = c.args in (series-more s.t s.left s.divisor s.power c.series_left.result (omega arith) (omega arith) (omega arith) c.series_left.ensures).is
