-- `hundredths::rounding::raised` meets its contract, by the sign bit. Assumes nothing.
use native.Mathlib.Omega.{arith}
use borrow.Author.Tests.{le-leb, lt-leb}
use Rattle.hundredths.proofs.Span.{size-le}
use Rattle.hundredths.proofs.Bits.{Read, read, sign}
use Rattle.hundredths.proofs.Raised.{raised_is}
use Rattle.hundredths.proofs.rounding.raised.Goals as goal
use Rattle.hundredths.proofs.rounding.raised.Goals.{After-bits_of}

got : (c : After-bits_of) → Read c.before.args.x c.bits_of.result
got c = read c.before.args.x c.bits_of.result c.before.well_formed.0.1 c.before.requires c.bits_of.ensures

pub overflow_add-result : goal.overflow_add-result
overflow_add-result c = let s = c in omega (arith, c.size.ensures, size-le s.args.x s.requires)

pub returns-then-bits_of-lt2147483648 : goal.returns-then-bits_of-lt2147483648
returns-then-bits_of-lt2147483648 c =
    let s = c in
    rw (c.size.ensures, raised_is s.args.x s.requires, sign (got (goal.at.returns-then-bits_of-lt2147483648 c).After-bits_of), lt-leb _ _ c.if-bits_of-lt2147483648.true)

pub overflow_sub-result : goal.overflow_sub-result
overflow_sub-result c = let s = c in omega (arith, c.size-2.ensures, size-le s.args.x s.requires)

pub returns : goal.returns
returns c =
    let s = c in
    rw (c.size-2.ensures, raised_is s.args.x s.requires, sign (got (goal.at.returns c).After-bits_of), le-leb _ _ c.if-bits_of-lt2147483648.false)
