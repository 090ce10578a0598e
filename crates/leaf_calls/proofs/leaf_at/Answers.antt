-- `leaf_at`: a number that is none of the seven.
use borrow.Author.Tests.{ne_eqb}
use native.Mathlib.Omega.{arith}
use lib.Ieee.{of_bits}
use Rattle.leaf_calls.specs.Leaf.{leaf}
use Rattle.leaf_calls.proofs.leaf_at.Goals as goal

pub returns-in_default : goal.returns-in_default
unfolding leaf of_bits
returns-in_default c =
    let which = c.args.which in
    rw (ne_eqb which 0 (omega arith), ne_eqb which 1 (omega arith), ne_eqb which 2 (omega arith), ne_eqb which 3 (omega arith), ne_eqb which 4 (omega arith), ne_eqb which 5 (omega arith), ne_eqb which 6 (omega arith))
