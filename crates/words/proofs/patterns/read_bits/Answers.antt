-- `read_bits` reads one float a turn.
use Prim.Native.Nat.{◌+◌}
use native.Mathlib.Omega.{arith}
use lib.ListN.{length-set, length-map, get_or-map}
use lib.Ieee.{binary32, of_bits}
use Rattle.words.specs.Patterns.{floats}
use Rattle.words.proofs.Copies.{copied_more}
use Rattle.words.proofs.patterns.read_bits.Goals as goal

pub loop-i-preserved : goal.loop-i-preserved
loop-i-preserved c =
    let head = c in
    let a = head.args in
    let words = a.words.now in
    let i = head.loop-i.i in (
      omega arith,
      rw length-set head.loop-i.invariant.1,
      rw (c.float_of.ensures, head.loop-i.invariant.2, ← get_or-map (of_bits binary32) words (a.at + i) 0) (copied_more a.out.now (floats words) a.at i (of_bits binary32 0) (omega arith) (omega (arith, length-map words (of_bits binary32)))),
    )
