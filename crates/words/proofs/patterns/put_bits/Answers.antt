-- `put_bits` writes one word a turn.
use mathlib.Core.Path.{◌≡◌, ap, ◌∙◌}
use native.Mathlib.Omega.{arith}
use lib.ListN.{length}
use lib.Ieee.{nan, binary32, to_bits}
use Rattle.words.proofs.Copies.{written, written-more, written_all}
use Rattle.words.proofs.patterns.put_bits.Goals as goal

pub loop-i-preserved : goal.loop-i-preserved
loop-i-preserved c =
    let head = c in
    let a = head.args in
    (omega arith, rw (c.bits_of.ensures, head.loop-i.invariant.1) (written-more (to_bits binary32) a.out.now a.at a.xs.now head.loop-i.i nan (omega arith) (omega arith)))

pub returns : goal.returns
returns c =
    let a = c.args in
    let e : c.loop-i.i ≡ length a.xs.now = omega arith in
    c.loop-i.invariant.1 ∙ ap (written (to_bits binary32) a.out.now a.at a.xs.now) e ∙ written_all (to_bits binary32) a.out.now a.at a.xs.now
