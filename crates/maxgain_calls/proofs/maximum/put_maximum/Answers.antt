-- `put_maximum` fills the words: the gain's bits before the parameters'.
use mathlib.Core.Path.{◌≡◌}
use Prim.Native.Nat.{◌+◌}
use native.Mathlib.Omega.{arith}
use borrow.Author.Rules.{rules}
use lib.ListN.{length, length-map}
use lib.Ieee.{binary32, to_bits}
use Rattle.packed.specs.Lists.{bits}
use Rattle.words.proofs.Laid.{laid-first}
use Rattle.maxgain_calls.specs.Maximum.{maximum_words}
use Rattle.maxgain_calls.proofs.maximum.put_maximum.Goals as goal

pub returns-in-Ok : goal.returns-in-Ok
unfolding maximum_words
returns-in-Ok c =
    let parm = c.in-Ok.f.parm in
    let twenty : length parm ≡ 20 = search rules in
    let whole : length c.args.out.now ≡ 1 + length (bits parm) = omega (arith, c.requires, twenty, length-map parm (to_bits binary32)) in
    rw (c.in-Ok.is, c.put_bits.ensures, laid-first c.bits_of.result c.args.out.now (bits parm) whole, c.bits_of.ensures)
