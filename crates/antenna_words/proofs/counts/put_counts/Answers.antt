-- `put_counts` writes one word a turn.
use mathlib.Core.Path.{◌≡◌, ap, ◌∙◌}
use native.Mathlib.Omega.{arith}
use lib.ListN.{length}
use Rattle.words.proofs.Copies.{written, written-more, written_all}
use Rattle.antenna_words.specs.Fields.{low}
use Rattle.antenna_words.proofs.counts.put_counts.Goals as goal

pub loop-i-preserved : goal.loop-i-preserved
loop-i-preserved c = let a = c.args in rw c.loop-i.invariant (written-more low a.out.now a.at a.ns.now c.loop-i.i 0 (omega arith) (omega arith))

pub returns : goal.returns
returns c =
    let a = c.args in
    let e : c.loop-i.i ≡ length a.ns.now = omega arith in
    c.loop-i.invariant ∙ ap (written low a.out.now a.at a.ns.now) e ∙ written_all low a.out.now a.at a.ns.now
