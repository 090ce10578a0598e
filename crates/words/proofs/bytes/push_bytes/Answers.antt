-- `push_bytes` writes one byte a turn.
use mathlib.Core.Path.{refl, ◌∙◌}
use native.Mathlib.Numerals.{add-one}
use native.Mathlib.Omega.{arith}
use lib.Seq.{paste-suc}
use Rattle.words.proofs.Laid.{laid_pasted}
use Rattle.words.proofs.bytes.push_bytes.Goals as goal

pub loop-i-preserved : goal.loop-i-preserved
loop-i-preserved c =
    let a = c.args in
    let head = c.loop-i in
    (omega arith, rw (add-one, head.invariant.1) (paste-suc a.out.now a.at a.s.now head.i 0 (omega arith) (omega arith)))

pub returns : goal.returns
returns c =
    let a = c.args in
    let head = c.loop-i in
    record { after = refl; bytes = head.invariant.1 ∙ laid_pasted a.out.now a.at a.s.now head.i (omega arith) }
