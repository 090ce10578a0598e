-- `curtain::levels::pairs`: the pairs before the loop's are answered, and their levels stand in front.
use mathlib.Core.Path.{◌≡◌, sym}
use Prim.Native.Nat.{◌/◌}
use native.Mathlib.Omega.{arith}
use lib.ListN.{length, length-set}
use Rattle.std.proofs.Common.{Err, rules}
use Rattle.curtain.specs.Levels.{pair_at}
use Rattle.curtain.proofs.InOrder.{one_more, refused-there}
use Rattle.curtain.proofs.levels.pairs.Goals as goal

pub returns-in_err-levels : goal.returns-in_err-levels
unfolding pair_at
returns-in_err-levels c before =
    let out : c.from_residual.result ≡ Err c.in_err-levels.field-0.0 = search rules in
    rw out (sym (refused-there _ before c.loop-k.k (c.loop-k.invariant.1 before) (sym c.in_err-levels.ensures) (length c.args.directions.now / 2) c.loop-k-test.true))

pub loop-k-preserved : goal.loop-k-preserved
unfolding pair_at
loop-k-preserved c =
    let loop = c.loop-k in
    (rw length-set loop.invariant.0, λ before. one_more _ before loop.k loop.levels (omega arith) (loop.invariant.1 before) (sym c.in_ok-levels.ensures))
