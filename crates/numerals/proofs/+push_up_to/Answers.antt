-- `numerals::push_up_to` meets its contract: the tens by itself, then the ones. Assumes nothing.
use mathlib.Core.Path.{◌≡◌}
use Prim.Native.Nat.{suc, ◌-◌}
use native.Mathlib.Omega.{arith}
use Rattle.words.proofs.Writing.{put_none, joined, at_most}
use Rattle.numerals.proofs.Laws.{numeral-none, numeral-ones, numeral_tens}
use Rattle.numerals.proofs.+push_up_to.Goals as goal

pub returns-then-k-eq0 : goal.returns-then-k-eq0
returns-then-k-eq0 g t c = rw (c.if-k-eq0.true, numeral-none) (put_none 0 _)

pub returns-then-n-lt10 : goal.returns-then-n-lt10
returns-then-n-lt10 g t c =
    let e : c.args.k ≡ suc (c.args.k - 1) = omega (arith, c.if-k-eq0.false) in
    rw (e, numeral-ones _ _ c.if-n-lt10.true, ← c.ones.ensures) (at_most c.push.ensures (omega arith))

pub returns-else-n-lt10 : goal.returns-else-n-lt10
returns-else-n-lt10 g t c =
    let e : c.args.k ≡ suc (c.args.k - 1) = omega (arith, c.if-k-eq0.false) in
    rw (e, numeral_tens _ _ c.if-n-lt10.false, ← c.ones-else-n-lt10.ensures) (at_most (joined c.push_up_to.ensures c.push-else-n-lt10.ensures) (omega arith))
