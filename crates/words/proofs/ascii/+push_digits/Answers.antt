-- `words::ascii::push_digits` meets its contract: the digits before the last, by itself, then the last. Assumes nothing.
use mathlib.Core.Path.{◌≡◌}
use native.Mathlib.Omega.{arith}
use Rattle.words.proofs.Numbers.{characters_none, characters_last}
use Rattle.words.proofs.Writing.{put_none, joined, at_most}
use Rattle.words.proofs.ascii.+push_digits.Goals as goal

pub returns-then-k-gt0 : goal.returns-then-k-gt0
returns-then-k-gt0 g t c =
    let both = joined c.push_digits.ensures c.push.ensures in
    rw (characters_last c.args.base c.args.k c.args.n c.if-k-gt0.true, ← c.digit.ensures) (at_most both (omega arith))

pub returns-else-k-gt0 : goal.returns-else-k-gt0
returns-else-k-gt0 g t c =
    let none : c.args.k ≡ 0 = omega arith in
    rw (none, characters_none) (put_none 0 _)
