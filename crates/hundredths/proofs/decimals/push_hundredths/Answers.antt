-- `hundredths::decimals::push_hundredths` meets its contract: the whole part, the point, the two digits. Assumes nothing.
use native.Mathlib.Omega.{arith}
use Rattle.std.proofs.Common.{rules}
use Rattle.words.proofs.Writing.{joined, shorter}
use Rattle.quoted.specs.Quoted.{quoted}
use Rattle.hundredths.specs.Decimals.{decimals, two_decimals}
use Rattle.hundredths.proofs.Text.{whole_short}
use Rattle.hundredths.proofs.decimals.push_hundredths.Goals as goal

pub push-requires-2 : goal.push-requires-2
push-requires-2 g c =
    let whole = shorter c.push_numeral.ensures (whole_short c.args.n (omega arith)) in
    (search rules, omega (arith, whole.room, c.push.ensures.room))

pub push-requires-3 : goal.push-requires-3
push-requires-3 g c =
    let whole = shorter c.push_numeral.ensures (whole_short c.args.n (omega arith)) in
    (search rules, omega (arith, whole.room, c.push.ensures.room, c.push-2.ensures.room))

pub returns : goal.returns
unfolding two_decimals decimals quoted
returns g c =
    let whole = shorter c.push_numeral.ensures (whole_short c.args.n (omega arith)) in
    joined (joined whole c.push.ensures) (joined c.push-2.ensures c.push-3.ensures)
