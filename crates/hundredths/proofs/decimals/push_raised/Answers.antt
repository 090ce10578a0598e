-- `hundredths::decimals::push_raised` meets its contract: a sign below 100,000 only. Assumes nothing.
use mathlib.Core.Path.{◌≡◌}
use Prim.Native.Nat.{suc, ◌-◌}
use native.Mathlib.Omega.{arith}
use Rattle.words.proofs.Writing.{joined}
use Rattle.quoted.specs.Quoted.{quoted}
use Rattle.hundredths.specs.Decimals.{two_decimals}
use Rattle.hundredths.proofs.Raised.{lowered_below}
use Rattle.hundredths.proofs.decimals.push_raised.Goals as goal

pub returns-else-raised-ge100000 : goal.returns-else-raised-ge100000
unfolding two_decimals quoted
returns-else-raised-ge100000 g c =
    let r = c.args.raised in
    let e : suc (99999 - r) ≡ 100000 - r = omega arith in
    rw (lowered_below r (omega arith), e) (joined c.push.ensures c.push_hundredths-else-raised-ge100000.ensures)
