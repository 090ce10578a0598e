-- `figures::push_difference` meets its contract: the words, then a sign where the difference is below 0. Assumes nothing.
use Prim.Native.Nat.{ℕ, suc, ◌-◌, ◌<◌}
use mathlib.Core.Path.{◌≡◌}
use mathlib.Core.List.{[], ◌∷◌, ◌++◌}
use native.Mathlib.Omega.{arith}
use lib.IntN.{pos}
use Rattle.quoted.specs.Quoted.{quoted}
use Rattle.hundredths.specs.Decimals.{two_decimals}
use Rattle.words.proofs.Writing.{joined, at_most}
use Rattle.figures.specs.Figures.{difference_of, difference}
use Rattle.figures.proofs.Laws.{difference-from, difference_below}
use Rattle.figures.proofs.push_difference.Goals as goal

-- a difference below 0 is its size behind a sign
signed : (a b : ℕ) → a < b → two_decimals (difference_of a b) ≡ (45 ∷ []) ++ two_decimals (pos (b - a))
unfolding two_decimals quoted
signed a b h = let e : suc (b - suc a) ≡ b - a = omega arith in rw (difference_below a b h, e)

pub returns-then-b-a : goal.returns-then-b-a
unfolding difference
returns-then-b-a g c =
    let a = c.args in
    rw (difference-from a.a a.b (omega arith)) (at_most (joined c.push_bytes.ensures c.push_hundredths.ensures) (omega arith))

pub returns-else-b-a : goal.returns-else-b-a
unfolding difference
returns-else-b-a g c =
    let a = c.args in
    rw (signed a.a a.b (omega arith)) (at_most (joined c.push_bytes.ensures (joined c.push.ensures c.push_hundredths-else-b-a.ensures)) (omega arith))
