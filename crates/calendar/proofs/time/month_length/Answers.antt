-- `month_length`: its table has February of other years, which a leap year changes. Assumes nothing.
use Prim.Native.Nat.{ℕ, zero, suc}
use mathlib.Core.Bool.{Bool, true, false, cond, ◌&&◌, and-eq-true_iff, true≢false}
use mathlib.Core.Path.{refl, ◌≡◌, sym, ◌∙◌}
use lib.Dec.{eqb}
use lib.ListN.{get_or, get_or-eq_default}
use borrow.Author.Tests.{eqb-true}
use Rattle.calendar.specs.Days.{leap, february, lengths, month_length}
use Rattle.calendar.proofs.time.month_length.Goals as goal

leap-february : (year month : ℕ) → month ≡ 2 → leap year ≡ true → 29 ≡ month_length year month
unfolding month_length
leap-february year month e h = rw (e, h)

-- the table differs in February alone
elsewhere : (month : ℕ) (b : Bool) → (eqb month 2 && b) ≡ false → get_or (lengths 28) month 0 ≡ get_or (lengths (cond b 29 28)) month 0
elsewhere month false h = refl
elsewhere zero true h = refl
elsewhere (suc zero) true h = refl
elsewhere (suc (suc zero)) true h = absurd (true≢false h)
elsewhere (suc (suc (suc m))) true h = refl

pub returns-then-month-gt12 : goal.returns-then-month-gt12
unfolding month_length
returns-then-month-gt12 c = sym (get_or-eq_default (lengths (february c.args.year)) 0 c.if-month-gt12.true)

pub returns-then-month-is_leap : goal.returns-then-month-is_leap
returns-then-month-is_leap c =
    let a = c.args in
    let tests = (and-eq-true_iff (eqb a.month 2) c.is_leap.result).0 c.if-month-is_leap.true in
    leap-february a.year a.month (eqb-true a.month 2 tests.0) (sym c.is_leap.ensures ∙ tests.1)

pub returns : goal.returns
unfolding month_length
returns c =
    let a = c.args in
    elsewhere a.month (leap a.year) (rw c.is_leap.ensures at c.if-month-is_leap.false)
