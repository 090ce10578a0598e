-- Card 4's laws of a service's hours: what a clock shows that goes through the minutes of the day. Assumes nothing.
use Prim.Native.Nat.{ℕ, suc, ◌≤◌, ◌<◌}
use mathlib.Core.Path.{◌≡◌, refl}
use mathlib.Core.Bool.{Bool, true, false, cond}
use mathlib.Core.Logic.{⊎_elim}
use native.Mathlib.Omega.{arith}
use lib.Dec.{eqb}
use borrow.Author.Tests.{le-leb, lt-leb, lt-ltb, le-ltb, eq-eqb, ne_eqb}
use Rattle.calendar.specs.Hours.{is_open}
use Rattle.calendar.proofs.Tests.{le_or_lt, same_test}

-- with both equal it is open all day
pub open_all_day : (first minute : ℕ) → is_open first first minute ≡ true
unfolding is_open
open_all_day first minute = rw (eq-eqb first first refl)

either_way : (b : Bool) → cond b true true ≡ true
either_way true = refl
either_way false = refl

pub open_at_first : (first end : ℕ) → is_open first end first ≡ true
unfolding is_open
open_at_first first end = ⊎_elim
    (λ (p : end ≤ first). rw (le-ltb first end p, le-leb first first (omega arith)) (either_way (eqb first end)))
    (λ (q : first < end). rw (ne_eqb first end (λ e. omega arith), lt-ltb first end q, le-leb first first (omega arith)))
    (le_or_lt end first)

pub shut_at_end : (first end : ℕ) → (first ≡ end → ⊥) → is_open first end end ≡ false
unfolding is_open
shut_at_end first end ne = ⊎_elim
    (λ (p : end ≤ first). rw (ne_eqb first end ne, le-ltb first end p, lt-leb first end (omega arith), le-ltb end end (omega arith)))
    (λ (q : first < end). rw (ne_eqb first end ne, lt-ltb first end q, le-leb first end (omega arith), le-ltb end end (omega arith)))
    (le_or_lt end first)

-- at any other minute it is as the minute before
pub open_on : (first end minute : ℕ) → (suc minute ≡ first → ⊥) → (suc minute ≡ end → ⊥) → is_open first end (suc minute) ≡ is_open first end minute
unfolding is_open
open_on first end minute not_first not_end =
    rw (
      same_test first (suc minute) first minute (λ h. omega arith) (λ h. omega arith),
      same_test (suc (suc minute)) end (suc minute) end (λ h. omega arith) (λ h. omega arith),
    )

-- and at midnight as at 23:59
pub open_past_midnight : (first end : ℕ) → 1 ≤ first → 1 ≤ end → first ≤ 1439 → end ≤ 1439 → is_open first end 0 ≡ is_open first end 1439
unfolding is_open
open_past_midnight first end a b c d =
    rw (lt-leb first 0 a, lt-ltb 0 end b, le-leb first 1439 c, le-ltb 1439 end d)
