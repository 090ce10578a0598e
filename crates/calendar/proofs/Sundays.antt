-- The last Sunday of a month, by the remainder of its last day's number. Assumes nothing.
use Prim.Native.Nat.{ℕ, zero, suc, ◌+◌, ◌-◌, ◌%◌, ◌≤◌, ◌<◌}
use mathlib.Core.Path.{◌≡◌, sym, subst}
use mathlib.Core.Logic.{⊎_elim}
use native.Mathlib.Omega.{arith}
use Rattle.calendar.specs.Days.{month_length, days_after, weekday, LastSunday, last_sunday_to, last_sunday}
use Rattle.calendar.proofs.Weeks.{sunday_when, sunday_only_when, is-sunday, no_sunday}
use Rattle.calendar.proofs.Tests.{le_or_lt}
use Rattle.calendar.proofs.Days.{month_usual}

-- ---- there is one, and only one

-- counted back from any day on after which no Sunday follows
found : {year month day : ℕ} → LastSunday year month day → (n : ℕ) → day ≤ n → n ≤ month_length year month → last_sunday_to year month n ≡ day
unfolding last_sunday_to
found h zero from to = absurd (omega (arith, h.from))
found {year} {month} {day} h (suc n) from to = ⊎_elim
    (λ (p : day ≤ n). rw (no_sunday (weekday year month (suc n)) (h.last (suc n) (omega arith) to)) (found h n p (omega arith)))
    (λ (q : n < day).
    let e : suc n ≡ day = omega arith in
    rw (e, is-sunday (weekday year month day) h.sunday))
    (le_or_lt day n)

pub only-last-sunday : {year month day : ℕ} → LastSunday year month day → last_sunday year month ≡ day
unfolding last_sunday
only-last-sunday {year} {month} h = found h (month_length year month) h.to (omega arith)

-- ---- which it is

module _ (year month : ℕ) (from : 1 ≤ month) (to : month ≤ 12) where
  abbrev end : ℕ
  end = month_length year month

  -- days from the last Sunday to the month's end
  abbrev past : ℕ
  past = (days_after year month end + 6) % 7

  by-remainder : LastSunday year month (end - past)
  unfolding days_after
  by-remainder = let usual = month_usual year month from to in record {
    from = omega arith;
    to = omega arith;
    sunday = sunday_when (days_after year month (end - past)) (omega arith);
    last = λ later h1 h2 s. omega (arith, sunday_only_when (days_after year month later) s);
  }

  pub last-sunday : LastSunday year month (last_sunday year month)
  last-sunday = subst (LastSunday year month) (sym (only-last-sunday by-remainder)) by-remainder

  pub last-sunday-by-remainder : last_sunday year month ≡ end - past
  last-sunday-by-remainder = only-last-sunday by-remainder

  -- in the month's last seven days
  pub last_sunday_late : month_length year month ≤ last_sunday year month + 6
  last_sunday_late = omega (arith, last-sunday-by-remainder)
