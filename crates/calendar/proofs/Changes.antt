-- The changes of season, their days and their order. Assumes nothing.
use Prim.Native.Nat.{ℕ, zero, suc, ◌+◌, ◌-◌, ◌/◌, ◌%◌, ◌≤◌, ◌<◌}
use mathlib.Core.Path.{◌≡◌, refl}
use mathlib.Core.Bool.{true, false, cond}
use mathlib.Core.Logic.{⊎_elim}
use Rattle.std.specs.Prelude.{Option, None, Some}
use Rattle.std.specs.Ordering.{partial_lt}
use native.Mathlib.Omega.{arith}
use native.Mathlib.Numerals.{add-one}
use lib.Dec.{eqb}
use borrow.Author.Tests.{lt-ltb, le-ltb, eq-eqb, ne_eqb}
use Rattle.calendar.specs.declared.time.Time.{Time}
use Rattle.calendar.specs.Days.{month_length, last_sunday}
use Rattle.calendar.specs.Times.{is_time, minutes, before}
use Rattle.calendar.specs.Seasons.{change, to_a, to_b, changes_from, first_after, next_change}
use Rattle.calendar.specs.contracts.time.TimePartialOrd.TheImpl.{partial_cmp-value}
use Rattle.calendar.proofs.Tests.{le_or_lt}
use Rattle.calendar.proofs.Days.{march_counted, october_counted}
use Rattle.calendar.proofs.Sundays.{last-sunday, last-sunday-by-remainder}
use Rattle.calendar.proofs.Times.{Real, real, is_time_lem, earlier_year, in_order_of_time}

-- ---- their days, as the code works them out

module _ (year : ℕ) (from : 2000 ≤ year) (to : year ≤ 2099) where
  abbrev years : ℕ
  years = year - 2000

  same : 2000 + years ≡ year
  same = omega arith

  pub march_day : last_sunday year 3 ≡ 31 - (years + years / 4 + 5) % 7
  unfolding month_length
  march_day =
      omega (arith, last-sunday-by-remainder year 3 (omega arith) (omega arith), rw same at (march_counted years 31 (omega arith) (omega arith)))

  pub october_day : last_sunday year 10 ≡ 31 - (years + years / 4 + 2) % 7
  unfolding month_length
  october_day =
      omega (arith, last-sunday-by-remainder year 10 (omega arith) (omega arith), rw same at (october_counted years 31 (omega arith) (omega arith)))

-- ---- they are times

pub change_is_time : (year month : ℕ) → 2000 ≤ year → year ≤ 2099 → 1 ≤ month → month ≤ 12 → is_time (change year month) ≡ true
change_is_time year month a b c d =
    let sunday = last-sunday year month c d in
    is_time_lem (change year month) a b sunday.from sunday.to (omega arith)

-- so the changes of a time's own year can be set against it
pub in_years : (t : Time) → is_time t ≡ true → (2000 ≤ t.year) × (t.year ≤ 2099)
in_years t h = let r = real t h in (r.year_from, r.year_to)

pub before_a : (t : Time) → is_time t ≡ true → partial_lt partial_cmp-value.it t (to_a t.year) ≡ before t (to_a t.year)
before_a t h = let r = real t h in in_order_of_time t (to_a t.year) h (change_is_time t.year 3 r.year_from r.year_to (omega arith) (omega arith))

pub before_b : (t : Time) → is_time t ≡ true → partial_lt partial_cmp-value.it t (to_b t.year) ≡ before t (to_b t.year)
before_b t h = let r = real t h in in_order_of_time t (to_b t.year) h (change_is_time t.year 10 r.year_from r.year_to (omega arith) (omega arith))

pub change_real : (year month : ℕ) → 2000 ≤ year → year ≤ 2099 → 1 ≤ month → month ≤ 12 → Real (change year month)
change_real year month a b c d = real (change year month) (change_is_time year month a b c d)

-- ---- the next one, among those of the time's year and the next

module _ (t : Time) (r : Real t) where
  abbrev year : ℕ
  year = t.year

  abbrev next_in_year : Option Time
  next_in_year =
      cond (before t (to_a year)) (Some (to_a year))
      (cond (before t (to_b year)) (Some (to_b year))
      (cond (eqb year 2099) None (Some (to_a (suc year)))))

  -- a change of an earlier year isn't later
  past : (y month : ℕ) → 2000 ≤ y → y < year → 1 ≤ month → month ≤ 12 → before t (change y month) ≡ false
  past y month a b c d =
      let less = earlier_year (change y month) t (change_real y month a (omega arith) c d) r b in
      le-ltb (minutes t) (minutes (change y month)) (omega arith)

  following : (n : ℕ) → year + suc n ≡ 2100 → first_after t (changes_from (suc year) n) ≡ cond (eqb year 2099) None (Some (to_a (suc year)))
  unfolding first_after changes_from
  following zero e = rw (eq-eqb year 2099 (omega arith))
  following (suc n) e =
      let less = earlier_year t (to_a (suc year)) r (change_real (suc year) 3 (omega arith) (omega arith) (omega arith) (omega arith)) (omega arith) in
      rw (ne_eqb year 2099 (λ h. omega arith), lt-ltb (minutes t) (minutes (to_a (suc year))) less)

  reached : (n y : ℕ) → 2000 ≤ y → y ≤ year → y + n ≡ 2100 → first_after t (changes_from y n) ≡ next_in_year
  unfolding first_after changes_from
  reached zero y a b e = absurd (omega arith)
  reached (suc n) y a b e = ⊎_elim
      (λ (p : year ≤ y). let same : y ≡ year = omega arith in rw (same, following n (omega arith)))
      (λ (q : y < year). rw (past y 3 a q (omega arith) (omega arith), past y 10 a q (omega arith) (omega arith)) (reached n (suc y) (omega arith) q (omega arith)))
      (le_or_lt year y)

  pub next_in_year_lem : next_change t ≡ next_in_year
  unfolding next_change
  next_in_year_lem = reached 100 2000 (omega arith) r.year_from refl

pub next_of_two : (t : Time) → is_time t ≡ true → next_change t ≡ cond (before t (to_a t.year)) (Some (to_a t.year)) (cond (before t (to_b t.year)) (Some (to_b t.year)) (cond (eqb t.year 2099) None (Some (to_a (t.year + 1)))))
next_of_two t h = rw add-one (next_in_year_lem t (real t h))

pub next_year_first : (t : Time) → is_time t ≡ true → before t (to_a t.year) ≡ false → before t (to_b t.year) ≡ false → (t.year ≡ 2099 → ⊥) → next_change t ≡ Some (to_a (t.year + 1))
next_year_first t h a b c = simp (next_of_two t h, a, b, ne_eqb t.year 2099 c)
