-- What a time of the calendar is, and the order of two. Assumes nothing.
use Prim.Native.Nat.{ℕ, zero, suc, ◌+◌, ◌-◌, ◌*◌, ◌≤◌, ◌<◌}
use mathlib.Core.Path.{◌≡◌, refl, ap}
use mathlib.Core.Bool.{Bool, true, false, cond, ◌&&◌, and-eq-true_iff}
use mathlib.Core.Logic.{⊎_elim}
use native.Mathlib.Omega.{arith}
use lib.Dec.{ltb, leb}
use borrow.Author.Tests.{leb-true, le-leb}
use Rattle.std.specs.Ordering.{partial_lt}
use Rattle.std.proofs.lemmas.Bool.Decides.{nat_tests}
use Rattle.answers.specs.Refusals.{CALENDAR}
use Rattle.calendar.specs.declared.time.Time.{Time}
use Rattle.calendar.specs.Days.{month_length, days_of_months, days_of_years, days_after}
use Rattle.calendar.specs.Times.{is_date, is_time, refusal_of, minutes, before}
use Rattle.calendar.specs.contracts.time.TimePartialOrd.TheImpl.{partial_cmp-value}
use Rattle.calendar.proofs.Tests.{le_or_lt}
use Rattle.calendar.proofs.Days.{month_usual, month_real, months_grow, years_grow}

-- what the test says
pub record Real (t : Time) : Type 0 where
  pub year_from : 2000 ≤ t.year
  pub year_to : t.year ≤ 2099
  pub month-from : 1 ≤ t.month
  pub month-to : t.month ≤ 12
  pub day-from : 1 ≤ t.day
  pub day-to : t.day ≤ month_length t.year t.month
  pub minute-to : t.minute ≤ 1439

pub real : (t : Time) → is_time t ≡ true → Real t
unfolding is_time is_date
real t h =
    let minute = (and-eq-true_iff (is_date t) (leb t.minute 1439)).0 h in
    let in-years = leb 2000 t.year && leb t.year 2099 in
    let day-to = (and-eq-true_iff (in-years && leb 1 t.day) (leb t.day (month_length t.year t.month))).0 minute.0 in
    let day-from = (and-eq-true_iff in-years (leb 1 t.day)).0 day-to.0 in
    let years = (and-eq-true_iff (leb 2000 t.year) (leb t.year 2099)).0 day-from.0 in
    let from : 1 ≤ t.day = leb-true 1 t.day day-from.1 in
    let to : t.day ≤ month_length t.year t.month = leb-true t.day (month_length t.year t.month) day-to.1 in
    let month = month_real t.year t.month (omega arith) in
    record {
      year_from = leb-true 2000 t.year years.0;
      year_to = leb-true t.year 2099 years.1;
      month-from = month.0;
      month-to = month.1;
      day-from = from;
      day-to = to;
      minute-to = leb-true t.minute 1439 minute.1;
    }

pub is_time_lem : (t : Time) → 2000 ≤ t.year → t.year ≤ 2099 → 1 ≤ t.day → t.day ≤ month_length t.year t.month → t.minute ≤ 1439 → is_time t ≡ true
unfolding is_time is_date
is_time_lem t a b c d e = rw (le-leb _ _ a, le-leb _ _ b, le-leb _ _ c, le-leb _ _ d, le-leb _ _ e)

pub none_refused : (t : Time) → refusal_of t ≤ 0 → is_time t ≡ true
unfolding refusal_of
none_refused t h = by_test (is_time t) h
  where
    by_test : (b : Bool) → cond b 0 CALENDAR ≤ 0 → b ≡ true
    by_test true k = refl
    by_test false k = absurd (omega arith)

-- ---- order

-- a day lies before the first of the next month
in_month : (year month day : ℕ) → 1 ≤ month → day ≤ month_length year month → days_of_months year (month - 1) + day ≤ days_of_months year month
unfolding days_of_months
in_month year zero day from to = absurd (omega arith)
in_month year (suc m) day from to = let e : suc m - 1 ≡ m = omega arith in rw e (omega arith)

-- and a month before the first of the next year
in_year : (year month : ℕ) → 2000 ≤ year → month ≤ 12 → days_of_years (year - 2000) + days_of_months year month ≤ days_of_years (suc (year - 2000))
unfolding days_of_years
in_year year month from to =
    let e : 2000 + (year - 2000) ≡ year = omega arith in
    omega (arith, months_grow year month 12 to, ap (λ (y : ℕ). days_of_months y 12) e)

-- the later of two times of a year has the greater number
abbrev pub place_of : Time → ℕ
place_of t = (t.month * 32 + t.day) * 1440 + t.minute

module _ (s t : Time) (rs : Real s) (rt : Real t) where
  from_month : days_of_months s.year (s.month - 1) + s.day ≤ days_of_months s.year s.month
  from_month = in_month s.year s.month s.day rs.month-from rs.day-to

  pub earlier_year : s.year < t.year → minutes s < minutes t
  unfolding minutes days_after
  earlier_year h = omega (
    arith,
    from_month,
    in_year s.year s.month rs.year_from rs.month-to,
    years_grow (suc (s.year - 2000)) (t.year - 2000) (omega arith),
  )

  pub earlier-month : s.year ≡ t.year → s.month < t.month → minutes s < minutes t
  unfolding minutes days_after
  earlier-month same h = omega (
    arith,
    from_month,
    months_grow s.year s.month (t.month - 1) (omega arith),
    ap (λ (y : ℕ). days_of_years (y - 2000) + days_of_months y (t.month - 1)) same,
  )

  -- in one month both count alike
  one-month : s.year ≡ t.year → s.month ≡ t.month → minutes s + (t.day * 1440 + t.minute) ≡ minutes t + (s.day * 1440 + s.minute)
  unfolding minutes days_after
  one-month same e = omega (
    arith,
    rs.day-from,
    rt.day-from,
    ap (λ (y : ℕ). days_of_years (y - 2000) + days_of_months y (s.month - 1)) same,
    ap (λ (m : ℕ). days_of_months t.year (m - 1)) e,
  )

-- the other way round
pub year_order : (s t : Time) → Real s → Real t → minutes s ≤ minutes t → s.year ≤ t.year
year_order s t rs rt h = ⊎_elim
    (λ p. p)
    (λ (later : t.year < s.year). absurd (omega (arith, earlier_year t s rt rs later)))
    (le_or_lt s.year t.year)

-- so times in their derived order are in the order of time
pub in_order_of_time : (s t : Time) → is_time s ≡ true → is_time t ≡ true → partial_lt partial_cmp-value.it s t ≡ before s t
in_order_of_time s t a b =
    let rs = real s a in
    let rt = real t b in
    grind (
      arith,
      nat_tests,
      earlier_year s t rs rt,
      earlier_year t s rt rs,
      earlier-month s t rs rt,
      earlier-month t s rt rs,
      one-month s t rs rt,
      rs.minute-to,
      rt.minute-to,
    )

day_short : (t : Time) → Real t → t.day ≤ 31
day_short t r =
    let usual = month_usual t.year t.month r.month-from r.month-to in
    omega (arith, r.day-to)

-- and in one year their places, of months of 32 days, are
pub in_order : (s t : Time) → Real s → Real t → s.year ≡ t.year → ltb (place_of s) (place_of t) ≡ ltb (minutes s) (minutes t)
in_order s t rs rt same =
    grind (
      arith,
      nat_tests,
      earlier-month s t rs rt same,
      earlier-month t s rt rs,
      one-month s t rs rt same,
      day_short s rs,
      day_short t rt,
      rs.minute-to,
      rt.minute-to,
    )
