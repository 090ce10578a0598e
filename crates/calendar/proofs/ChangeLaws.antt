-- Card 4's laws of the changes of season: what they are, their days and their order. Assumes nothing.
use Prim.Native.Nat.{ℕ, ◌≤◌, ◌<◌}
use mathlib.Core.Path.{◌≡◌, refl, sym, ap, subst, ◌∙◌}
use mathlib.Core.Logic.{◌⊎◌, inl, inr, ⊎_elim}
use native.Mathlib.Omega.{arith}
use Rattle.calendar.specs.declared.time.Time.{Time}
use Rattle.calendar.specs.Days.{leap, month_length, days_of_months, days_of_years, days_after, named, weekday, Sunday, last_sunday_to, last_sunday}
use Rattle.calendar.specs.Times.{minutes}
use Rattle.calendar.specs.Seasons.{change, to_a, to_b, IsChange}
use Rattle.calendar.proofs.Tests.{le_or_lt}
use Rattle.calendar.proofs.Sundays.{last-sunday, last_sunday_late, only-last-sunday}
use Rattle.calendar.proofs.Times.{Real, earlier_year, earlier-month, year_order}
use Rattle.calendar.proofs.Changes.{change_real}

-- ---- what they are

-- those of the definitions are just those of the sentence
pub is-change : (year month : ℕ) → 2000 ≤ year → year ≤ 2099 → (month ≡ 3) ⊎ (month ≡ 10) → IsChange (change year month)
is-change year month from to which =
    let real-month : (1 ≤ month) × (month ≤ 12) = ⊎_elim (λ e. omega arith) (λ e. omega arith) which in
    record { from = from; to = to; month = which; day = last-sunday year month real-month.0 real-month.1; minute = refl }

pub change-is : (c : Time) → IsChange c → (c ≡ to_a c.year) ⊎ (c ≡ to_b c.year)
change-is c h = ⊎_elim (λ e. inl (known 3 e)) (λ e. inr (known 10 e)) h.month
  where
    known : (month : ℕ) → c.month ≡ month → c ≡ change c.year month
    known month e =
        let day : c.day ≡ last_sunday c.year month = sym (only-last-sunday h.day) ∙ ap (last_sunday c.year) e in
        λ i. record { year = c.year; month = e i; day = day i; minute = h.minute i }

pub change_is_real : (c : Time) → IsChange c → Real c
change_is_real c h = ⊎_elim (made 3 (omega arith) (omega arith)) (made 10 (omega arith) (omega arith)) (change-is c h)
  where
    made : (month : ℕ) → 1 ≤ month → month ≤ 12 → c ≡ change c.year month → Real c
    made month from to e = subst Real (sym e) (change_real c.year month h.from h.to from to)

-- they fall on Sundays from the 25th on
pub change_days : (c : Time) → IsChange c → (25 ≤ c.day) × (c.day ≤ 31) × (weekday c.year c.month c.day ≡ Sunday)
unfolding month_length
change_days c h =
    let long : month_length c.year c.month ≡ 31 = ⊎_elim (ap (month_length c.year)) (ap (month_length c.year)) h.month in
    let r = change_is_real c h in
    let late = last_sunday_late c.year c.month r.month-from r.month-to in
    (omega (arith, only-last-sunday h.day), omega (arith, h.day.to), h.day.sunday)

-- ---- their order

module _ (year : ℕ) (from : 2000 ≤ year) (to : year ≤ 2099) where
  real_a : Real (to_a year)
  real_a = change_real year 3 from to (omega arith) (omega arith)

  real_b : Real (to_b year)
  real_b = change_real year 10 from to (omega arith) (omega arith)

  pub a_then_b : minutes (to_a year) < minutes (to_b year)
  a_then_b = earlier-month (to_a year) (to_b year) real_a real_b refl (omega arith)

  -- a year's first change, set against any other
  pub first_of_year : (d : Time) → IsChange d → year ≤ d.year → minutes (to_a year) ≤ minutes d
  first_of_year d h le = ⊎_elim
      (λ (p : d.year ≤ year).
      let same : d.year ≡ year = omega arith in
      ⊎_elim
      (λ e. omega (arith, ap minutes (e ∙ ap to_a same)))
      (λ e. omega (arith, ap minutes (e ∙ ap to_b same), a_then_b))
      (change-is d h))
      (λ (q : year < d.year). omega (arith, earlier_year (to_a year) d real_a (change_is_real d h) q))
      (le_or_lt d.year year)

  -- its second, set against those after the first
  pub second_of_year : (d : Time) → IsChange d → minutes (to_a year) < minutes d → minutes (to_b year) ≤ minutes d
  second_of_year d h after = ⊎_elim
      (λ (p : d.year ≤ year).
      let same : d.year ≡ year = omega (arith, year_order (to_a year) d real_a (change_is_real d h) (omega arith)) in
      ⊎_elim
      (λ e. absurd (omega (arith, ap minutes (e ∙ ap to_a same))))
      (λ e. omega (arith, ap minutes (e ∙ ap to_b same)))
      (change-is d h))
      (λ (q : year < d.year). omega (arith, earlier_year (to_b year) d real_b (change_is_real d h) q))
      (le_or_lt d.year year)

  -- and after it comes another year
  pub past_year : (d : Time) → IsChange d → minutes (to_b year) < minutes d → year < d.year
  past_year d h after = ⊎_elim
      (λ (p : d.year ≤ year).
      let same : d.year ≡ year = omega (arith, year_order (to_b year) d real_b (change_is_real d h) (omega arith)) in
      absurd (⊎_elim
      (λ e. omega (arith, ap minutes (e ∙ ap to_a same), a_then_b))
      (λ e. omega (arith, ap minutes (e ∙ ap to_b same)))
      (change-is d h)))
      (λ q. q)
      (le_or_lt d.year year)

-- ---- edges

-- in 2026, 29 March and 25 October
pub changes_2026 : (last_sunday 2026 3 ≡ 29) × (last_sunday 2026 10 ≡ 25)
unfolding last_sunday last_sunday_to days_after days_of_years days_of_months month_length leap named
changes_2026 = (refl, refl)
