-- Days are counted one by one, through months, years and leap years. Assumes nothing.
use Prim.Native.Nat.{ℕ, zero, suc, ◌+◌, ◌-◌, ◌*◌, ◌/◌, ◌%◌, ◌≤◌, ◌<◌}
use mathlib.Core.Path.{◌≡◌, refl}
use mathlib.Core.Bool.{Bool, true, false, cond, ◌&&◌}
use mathlib.Core.List.{List, [], ◌∷◌}
use mathlib.Core.Logic.{⊎_elim}
use native.Mathlib.Nat.{add-sub_cancel_left}
use native.Mathlib.Omega.{arith}
use lib.ListN.{length, drop, get_or, get_or-eq_default}
use lib.Dec.{eqb}
use borrow.Author.Tests.{ne_eqb, eqb-true, eqb-false}
use Rattle.calendar.specs.Days.{leap, february, lengths, month_length, days_of_months, days_of_years, days_after}
use Rattle.calendar.proofs.Tests.{le_or_lt}

-- what grows at each step grows
grows : (f : ℕ → ℕ) → ((n : ℕ) → f n ≤ f (suc n)) → (a b : ℕ) → a ≤ b → f a ≤ f b
grows f step a zero h = let e : a ≡ 0 = omega arith in rw e (omega arith)
grows f step a (suc b) h =
    ⊎_elim (λ (p : a ≤ b). omega (arith, grows f step a b p, step b)) (λ (q : b < a). let e : a ≡ suc b = omega arith in rw e (omega arith)) (le_or_lt a b)

-- ---- months

abbrev Every : (ℕ → Type 0) → List ℕ → Type 0
Every P [] = Unit {0}
Every P (x ∷ xs) = P x × Every P xs

every : (P : ℕ → Type 0) (l : List ℕ) → Every P l → (i : ℕ) → i < length l → P (get_or l i 0)
every P [] w i h = absurd (omega arith)
every P (x ∷ l) w zero h = w.0
every P (x ∷ l) w (suc i) h = every P l w.1 i (omega arith)

abbrev Usual : ℕ → Type 0
Usual days = (28 ≤ days) × (days ≤ 31)

february_usual : (b : Bool) → Usual (cond b 29 28)
february_usual true = omega arith
february_usual false = omega arith

pub month_usual : (year month : ℕ) → 1 ≤ month → month ≤ 12 → (28 ≤ month_length year month) × (month_length year month ≤ 31)
unfolding month_length
month_usual year zero from to = absurd (omega arith)
month_usual year (suc m) from to =
    let usual : Usual (february year) = february_usual (leap year) in
    every Usual (drop 1 (lengths (february year))) (omega arith) m (omega arith)

-- only a month from 1 to 12 has a day
pub month_real : (year month : ℕ) → 1 ≤ month_length year month → (1 ≤ month) × (month ≤ 12)
unfolding month_length
month_real year zero h = absurd (omega arith)
month_real year (suc m) h =
    let no_more : 12 < suc m → ⊥ = λ past. omega (arith, get_or-eq_default (lengths (february year)) 0 {n = suc m} past) in
    (omega arith, ⊎_elim (λ p. p) (λ past. absurd (no_more past)) (le_or_lt (suc m) 12))

pub months_grow : (year a b : ℕ) → a ≤ b → days_of_months year a ≤ days_of_months year b
unfolding days_of_months
months_grow year a b h = grows (days_of_months year) (λ n. omega arith) a b h

-- ---- years

pub year_length : (year : ℕ) → days_of_months year 12 ≡ 337 + february year
unfolding days_of_months month_length
year_length year = omega arith

pub years_grow : (a b : ℕ) → a ≤ b → days_of_years a ≤ days_of_years b
unfolding days_of_years
years_grow a b h = grows days_of_years (λ n. omega arith) a b h

and-true : (b : Bool) → (b && true) ≡ b
and-true true = refl
and-true false = refl

-- from 2000 to 2099 it is every fourth year
leap_in : (k : ℕ) → k ≤ 99 → leap (2000 + k) ≡ eqb (k % 4) 0
unfolding leap
leap_in zero h = refl
leap_in (suc j) h =
    let fourth : (2000 + suc j) % 4 ≡ suc j % 4 = omega arith in
    let hundred : (2000 + suc j) % 100 ≡ 0 → ⊥ = λ e. omega arith in
    rw (fourth, ne_eqb _ _ hundred) (and-true (eqb (suc j % 4) 0))

-- the leap days of the years before, and of this one
february_in : (k : ℕ) → k ≤ 99 → february (2000 + k) + (k + 3) / 4 ≡ 29 + k / 4
february_in k h = rw (leap_in k h) (by_test (eqb (k % 4) 0) (eqb-true (k % 4) 0) (eqb-false (k % 4) 0))
  where
    by_test : (t : Bool) → (t ≡ true → k % 4 ≡ 0) → (t ≡ false → k % 4 ≡ 0 → ⊥) → cond t 29 28 + (k + 3) / 4 ≡ 29 + k / 4
    by_test true f g = let e : k % 4 ≡ 0 = f refl in omega arith
    by_test false f g = let e : k % 4 ≡ 0 → ⊥ = g refl in omega arith

years_counted : (k : ℕ) → k ≤ 100 → days_of_years k ≡ 365 * k + (k + 3) / 4
unfolding days_of_years
years_counted zero h = refl
years_counted (suc k) h =
    omega (arith, years_counted k (omega arith), year_length (2000 + k), february_in k (omega arith))

-- ---- days

pub first-day : days_after 2000 1 1 ≡ 0
unfolding days_after days_of_years days_of_months
first-day = refl

pub next-day : (year month day : ℕ) → 1 ≤ day → days_after year month (suc day) ≡ suc (days_after year month day)
unfolding days_after
next-day year month day h = omega arith

pub next-month : (year month : ℕ) → 1 ≤ month → month < 12 → days_after year (suc month) 1 ≡ suc (days_after year month (month_length year month))
unfolding days_after days_of_months
next-month year zero from to = absurd (omega arith)
next-month year (suc m) from to =
    let e : suc (suc m) - 1 ≡ suc m = omega arith in
    let e' : suc m - 1 ≡ m = omega arith in
    rw (e, e') (omega (arith, month_usual year (suc m) from (omega arith)))

pub next_year : (year : ℕ) → 2000 ≤ year → days_after (suc year) 1 1 ≡ suc (days_after year 12 31)
unfolding days_after days_of_years days_of_months month_length
next_year year h =
    let e : suc year - 2000 ≡ suc (year - 2000) = omega arith in
    let same : 2000 + (year - 2000) ≡ year = omega arith in
    rw (e, same) (omega arith)

-- the days of March and October, from 2000 to 2099
pub march_counted : (k day : ℕ) → k ≤ 99 → 1 ≤ day → days_after (2000 + k) 3 day ≡ 365 * k + k / 4 + 59 + day
unfolding days_after days_of_months month_length
march_counted k day h from =
    rw (add-sub_cancel_left 2000 k) (omega (arith, years_counted k (omega arith), february_in k h))

pub october_counted : (k day : ℕ) → k ≤ 99 → 1 ≤ day → days_after (2000 + k) 10 day ≡ 365 * k + k / 4 + 273 + day
unfolding days_after days_of_months month_length
october_counted k day h from =
    rw (add-sub_cancel_left 2000 k) (omega (arith, years_counted k (omega arith), february_in k h))
