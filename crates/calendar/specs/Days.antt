-- Document 02, card 4: the days of the calendar, counted one by one from 1 January 2000. Definitions only.
use Rattle.std.specs.Prelude.{ℕ, zero, suc, ◌+◌, ◌-◌, ◌%◌, ◌≤◌, ◌<◌, ◌≡◌, Bool, true, false, cond, not, ◌&&◌, ◌||◌, List, [], ◌∷◌, get_or, eqb}

-- ---- years and months

abbrev pub divides : ℕ → ℕ → Bool
divides k n = eqb (n % k) 0

-- every fourth year, but of the whole hundreds only every fourth
unfoldable pub leap : ℕ → Bool
leap year = divides 4 year && (not (divides 100 year) || divides 400 year)

abbrev pub february : ℕ → ℕ
february year = cond (leap year) 29 28

-- by month, with the days of February; there is no month 0
abbrev pub lengths : ℕ → List ℕ
lengths days = 0 ∷ 31 ∷ days ∷ 31 ∷ 30 ∷ 31 ∷ 30 ∷ 31 ∷ 31 ∷ 30 ∷ 31 ∷ 30 ∷ 31 ∷ []

-- the days of a month, 1 for January; a month that there isn't has none
unfoldable pub month_length : ℕ → ℕ → ℕ
month_length year month = get_or (lengths (february year)) month 0

-- ---- how many days lie between 1 January 2000 and a date

-- the days of a year's first months
unfoldable pub days_of_months : ℕ → ℕ → ℕ
days_of_months year zero = 0
days_of_months year (suc months) = days_of_months year months + month_length year (suc months)

-- the days of the years from 2000 on
unfoldable pub days_of_years : ℕ → ℕ
days_of_years zero = 0
days_of_years (suc years) = days_of_years years + days_of_months (2000 + years) 12

-- those of the years, months and days before it
unfoldable pub days_after : ℕ → ℕ → ℕ → ℕ
days_after year month day = days_of_years (year - 2000) + days_of_months year (month - 1) + (day - 1)

-- ---- the days' names

pub data Weekday : Type 0 where
  Monday Tuesday Wednesday Thursday Friday Saturday Sunday : Weekday

abbrev pub tomorrow : Weekday → Weekday
tomorrow Monday = Tuesday
tomorrow Tuesday = Wednesday
tomorrow Wednesday = Thursday
tomorrow Thursday = Friday
tomorrow Friday = Saturday
tomorrow Saturday = Sunday
tomorrow Sunday = Monday

-- so many days after 1 January 2000, which was a Saturday
unfoldable pub named : ℕ → Weekday
named zero = Saturday
named (suc days) = tomorrow (named days)

abbrev pub weekday : ℕ → ℕ → ℕ → Weekday
weekday year month day = named (days_after year month day)

-- ---- the last Sunday of a month

-- a Sunday, after which no Sunday follows in that month
pub record LastSunday (year month day : ℕ) : Type 0 where
  pub from : 1 ≤ day
  pub to : day ≤ month_length year month
  pub sunday : weekday year month day ≡ Sunday
  pub last : (later : ℕ) → day < later → later ≤ month_length year month → weekday year month later ≡ Sunday → ⊥

abbrev pub is_sunday : Weekday → Bool
is_sunday Monday = false
is_sunday Tuesday = false
is_sunday Wednesday = false
is_sunday Thursday = false
is_sunday Friday = false
is_sunday Saturday = false
is_sunday Sunday = true

-- the last of the month's first days that is a Sunday, 0 where none is
unfoldable pub last_sunday_to : ℕ → ℕ → ℕ → ℕ
last_sunday_to year month zero = 0
last_sunday_to year month (suc days) =
    cond (is_sunday (weekday year month (suc days))) (suc days) (last_sunday_to year month days)

-- the day that `LastSunday` says, from the month's last day backwards
unfoldable pub last_sunday : ℕ → ℕ → ℕ
last_sunday year month = last_sunday_to year month (month_length year month)
