-- The names of days come round after seven. Assumes nothing.
use Prim.Native.Nat.{ℕ, zero, suc, ◌%◌}
use mathlib.Core.Path.{◌≡◌, refl, sym, ap, ◌∙◌}
use mathlib.Core.Bool.{true, false, false≢true}
use native.Mathlib.Omega.{arith}
use lib.Dec.{eqb}
use borrow.Author.Tests.{eq-eqb, eqb-true}
use Rattle.calendar.specs.Days.{Weekday, Monday, Tuesday, Wednesday, Thursday, Friday, Saturday, Sunday, tomorrow, named, is_sunday}

seven-on : (w : Weekday) → tomorrow (tomorrow (tomorrow (tomorrow (tomorrow (tomorrow (tomorrow w)))))) ≡ w
seven-on Monday = refl
seven-on Tuesday = refl
seven-on Wednesday = refl
seven-on Thursday = refl
seven-on Friday = refl
seven-on Saturday = refl
seven-on Sunday = refl

-- so many days after a Saturday, Sunday is the first and each seventh from it on
sunday-by-remainder : (n : ℕ) → is_sunday (named n) ≡ eqb (n % 7) 1
unfolding named
sunday-by-remainder zero = refl
sunday-by-remainder (suc zero) = refl
sunday-by-remainder (suc (suc zero)) = refl
sunday-by-remainder (suc (suc (suc zero))) = refl
sunday-by-remainder (suc (suc (suc (suc zero)))) = refl
sunday-by-remainder (suc (suc (suc (suc (suc zero))))) = refl
sunday-by-remainder (suc (suc (suc (suc (suc (suc zero)))))) = refl
sunday-by-remainder (suc (suc (suc (suc (suc (suc (suc n))))))) =
    let e : n % 7 ≡ suc (suc (suc (suc (suc (suc (suc n)))))) % 7 = omega arith in
    ap is_sunday (seven-on (named n)) ∙ sunday-by-remainder n ∙ ap (λ (r : ℕ). eqb r 1) e

named-sunday : (w : Weekday) → is_sunday w ≡ true → w ≡ Sunday
named-sunday Monday h = absurd (false≢true h)
named-sunday Tuesday h = absurd (false≢true h)
named-sunday Wednesday h = absurd (false≢true h)
named-sunday Thursday h = absurd (false≢true h)
named-sunday Friday h = absurd (false≢true h)
named-sunday Saturday h = absurd (false≢true h)
named-sunday Sunday h = refl

pub sunday_when : (n : ℕ) → n % 7 ≡ 1 → named n ≡ Sunday
sunday_when n h = named-sunday (named n) (sunday-by-remainder n ∙ eq-eqb (n % 7) 1 h)

pub sunday_only_when : (n : ℕ) → named n ≡ Sunday → n % 7 ≡ 1
sunday_only_when n h = eqb-true (n % 7) 1 (sym (sunday-by-remainder n) ∙ ap is_sunday h)

pub is-sunday : (w : Weekday) → w ≡ Sunday → is_sunday w ≡ true
is-sunday w e = ap is_sunday e

pub no_sunday : (w : Weekday) → (w ≡ Sunday → ⊥) → is_sunday w ≡ false
no_sunday Monday h = refl
no_sunday Tuesday h = refl
no_sunday Wednesday h = refl
no_sunday Thursday h = refl
no_sunday Friday h = refl
no_sunday Saturday h = refl
no_sunday Sunday h = absurd (h refl)
