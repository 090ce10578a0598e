-- A shown plate's entries are its numbers and its kinds, as a row. Assumes nothing.
use Prim.Native.Nat.{ℕ, zero, suc, ◌<◌}
use mathlib.Core.Path.{◌≡◌, refl, sym, ap, ◌∙◌}
use mathlib.Core.List.{List, [], ◌∷◌, map, map-append}
use native.Mathlib.Omega.{arith}
use lib.ListN.{length, get_or}
use lib.IntN.{pos, nat_abs, -ℤ-+ℤ_cancel}
use Rattle.hundredths.specs.Raised.{lowered}
use Rattle.shown.specs.InOrder.{up_to}
use Rattle.answers.specs.declared.Kind.TheVariants as kind
use Rattle.shown.specs.Plate.{Entry, entry_at, entries_of}
use Rattle.dial.specs.declared.Row.{Row}
use Rattle.shown.specs.Rows.{raised, numbers_of, kinds_of}

up_to_front : {A : Type 0} (f : ℕ → A) (n : ℕ) → up_to f (suc n) ≡ f 0 ∷ up_to (λ (k : ℕ). f (suc k)) n
unfolding up_to
up_to_front f zero = refl
up_to_front f (suc n) = rw (up_to_front f n)

-- a list by its entries
up_to_entries : {A : Type 0} (l : List A) (f : ℕ → A) (d : A) → ((k : ℕ) → k < length l → get_or l k d ≡ f k) → up_to f (length l) ≡ l
unfolding up_to
up_to_entries [] f d same = refl
up_to_entries (x ∷ l) f d same =
    up_to_front f (length l) ∙ rw (← same 0 (omega arith), up_to_entries l (λ (k : ℕ). f (suc k)) d (λ k h. same (suc k) (omega arith)))

map-up-to : {A B : Type 0} (g : A → B) (f : ℕ → A) (n : ℕ) → map g (up_to f n) ≡ up_to (λ (k : ℕ). g (f k)) n
unfolding up_to
map-up-to g f zero = refl
map-up-to g f (suc n) = rw (map-append g (up_to f n) (f n ∷ []), map-up-to g f n)

raised-lowered : (r : ℕ) → raised (lowered r) ≡ r
unfolding raised lowered
raised-lowered r = ap nat_abs (-ℤ-+ℤ_cancel (pos r) (pos 100000))

module _ (s : Row) where
  pub numbers_shown : length s.numbers ≡ 360 → numbers_of (entries_of s) ≡ s.numbers
  unfolding numbers_of
  numbers_shown len =
      map-up-to (λ (e : Entry). raised e.1) (entry_at s) 360
      ∙ ap (up_to (λ (k : ℕ). raised (lowered (get_or s.numbers k 0)))) (sym len)
      ∙ up_to_entries s.numbers _ 0 (λ k h. sym (raised-lowered (get_or s.numbers k 0)))

  pub kinds_shown : length s.kinds ≡ 360 → kinds_of (entries_of s) ≡ s.kinds
  unfolding kinds_of
  kinds_shown len =
      map-up-to (λ (e : Entry). e.0) (entry_at s) 360
      ∙ ap (up_to (λ (k : ℕ). get_or s.kinds k kind.Level)) (sym len)
      ∙ up_to_entries s.kinds _ kind.Level (λ k h. refl)
