-- Rows by their words. Assumes nothing.
use mathlib.Core.Path.{◌≡◌, refl}
use Prim.Native.Nat.{ℕ, zero, suc, ◌+◌, ◌*◌, ◌/◌, ◌<◌}
use native.Mathlib.Omega.{arith}
use mathlib.Core.List.{List, [], ◌∷◌}
use lib.ListN.{length, get_or}
use Rattle.bandbook.specs.Rows.{rows_in, row}

pub rows-length : (words : List ℕ) → length (rows_in words) ≡ length words / 3
unfolding rows_in
rows-length [] = refl
rows-length (a ∷ []) = refl
rows-length (a ∷ b ∷ []) = refl
rows-length (a ∷ b ∷ c ∷ rest) = omega (arith, rows-length rest)

-- row i is made of the three words from 3 i on
pub row_words : (words : List ℕ) (i : ℕ) → i < length words / 3
    → row (rows_in words) i ≡ record { low = get_or words (3 * i) 0; high = get_or words (3 * i + 1) 0; id = get_or words (3 * i + 2) 0 }
unfolding rows_in
row_words [] i h = absurd (omega arith)
row_words (a ∷ []) i h = absurd (omega arith)
row_words (a ∷ b ∷ []) i h = absurd (omega arith)
row_words (a ∷ b ∷ c ∷ rest) zero h = refl
row_words (a ∷ b ∷ c ∷ rest) (suc i) h =
    let e : 3 * suc i ≡ suc (suc (suc (3 * i))) = omega arith in
    let e₁ : 3 * suc i + 1 ≡ suc (suc (suc (3 * i + 1))) = omega arith in
    let e₂ : 3 * suc i + 2 ≡ suc (suc (suc (3 * i + 2))) = omega arith in
    rw (e₁, e₂, e) (row_words rest i (omega arith))

-- the row that three words make
pub row_of_three : (words : List ℕ) → length words ≡ 3 → row (rows_in words) 0 ≡ record { low = get_or words 0 0; high = get_or words 1 0; id = get_or words 2 0 }
row_of_three words h = row_words words 0 (omega arith)
