-- Laws of a table's sum: one float more, and a table laid over lent floats. Assumes nothing.
use Rattle.std.proofs.Common.{◌≡◌, ℕ, suc, ◌+◌, ◌%◌, ◌^◌, ◌<◌, List, [], ◌∷◌, ◌++◌, length, get_or, take, sym, ap, ◌∙◌, arith, take_all, take-suc}
use mathlib.Core.List.{map-append}
use lib.Ieee.{Float, nan, binary32, to_bits}
use Rattle.words.specs.Laid.{laid}
use Rattle.words.specs.Patterns.{bits}
use Rattle.words.proofs.Laid.{take_laid}
use Rattle.model.specs.Table.{table_size}
use Rattle.antenna.specs.TableSum.{total, table_sum}

total_append : (xs ys : List ℕ) → total (xs ++ ys) ≡ total xs + total ys
unfolding total
total_append [] ys = omega arith
total_append (x ∷ xs) ys = omega (arith, total_append xs ys)

total-next : (t : List Float) (i : ℕ) → i < length t → total (bits (take (suc i) t)) ≡ total (bits (take i t)) + to_bits binary32 (get_or t i nan)
unfolding total
total-next t i h =
    let x = get_or t i nan in
    ap (λ (l : List Float). total (bits l)) (take-suc t i nan h)
    ∙ ap total (map-append (to_bits binary32) (take i t) (x ∷ []))
    ∙ omega (arith, total_append (bits (take i t)) (bits (x ∷ [])))

-- one float more
pub sum-next : (t : List Float) (i sum : ℕ) → i < length t → sum ≡ total (bits (take i t)) % 2 ^ 32
    → (sum + to_bits binary32 (get_or t i nan)) % 2 ^ 32 ≡ total (bits (take (suc i) t)) % 2 ^ 32
sum-next t i sum h e = omega (arith, e, total-next t i h)

first-laid : (n : ℕ) (lent t : List Float) → length t ≡ n → take n (laid lent 0 t) ≡ take n t
first-laid n lent t e = take_laid lent 0 t n (omega (arith, e)) (omega arith) ∙ sym (take_all n t (omega (arith, e)))

-- floats past the table don't count
pub sum_laid : (lent t : List Float) → length t ≡ table_size → table_sum (laid lent 0 t) ≡ table_sum t
unfolding table_sum
sum_laid lent t e = ap (λ (l : List Float). total (bits l) % 2 ^ 32) (first-laid table_size lent t e)
