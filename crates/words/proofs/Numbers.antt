-- How long a number's digits are. Assumes nothing.
use mathlib.Core.Path.{◌≡◌, ap, sym, subst, ◌∙◌}
use native.Mathlib.Numerals.{unary_clauses}
use mathlib.Core.Bool.{Bool, true, false, cond}
use Prim.Native.Nat.{ℕ, zero, suc, ◌-◌, ◌/◌, ◌%◌, ◌≤◌, ◌<◌}
use mathlib.Core.List.{[], ◌∷◌, ◌++◌, map, map-append}
use lib.ListN.{length, length-map}
use lib.Dec.{lit≤, ltb}
use Rattle.words.specs.Digits.{digits}
use Rattle.words.specs.Numbers.{character, decimal, hexadecimal}
use Rattle.words.proofs.Digits.{length_digits, digits_none, digits_last}

pub digits-length : (b k n : ℕ) → length (map character (digits b k n)) ≡ k
digits-length b k n = length-map (digits b k n) character ∙ length_digits b k n

pub decimal-length : (n : ℕ) → length (decimal n) ≤ 3
unfolding decimal
decimal-length n = subst (λ (k : ℕ). k ≤ 3) (sym (digits-length 10 (cond (ltb n 10) 1 (cond (ltb n 100) 2 3)) n)) (go (ltb n 10) (ltb n 100))
  where
    go : (a b : Bool) → cond a 1 (cond b 2 3) ≤ 3
    go true b = lit≤ tt
    go false true = lit≤ tt
    go false false = lit≤ tt

pub hexadecimal-length : (n : ℕ) → length (hexadecimal n) ≡ 8
unfolding hexadecimal
hexadecimal-length n = digits-length 16 8 n

-- the last digit stands after those before it
pub characters_last : (b k n : ℕ) → 0 < k → map character (digits b k n) ≡ map character (digits b (k - 1) (n / b)) ++ (character (n % b) ∷ [])
characters_last b zero n h = elim h [ ]
characters_last b (suc k) n h = simp unary_clauses (ap (map character) (digits_last b k n) ∙ map-append character (digits b k (n / b)) (n % b ∷ []))

pub characters_none : (b n : ℕ) → map character (digits b 0 n) ≡ []
characters_none b n = ap (map character) (digits_none b n)
