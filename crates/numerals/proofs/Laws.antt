-- What a numeral is: how long, what its digits are, and that it reads back as its number. Assumes nothing.
use mathlib.Core.Path.{◌≡◌, refl, ap, ◌∙◌}
use mathlib.Core.Bool.{Bool, true, false, cond}
use Prim.Native.Nat.{ℕ, zero, suc, ◌+◌, ◌-◌, ◌*◌, ◌/◌, ◌%◌, ◌^◌, ◌≤◌, ◌<◌}
use native.Mathlib.Nat.{le_refl, pow-zero, pow-succ'}
use native.Mathlib.Omega.{arith}
use mathlib.Core.List.{[], ◌∷◌, ◌++◌, map, map-append}
use lib.ListN.{length, length-append}
use lib.Dec.{ltb}
use borrow.Author.Tests.{lt-ltb, le-ltb, ltb-true}
use Rattle.words.specs.Digits.{after, number}
use Rattle.words.proofs.Digits.{after_append}
use Rattle.numerals.specs.Numeral.{numeral_in}

pub numeral-none : (n : ℕ) → numeral_in 0 n ≡ []
unfolding numeral_in
numeral-none n = refl

pub numeral-ones : (k n : ℕ) → n < 10 → numeral_in (suc k) n ≡ (48 + n % 10) ∷ []
unfolding numeral_in
numeral-ones k n h = rw (lt-ltb n 10 h) refl

pub numeral_tens : (k n : ℕ) → 10 ≤ n → numeral_in (suc k) n ≡ numeral_in k (n / 10) ++ ((48 + n % 10) ∷ [])
unfolding numeral_in
numeral_tens k n h = rw (le-ltb n 10 h) refl

pub numeral-length : (k n : ℕ) → length (numeral_in k n) ≤ k
unfolding numeral_in
numeral-length zero n = le_refl 0
numeral-length (suc k) n = go (ltb n 10) (numeral-length k (n / 10))
  where
    go : (b : Bool) → length (numeral_in k (n / 10)) ≤ k → length (cond b [] (numeral_in k (n / 10)) ++ ((48 + n % 10) ∷ [])) ≤ suc k
    go true h = omega arith
    go false h = omega (arith, length-append (numeral_in k (n / 10)) ((48 + n % 10) ∷ []), h)

-- what a digit's character counts
abbrev pub value : ℕ → ℕ
value b = b - 48

-- a number of at most k digits reads back
pub numeral_reads : (k n : ℕ) → n < 10 ^ k → number 10 (map value (numeral_in k n)) ≡ n
unfolding numeral_in after
numeral_reads zero n h = omega (arith, pow-zero 10)
numeral_reads (suc k) n h = go (ltb n 10) (λ (t : ltb n 10 ≡ true). ltb-true n 10 t) (numeral_reads k (n / 10) (omega (arith, pow-succ' 10 k, h)))
  where
    go : (b : Bool) → (b ≡ true → n < 10) → number 10 (map value (numeral_in k (n / 10))) ≡ n / 10 → number 10 (map value (cond b [] (numeral_in k (n / 10)) ++ ((48 + n % 10) ∷ []))) ≡ n
    go true small e = omega (arith, small refl)
    go false small e =
        ap (number 10) (map-append value (numeral_in k (n / 10)) ((48 + n % 10) ∷ []))
        ∙ after_append 10 0 (map value (numeral_in k (n / 10))) (value (48 + n % 10) ∷ [])
        ∙ ap (λ (q : ℕ). q * 10 + value (48 + n % 10)) e
        ∙ omega arith
