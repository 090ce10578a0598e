-- The text of hundredths: how long it is, and that zero has no sign. Assumes nothing.
use mathlib.Core.Path.{◌≡◌, refl}
use Prim.Native.Nat.{ℕ, zero, suc, ◌+◌, ◌*◌, ◌/◌, ◌%◌, ◌^◌, ◌≤◌, ◌<◌, zero-le}
use native.Mathlib.Nat.{le_refl, pow-succ'}
use native.Mathlib.Omega.{arith}
use mathlib.Core.Bool.{Bool, true, false, cond}
use mathlib.Core.List.{[], ◌∷◌, ◌++◌}
use lib.ListN.{length, length-append}
use lib.Dec.{ltb}
use lib.IntN.{ℤ, pos, negsuc, nat_abs}
use lib.Ieee.{Float}
use lib.Ieee.Positive.{num, den}
use borrow.Author.Tests.{lt-ltb}
use Rattle.numeric.specs.Float.{sign_bit}
use Rattle.quoted.specs.Quoted.{quoted}
use Rattle.numerals.specs.Numeral.{numeral_in, numeral}
use Rattle.hundredths.specs.Hundredths.{signed, hundredths_of}
use Rattle.hundredths.specs.Decimals.{decimals, two_decimals}
use Rattle.hundredths.proofs.Nearest.{size-only}

-- a number below 10 ^ k, k at least 1, has at most k digits
pub numeral-short : (j k n : ℕ) → n < 10 ^ suc k → length (numeral_in j n) ≤ suc k
unfolding numeral_in
numeral-short zero k n h = zero-le
numeral-short (suc j) zero n h = rw (lt-ltb n 10 (omega (arith, pow-succ' 10 0, h))) (le_refl 1)
numeral-short (suc j) (suc k) n h = go (ltb n 10) (numeral-short j k (n / 10) (omega (arith, pow-succ' 10 (suc k), h)))
  where
    go : (b : Bool) → length (numeral_in j (n / 10)) ≤ suc k → length (cond b [] (numeral_in j (n / 10)) ++ ((48 + n % 10) ∷ [])) ≤ suc (suc k)
    go true i = omega arith
    go false i = omega (arith, length-append (numeral_in j (n / 10)) ((48 + n % 10) ∷ []), i)

decimals-length : (k n : ℕ) → n < 100 * 10 ^ suc k → length (decimals n) ≤ k + 4
unfolding decimals quoted
decimals-length k n h = simp length-append (omega (arith, numeral-short 10 k (n / 100) (omega (arith, h))))

-- at most 2,000 either way
pub loss_length : (n : ℕ) → n ≤ 200000 → length (two_decimals (pos n)) ≤ 7
unfolding two_decimals
loss_length n h = decimals-length 3 n (omega arith)

pub two-decimals-length : (h : ℤ) → nat_abs h ≤ 200000 → length (two_decimals h) ≤ 8
unfolding two_decimals quoted
two-decimals-length (pos n) l = omega (arith, decimals-length 3 n (omega arith))
two-decimals-length (negsuc n) l = omega (arith, decimals-length 3 (suc n) (omega arith))

-- a number that rounds to 0 has no sign, be it above 0 or below
pub zero-unsigned : (x : Float) → 200 * num x < den x → two_decimals (hundredths_of x) ≡ quoted "0.00"
unfolding hundredths_of two_decimals decimals numeral_in quoted
zero-unsigned x h = rw (size-only x 0 (omega arith) (omega arith)) (go (sign_bit x))
  where
    go : (s : Bool) → two_decimals (signed s 0) ≡ quoted "0.00"
    go true = refl
    go false = refl

-- the whole part of 32 bits of hundredths
pub whole_short : (n : ℕ) → n < 2 ^ 32 → length (numeral (n / 100)) ≤ 8
whole_short n h = numeral-short 10 7 (n / 100) (omega (arith, h))
