-- How long numbers are. Assumes nothing.
use Prim.Native.Nat.{ℕ, suc, ◌/◌, ◌≤◌}
use native.Mathlib.Omega.{arith}
use lib.IntN.{ℤ, pos, negsuc}
use lib.ListN.{length, length-append}
use Rattle.quoted.specs.Quoted.{quoted}
use Rattle.numerals.proofs.Laws.{numeral-length}
use Rattle.hundredths.specs.Decimals.{decimals, two_decimals}

decimals-length : (n : ℕ) → length (decimals n) ≤ 13
unfolding decimals quoted
decimals-length n = simp length-append (omega (arith, numeral-length 10 (n / 100)))

pub two-decimals-length : (h : ℤ) → length (two_decimals h) ≤ 14
unfolding two_decimals quoted
two-decimals-length (pos n) = omega (arith, decimals-length n)
two-decimals-length (negsuc n) = omega (arith, decimals-length (suc n))
