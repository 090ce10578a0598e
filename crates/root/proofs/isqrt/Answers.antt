-- `isqrt`. Its first guess is the Newton step from 2 ^ half, whose square is above n.
use mathlib.Core.Path.{◌≡◌, sym, ap, ◌∙◌, subst}
use Prim.Native.Nat.{ℕ, suc, ◌+◌, ◌-◌, ◌*◌, ◌/◌, ◌%◌, ◌^◌, ◌≤◌, ◌<◌}
use native.Mathlib.Nat.{le_trans, le_of_eq, lt_of_lt_of_le, lt_of_le_of_lt, one-mul, mod-eq_of_lt, div-lt_iff_lt-mul}
use native.Mathlib.Omega.{arith}
use lib.Dec.{lit<}
use lib.Count.{count_leading_zeros, leading_length}
use lib.Pow.{pow-add, pow_mono, pow_pos}
use Rattle.root.proofs.Newton.{newton_above}
use Rattle.root.proofs.isqrt.Goals as goal

abbrev half : ℕ → ℕ
half n = (65 - count_leading_zeros 64 n) / 2

half_le : (n : ℕ) → 2 ^ half n ≤ 2 ^ 32
half_le n = pow_mono (small (count_leading_zeros 64 n))
  where
    small : (z : ℕ) → (65 - z) / 2 ≤ 32
    small z = omega arith

-- n has m digits, and half is half of m, rounded up
below : (n : ℕ) → n < 2 ^ 64 → n < 2 ^ half n * 2 ^ half n
below n h =
    let l = leading_length 64 n h in
    lt_of_lt_of_le l.2 (le_trans (pow_mono (twice (count_leading_zeros 64 n) l.0 l.1)) (le_of_eq (pow-add 2 (half n) (half n))))
  where
    twice : (z m : ℕ) → z + m ≡ 64 → m ≤ (65 - z) / 2 + (65 - z) / 2
    twice z m e = omega arith

quotient : (n : ℕ) → n < 2 ^ 64 → n / 2 ^ half n < 2 ^ half n
quotient n h = (div-lt_iff_lt-mul (pow_pos (half n))).1 (below n h)

-- `1 << half` is 2 ^ half
shifted : (n : ℕ) → 1 * 2 ^ half n % 2 ^ 64 ≡ 2 ^ half n
shifted n = ap (λ (x : ℕ). x % 2 ^ 64) (one-mul (2 ^ half n)) ∙ mod-eq_of_lt (lt_of_le_of_lt (half_le n) (lit< tt))

pub overflow_add-half : goal.overflow_add-half
overflow_add-half c = let n = c.args.n in omega (arith, shifted n, half_le n, quotient n c.ranges.n.fits)

pub isqrt_from-requires : goal.isqrt_from-requires
isqrt_from-requires c =
    let n = c.args.n in
    subst (λ (p : ℕ). let g = (p + n / 2 ^ half n) / 2 in (g < 2 ^ 32) × (n < suc g * suc g)) (sym (shifted n))
    (omega (arith, half_le n, quotient n c.ranges.n.fits), newton_above n (2 ^ half n) (pow_pos (half n)))
