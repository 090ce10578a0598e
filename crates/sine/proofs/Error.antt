-- S and C, cut, lie within 8 units of the same terms summed as exact fractions.
use mathlib.Core.Path.{◌≡◌, ap, subst}
use Prim.Native.Nat.{ℕ, suc, ◌+◌, ◌-◌, ◌*◌, ◌^◌, ◌≤◌, ◌<◌, min}
use native.Mathlib.Nat.{mul-le-mul_right, zero-mul, one-mul}
use native.Mathlib.Omega.{arith}
use mathlib.Core.Bool.{Bool, true, false, not}
use lib.Dec.{T, leb, leb→le, nleb→lt, lit≤}
use Rattle.sine.specs.Sine.{sums, cut, past, sine_units, cosine_units, denominator, exact_sums, Near}
use Rattle.sine.specs.Inner.{quarter_turn}
use Rattle.sine.proofs.SeriesError.{Floored, first, balance, slack}
use Rattle.sine.proofs.SeriesRange.{sine-at-least, sine-at-most, cosine-at-least, cosine-at-most}
use Rattle.sine.proofs.Terms.{past-le}

-- the cut takes nothing off, or stops at 0, or stops at 2^30
module _ (r x : ℕ × ℕ) (D : ℕ) (a : r.0 * D + x.1 ≤ x.0 + r.1 * D + 8 * D) (b : x.0 + r.1 * D ≤ r.0 * D + x.1 + 8 * D)
    (l : x.1 ≤ x.0) (u : x.0 ≤ x.1 + (2 ^ 30 + 8) * D) where
  none_left : r.0 ≤ r.1 → Near 0 x D 8
  none_left h = record { above = omega (arith, zero-mul D); below = omega (arith, mul-le-mul_right D h) }

  some_left : (c : ℕ) → c + r.1 ≡ r.0 → Near c x D 8
  some_left c h = record { above = omega (arith, ap (λ (z : ℕ). z * D) h); below = omega (arith, ap (λ (z : ℕ). z * D) h) }

  full : 2 ^ 30 + r.1 ≤ r.0 → Near (2 ^ 30) x D 8
  full h = record { above = omega (arith, mul-le-mul_right D h); below = omega arith }

  near_cut : Near (cut r) x D 8
  unfolding cut
  near_cut = go (leb r.0 r.1) (leb (2 ^ 30 + r.1) r.0) (leb→le r.0 r.1) (nleb→lt r.0 r.1) (leb→le (2 ^ 30 + r.1) r.0) (nleb→lt (2 ^ 30 + r.1) r.0)
    where
      go : (p q : Bool) → (T p → r.0 ≤ r.1) → (T (not p) → r.1 < r.0) → (T q → 2 ^ 30 + r.1 ≤ r.0) → (T (not q) → r.0 < 2 ^ 30 + r.1) → Near (min (r.0 - r.1) (2 ^ 30)) x D 8
      go true q h k m n = let g : r.0 ≤ r.1 = h tt in let e : min (r.0 - r.1) (2 ^ 30) ≡ 0 = omega arith in rw e (none_left g)
      go false true h k m n = let g : 2 ^ 30 + r.1 ≤ r.0 = m tt in let e : min (r.0 - r.1) (2 ^ 30) ≡ 2 ^ 30 = omega arith in rw e (full g)
      go false false h k m n = let g : r.1 < r.0 = k tt in let f : r.0 < 2 ^ 30 + r.1 = n tt in some_left (min (r.0 - r.1) (2 ^ 30)) (omega arith)

-- over the divisors' start j and the number n of terms, with the slack of n terms at most 8
within : (t j n p : ℕ) → t ≤ quarter_turn → 1 ≤ j → 0 + (slack n).1 ≤ 8 → (slack n).0 ≤ 8
    → (exact_sums t j (suc n) p).1 ≤ (exact_sums t j (suc n) p).0
    → (exact_sums t j (suc n) p).0 ≤ (exact_sums t j (suc n) p).1 + (2 ^ 30 + 8) * denominator j (suc n)
    → Near (cut (sums t j (suc n) p)) (exact_sums t j (suc n) p) (denominator j (suc n)) 8
within t j n p T J g h l u =
    let D = denominator j (suc n) in
    let f : Floored (sums t j (suc n) p) (exact_sums t j (suc n) p) (0 + (slack n).1, (slack n).0) D = subst (λ (z : ℕ). Floored (sums t j (suc n) p) (exact_sums t j (suc n) p) (0 + (slack n).1, (slack n).0) z) (one-mul D) (first t j n p T J) in
    let w = balance (sums t j (suc n) p) (exact_sums t j (suc n) p) (0 + (slack n).1, (slack n).0) D 8 g h f in
    near_cut (sums t j (suc n) p) (exact_sums t j (suc n) p) D w.0 w.1 l u

pub sine_error : (t : ℕ) → t ≤ quarter_turn → Near (sine_units t) (exact_sums t 2 7 t) (denominator 2 7) 8
unfolding sine_units
sine_error t T = within t 2 6 t T (lit≤ tt) (lit≤ tt) (lit≤ tt) (sine-at-least t T) (sine-at-most t T)

more : (x y D : ℕ) → x ≤ y + 2 ^ 30 * D → x ≤ y + (2 ^ 30 + 8) * D
more x y D h = omega arith

pub cosine_error : (t : ℕ) → t ≤ quarter_turn → Near (cosine_units t) (exact_sums t 1 8 (2 ^ 30)) (denominator 1 8) 8
unfolding cosine_units
cosine_error t T = within t 1 7 (2 ^ 30) T (lit≤ tt) (lit≤ tt) (lit≤ tt) (cosine-at-least t T) (more _ _ (denominator 1 8) (cosine-at-most t T))

-- so it is at every angle that the code reaches
pub sine_error_at : (n : ℕ) → Near (sine_units (past n)) (exact_sums (past n) 2 7 (past n)) (denominator 2 7) 8
sine_error_at n = sine_error (past n) (past-le n)

pub cosine_error_at : (n : ℕ) → Near (cosine_units (past n)) (exact_sums (past n) 1 8 (2 ^ 30)) (denominator 1 8) 8
cosine_error_at n = cosine_error (past n) (past-le n)
