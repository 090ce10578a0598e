-- `root n` is the one number r with r * r ≤ n < (r + 1) * (r + 1).
use mathlib.Core.Path.{◌≡◌, sym, ◌∙◌, subst}
use Prim.Native.Nat.{ℕ, zero, suc, ◌*◌, ◌/◌, ◌^◌, ◌≤◌, ◌<◌, zero-le}
use native.Mathlib.Nat.{le_refl, le_trans, le_of_eq, le_antisymm, lt_of_lt_of_le, lt_of_not-le, le_of_suc-le-suc, lt_irrefl, zero-lt-suc, mul_comm, mul-mul-mul_comm, mul-le-mul, pow-suc, div-mul-le_self, div-lt_iff_lt-mul}
use native.Mathlib.Omega.{arith}
use mathlib.Core.Bool.{Bool, true, false, not, cond}
use lib.Dec.{T, leb, leb→le, nleb→lt}
use Rattle.root.specs.Root.{IsRoot, grown, root_of, root}

four_squares : (r : ℕ) → 2 * r * (2 * r) ≡ 4 * (r * r)
four_squares r = mul-mul-mul_comm 2 r 2 r

twice-suc : (r : ℕ) → suc (suc (2 * r)) ≡ 2 * suc r
twice-suc r = omega arith

grown-is : (n r : ℕ) → IsRoot (n / 4) r → IsRoot n (grown n (2 * r))
grown-is n r h = go (leb (suc (2 * r) * suc (2 * r)) n) (leb→le (suc (2 * r) * suc (2 * r)) n) (nleb→lt (suc (2 * r) * suc (2 * r)) n)
  where
    low : 2 * r * (2 * r) ≤ n
    low = le_trans (le_of_eq (four_squares r ∙ mul_comm 4 (r * r))) (le_trans (mul-le-mul h.0 (le_refl 4)) (div-mul-le_self n 4))

    high : n < suc (suc (2 * r)) * suc (suc (2 * r))
    high =
        subst (λ (z : ℕ). n < z * z) (sym (twice-suc r))
        (lt_of_lt_of_le ((div-lt_iff_lt-mul (zero-lt-suc 3)).0 h.1) (le_of_eq (mul_comm (suc r * suc r) 4 ∙ sym (four_squares (suc r)))))

    go : (b : Bool) → (T b → suc (2 * r) * suc (2 * r) ≤ n) → (T (not b) → n < suc (2 * r) * suc (2 * r)) → IsRoot n (cond b (suc (2 * r)) (2 * r))
    go true p q = (p tt, high)
    go false p q = (low, q tt)

root_of-is : (k n : ℕ) → n < 4 ^ k → IsRoot n (root_of k n)
unfolding root_of
root_of-is zero n h = (zero-le, h)
root_of-is (suc k) zero h = (zero-le, zero-lt-suc 0)
root_of-is (suc k) (suc n) h = grown-is (suc n) (root_of k (suc n / 4)) (root_of-is k (suc n / 4) ((div-lt_iff_lt-mul (zero-lt-suc 3)).1 (subst (λ (z : ℕ). suc n < z) (pow-suc 4 k) h)))

lt_four_pow : (n : ℕ) → n < 4 ^ n
lt_four_pow zero = zero-lt-suc 0
lt_four_pow (suc n) = subst (λ (z : ℕ). suc n < z) (sym (pow-suc 4 n)) (more (4 ^ n) (lt_four_pow n))
  where
    more : (p : ℕ) → n < p → suc n < p * 4
    more p h = omega arith

pub root_is : (n : ℕ) → IsRoot n (root n)
unfolding root
root_is n = root_of-is n n (lt_four_pow n)

-- a number whose square is at most n is below one whose square is above n
pub square-lt : (a b n : ℕ) → a * a ≤ n → n < b * b → a < b
square-lt a b n p q = lt_of_not-le (λ (h : b ≤ a). lt_irrefl n (lt_of_lt_of_le q (le_trans (mul-le-mul h h) p)))

pub root_unique : (n r : ℕ) → IsRoot n r → r ≡ root n
root_unique n r h =
    let s = root_is n in
    le_antisymm (le_of_suc-le-suc (square-lt r (suc (root n)) n h.0 s.1)) (le_of_suc-le-suc (square-lt (root n) (suc r) n s.0 h.1))

-- it is below each b whose square is above n
pub root-lt : (b n : ℕ) → n < b * b → root n < b
root-lt b n h = square-lt (root n) b n (root_is n).0 h

-- and at least each b whose square is at most n
pub root_ge : (b n : ℕ) → b * b ≤ n → b ≤ root n
root_ge b n h = le_of_suc-le-suc (square-lt b (suc (root n)) n h (root_is n).1)
