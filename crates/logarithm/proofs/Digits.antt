-- The laws of `digits`: with n digits left they are a number below 2 ^ n, that never falls as x grows, and with u for 2 ^ 30 units,
--     2 ^ digits n x * u ^ (2 ^ n) ≤ x ^ (2 ^ n) < 2 ^ (digits n x + 1) * (u + 1) ^ (2 ^ n),
-- which at thirty digits is a bound of three units. u stays a variable, so that no power of it is ever computed.
use mathlib.Core.Path.{◌≡◌, sym, ap, ◌∙◌}
use mathlib.Core.Bool.{Bool, true, false, not, cond}
use Prim.Native.Nat.{ℕ, zero, suc, ◌+◌, ◌-◌, ◌*◌, ◌/◌, ◌^◌, ◌≤◌, ◌<◌, zero-le}
use native.Mathlib.Nat.{le_trans, le_of_eq, le_of_lt, lt_of_lt_of_le, lt_of_le_of_lt, mul_assoc, mul_comm, mul_left_comm, mul-one, one-mul, mul-le-mul, mul-le-mul_left, mul-lt-mul_of_pos_left, le_of_mul-le-mul_right, pow-zero, pow-suc, pow-le-pow_left, two-pow-succ, one-le-pow, mul-pos}
use native.Mathlib.Omega.{arith}
use lib.Dec.{T, leb, leb→le, nleb→lt}
use lib.Pow.{pow-add, pow_pos}
use Rattle.logarithm.specs.Logarithm.{square, digit, rest, digits}

-- ---- one digit

by-digit : (P : ℕ → ℕ → Type 0) (q : ℕ) → (2 ^ 31 ≤ q → P 1 (q / 2)) → (q < 2 ^ 31 → P 0 q) → P (digit q) (rest q)
by-digit P q f g = go (leb (2 ^ 31) q) (leb→le (2 ^ 31) q) (nleb→lt (2 ^ 31) q)
  where
    go : (b : Bool) → (T b → 2 ^ 31 ≤ q) → (T (not b) → q < 2 ^ 31) → P (cond b 1 0) (cond b (q / 2) q)
    go true h k = f (h tt)
    go false h k = g (k tt)

pub digits_lt : (n x : ℕ) → digits n x < 2 ^ n
unfolding digits
digits_lt zero x = omega arith
digits_lt (suc n) x =
    by-digit (λ d r. d * 2 ^ n + digits n r < 2 ^ suc n) (square x)
    (λ _. omega (arith, digits_lt n (square x / 2)))
    (λ _. omega (arith, digits_lt n (square x)))

-- as the code finds them: the digit is the square's part above 2 ^ 31, and the rest is the square, moved by the digit
pub shifted : (q : ℕ) → q < 2 ^ 32 → (q / 2 ^ 31 ≡ digit q) × (q / 2 ^ (q / 2 ^ 31) ≡ rest q)
shifted q h =
    by-digit (λ d r. (q / 2 ^ 31 ≡ d) × (q / 2 ^ (q / 2 ^ 31) ≡ r)) q
    (λ a. let e : q / 2 ^ 31 ≡ 1 = omega arith in (e, rw e))
    (λ a. let e : q / 2 ^ 31 ≡ 0 = omega arith in (e, rw e (omega arith)))

pub digit-le : (q k : ℕ) → digit q * 2 ^ k ≤ 2 ^ k
digit-le q k = by-digit (λ d r. d * 2 ^ k ≤ 2 ^ k) q (λ a. omega arith) (λ a. omega arith)

-- with l digits left
pub digits-next : (l x : ℕ) → 0 < l → digits l x ≡ digit (square x) * 2 ^ (l - 1) + digits (l - 1) (rest (square x))
unfolding digits
digits-next zero x p = omega arith
digits-next (suc n) x p = let e : suc n - 1 ≡ n = omega arith in rw e

div_mono : (a b k : ℕ) → 0 < k → a ≤ b → a / k ≤ b / k
div_mono a b k K h = (native.Mathlib.Nat.le-div_iff_mul-le K).1 (le_trans (native.Mathlib.Nat.div-mul-le_self a k) h)

square_mono : (x y : ℕ) → x ≤ y → square x ≤ square y
square_mono x y h = div_mono (x * x) (y * y) (2 ^ 30) (pow_pos 30) (mul-le-mul h h)

pub digits_mono : (n x y : ℕ) → x ≤ y → digits n x ≤ digits n y
unfolding digits
digits_mono zero x y h = zero-le
digits_mono (suc n) x y h =
    let s : square x ≤ square y = square_mono x y h in
    by-digit (λ d r. d * 2 ^ n + digits n r ≤ digit (square y) * 2 ^ n + digits n (rest (square y))) (square x)
    (λ a. by-digit (λ d r. 1 * 2 ^ n + digits n (square x / 2) ≤ d * 2 ^ n + digits n r) (square y)
    (λ _. omega (arith, digits_mono n (square x / 2) (square y / 2) (div_mono (square x) (square y) 2 (pow_pos 1) s)))
    (λ b. omega arith))
    (λ a. by-digit (λ d r. 0 * 2 ^ n + digits n (square x) ≤ d * 2 ^ n + digits n r) (square y)
    (λ _. omega (arith, digits_lt n (square x)))
    (λ b. omega (arith, digits_mono n (square x) (square y) s)))

-- ---- what a squaring leaves: 2 ^ b * r * u ≤ x * x < 2 ^ b * (r + 1) * u, for the digit b and the rest r

pub record Step (u x b r : ℕ) : Type 0 where
  pub from : u ≤ r
  pub below : r < 2 * u
  pub floor : 2 ^ b * r * u ≤ x * x
  pub next : x * x < 2 ^ b * (r + 1) * u

-- q is the square, s the product x * x
one-step : (s q : ℕ) → q * 2 ^ 30 ≤ s → s < q * 2 ^ 30 + 2 ^ 30 → 2 * (q / 2) * 2 ^ 30 ≤ s × s < 2 * (q / 2 + 1) * 2 ^ 30
one-step s q h k = omega arith

zero_step : (s q : ℕ) → q * 2 ^ 30 ≤ s → s < q * 2 ^ 30 + 2 ^ 30 → 1 * q * 2 ^ 30 ≤ s × s < 1 * (q + 1) * 2 ^ 30
zero_step s q h k = omega arith

pub product_le : (x : ℕ) → x < 2 ^ 31 → x * x ≤ (2 ^ 31 - 1) * (2 ^ 31 - 1)
product_le x h = let top : x ≤ 2 ^ 31 - 1 = omega arith in mul-le-mul top top

pub step : (x : ℕ) → 2 ^ 30 ≤ x → x < 2 ^ 31 → Step (2 ^ 30) x (digit (square x)) (rest (square x))
step x h k =
    let q = square x in
    let s = x * x in
    let floor : q * 2 ^ 30 ≤ s = native.Mathlib.Nat.div-mul-le_self s (2 ^ 30) in
    let next : s < q * 2 ^ 30 + 2 ^ 30 = native.Mathlib.Nat.lt-div-mul-add (pow_pos 30) in
    let lo : 2 ^ 30 * 2 ^ 30 ≤ s = mul-le-mul h h in
    let hi = product_le x k in
    by-digit (Step (2 ^ 30) x) q
    (λ a. record { from = omega arith; below = omega arith; floor = (one-step s q floor next).0; next = (one-step s q floor next).1 })
    (λ a. record { from = omega arith; below = omega arith; floor = (zero_step s q floor next).0; next = (zero_step s q floor next).1 })

pub square-lt : (x : ℕ) → x < 2 ^ 31 → square x < 2 ^ 32
square-lt x h = omega (arith, product_le x h)

-- ---- powers

pub mul_pow : (a b k : ℕ) → (a * b) ^ k ≡ a ^ k * b ^ k
mul_pow a b zero = simp (pow-zero, mul-one)
mul_pow a b (suc k) = simp (pow-suc, mul_pow a b k, mul_assoc, mul_comm, mul_left_comm)

pub pow_mul : (a m k : ℕ) → a ^ (m * k) ≡ (a ^ m) ^ k
pow_mul a m zero = simp (native.Mathlib.Nat.mul-zero, pow-zero)
pow_mul a m (suc k) = simp (native.Mathlib.Nat.mul-suc, pow-add, pow-suc, pow_mul a m k)

-- a ^ (2 ^ (n + 1)) is the square's 2 ^ n th power
double : (a n : ℕ) → a ^ (2 ^ suc n) ≡ (a * a) ^ (2 ^ n)
double a n = simp (two-pow-succ, pow-add, mul_pow)

-- ---- the bounds, one squaring at a time. b is the digit, r the rest, d the digits after it, k stands for 2 ^ n

weight : (b n d : ℕ) → 2 ^ (b * 2 ^ n + d) ≡ (2 ^ b) ^ (2 ^ n) * 2 ^ d
weight b n d = pow-add 2 (b * 2 ^ n) d ∙ ap (λ (z : ℕ). z * 2 ^ d) (pow_mul 2 b (2 ^ n))

lower_step : (u x b r n d : ℕ) → Step u x b r → 2 ^ d * u ^ (2 ^ n) ≤ r ^ (2 ^ n) → 2 ^ (b * 2 ^ n + d) * u ^ (2 ^ suc n) ≤ x ^ (2 ^ suc n)
lower_step u x b r n d s ih =
    let k = 2 ^ n in
    let c = 2 ^ b in
    let sorted : 2 ^ (b * 2 ^ n + d) * u ^ (2 ^ suc n) ≡ c ^ k * u ^ k * (2 ^ d * u ^ k) = rw (weight b n d, double u n, mul_pow u u k) (simp (mul_assoc, mul_comm, mul_left_comm)) in
    let product : c ^ k * u ^ k * r ^ k ≡ (c * r * u) ^ k = simp (mul_pow, mul_assoc, mul_comm, mul_left_comm) in
    le_trans (le_of_eq sorted)
    (le_trans (mul-le-mul_left (c ^ k * u ^ k) ih)
    (le_trans (le_of_eq product)
    (le_trans (pow-le-pow_left s.floor k) (le_of_eq (sym (double x n))))))

-- r + 1 over r is at most u + 1 over u, since u ≤ r
slack : (c r u : ℕ) → u ≤ r → c * (r + 1) * u ≤ c * r * (u + 1)
slack c r u h = le_trans (le_of_eq (mul_assoc c (r + 1) u)) (le_trans (mul-le-mul_left c (core r u h)) (le_of_eq (sym (mul_assoc c r (u + 1)))))
  where
    core : (r u : ℕ) → u ≤ r → (r + 1) * u ≤ r * (u + 1)
    core r u h = omega arith

upper_step : (u x b r n d : ℕ) → Step u x b r → r ^ (2 ^ n) < 2 ^ (d + 1) * (u + 1) ^ (2 ^ n) → x ^ (2 ^ suc n) < 2 ^ (b * 2 ^ n + d + 1) * (u + 1) ^ (2 ^ suc n)
upper_step u x b r n d s ih =
    let k = 2 ^ n in
    let c = 2 ^ b in
    let v = u + 1 in
    let product : (c * r * v) ^ k ≡ c ^ k * v ^ k * r ^ k = simp (mul_pow, mul_assoc, mul_comm, mul_left_comm) in
    let sorted : c ^ k * v ^ k * (2 ^ (d + 1) * v ^ k) ≡ 2 ^ (b * 2 ^ n + d + 1) * v ^ (2 ^ suc n) = rw (native.Mathlib.Nat.add_assoc (b * 2 ^ n) d 1, weight b n (d + 1), double v n, mul_pow v v k) (simp (mul_assoc, mul_comm, mul_left_comm)) in
    lt_of_le_of_lt (le_of_eq (double x n))
    (lt_of_le_of_lt (pow-le-pow_left (le_trans (le_of_lt s.next) (slack c r u s.from)) k)
    (lt_of_le_of_lt (le_of_eq product)
    (lt_of_lt_of_le (mul-lt-mul_of_pos_left ih (mul-pos (one-le-pow k c (pow_pos b)) (one-le-pow k v (omega arith)))) (le_of_eq sorted))))

pow_one : (a : ℕ) → a ^ (2 ^ 0) ≡ a
pow_one a = pow-suc a 0 ∙ ap (λ (z : ℕ). z * a) (pow-zero a) ∙ one-mul a

lower : (u : ℕ) → u ≡ 2 ^ 30 → (n x : ℕ) → u ≤ x → x < 2 * u → 2 ^ digits n x * u ^ (2 ^ n) ≤ x ^ (2 ^ n)
unfolding digits
lower u e zero x h k = omega (arith, pow_one u, pow_one x)
lower u e (suc n) x h k =
    let s : Step u x (digit (square x)) (rest (square x)) = rw e (step x (rw e at h) (rw e at k)) in
    lower_step u x (digit (square x)) (rest (square x)) n (digits n (rest (square x))) s (lower u e n (rest (square x)) s.from s.below)

upper : (u : ℕ) → u ≡ 2 ^ 30 → (n x : ℕ) → u ≤ x → x < 2 * u → x ^ (2 ^ n) < 2 ^ (digits n x + 1) * (u + 1) ^ (2 ^ n)
unfolding digits
upper u e zero x h k = omega (arith, pow_one (u + 1), pow_one x)
upper u e (suc n) x h k =
    let s : Step u x (digit (square x)) (rest (square x)) = rw e (step x (rw e at h) (rw e at k)) in
    upper_step u x (digit (square x)) (rest (square x)) n (digits n (rest (square x))) s (upper u e n (rest (square x)) s.from s.below)

-- ---- (u + 1) ^ u is at most 4 u ^ u

-- Bernoulli's inequality for 1 - 1 / (u + 1)
bernoulli : (u k j : ℕ) → j + k ≡ u + 1 → (u + 1) ^ k * j ≤ u ^ k * (u + 1)
bernoulli u zero j e = simp (pow-zero, one-mul) (omega arith)
bernoulli u (suc k) j e =
    let ih = bernoulli u k (j + 1) (omega arith) in
    let share : (u + 1) * j ≤ u * (j + 1) = omega arith in
    le_trans (le_of_eq (ap (λ (z : ℕ). z * j) (pow-suc (u + 1) k) ∙ mul_assoc ((u + 1) ^ k) (u + 1) j))
    (le_trans (mul-le-mul_left ((u + 1) ^ k) share)
    (le_trans (le_of_eq (mul_left_comm ((u + 1) ^ k) u (j + 1)))
    (le_trans (mul-le-mul_left u ih) (le_of_eq (sym (mul_assoc u (u ^ k) (u + 1)) ∙ ap (λ (z : ℕ). z * (u + 1)) (mul_comm u (u ^ k) ∙ sym (pow-suc u k)))))))

half_power : (h : ℕ) → (h + h + 1) ^ h ≤ 2 * (h + h) ^ h
half_power h =
    le_of_mul-le-mul_right {k = h + 1}
    (le_trans (bernoulli (h + h) h (h + 1) (omega arith))
    (le_trans (mul-le-mul_left ((h + h) ^ h) (omega arith)) (le_of_eq (swap ((h + h) ^ h) (h + 1)))))
    (omega arith)
  where
    swap : (a b : ℕ) → a * (2 * b) ≡ 2 * a * b
    swap a b = omega arith

whole_power : (h : ℕ) → (h + h + 1) ^ (h + h) ≤ 4 * (h + h) ^ (h + h)
whole_power h =
    le_trans (le_of_eq (pow-add (h + h + 1) h h))
    (le_trans (mul-le-mul (half_power h) (half_power h))
    (le_of_eq (square4 ((h + h) ^ h) ∙ ap (λ (z : ℕ). 4 * z) (sym (pow-add (h + h) h h)))))
  where
    square4 : (a : ℕ) → 2 * a * (2 * a) ≡ 4 * (a * a)
    square4 a = omega arith

fourfold : (u h : ℕ) → u ≡ h + h → (u + 1) ^ u ≤ 4 * u ^ u
fourfold u h e = rw e (whole_power h)

-- ---- thirty digits: (x / u) ^ u lies from 2 ^ digits up to, not including, 2 ^ (digits + 3)

pub thirty : (u : ℕ) → u ≡ 2 ^ 30 → (x : ℕ) → u ≤ x → x < 2 * u → (2 ^ digits 30 x * u ^ u ≤ x ^ u) × (x ^ u < 2 ^ (digits 30 x + 3) * u ^ u)
thirty u e x h k = go 30 (sym e)
  where
    go : (n : ℕ) → 2 ^ n ≡ u → (2 ^ digits n x * u ^ u ≤ x ^ u) × (x ^ u < 2 ^ (digits n x + 3) * u ^ u)
    go n p =
        let d = digits n x in
        let few : 2 ^ (d + 1) * (u + 1) ^ u ≤ 2 ^ (d + 1) * (4 * u ^ u) = mul-le-mul_left (2 ^ (d + 1)) (fourfold u (2 ^ 29) e) in
        let sorted : 2 ^ (d + 1) * (4 * u ^ u) ≡ 2 ^ (d + 3) * u ^ u = sym (mul_assoc (2 ^ (d + 1)) 4 (u ^ u)) ∙ ap (λ (z : ℕ). z * u ^ u) (sym (pow-add 2 (d + 1) 2) ∙ ap (λ (z : ℕ). 2 ^ z) (native.Mathlib.Nat.add_assoc d 1 2)) in
        (rw p at (lower u e n x h k), lt_of_lt_of_le (rw p at (upper u e n x h k)) (le_trans few (le_of_eq sorted)))
