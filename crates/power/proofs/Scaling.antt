-- A fraction of at least 1 rounds to a binary32 that a power of two from 2 ^ -126 on multiplies exactly: to round and then scale is to scale and then round. Overflow included.
use mathlib.Core.Path.{◌≡◌, refl, sym, ap, ◌∙◌, subst}
use mathlib.Core.Bool.{Bool, true, false, not, cond}
use Prim.Native.Nat.{ℕ, suc, ◌-◌, ◌*◌, ◌^◌, ◌≤◌, ◌<◌}
use native.Mathlib.Nat.{le_trans, le_of_eq, mul_assoc, mul_comm, mul-one, one-mul, mul_right_comm, mul_left_comm, mul-pos, mul-le-mul, mul-le-mul_left, mul-le-mul_right, eq_of_mul-eq-mul_right}
use native.Mathlib.Omega.{arith}
use lib.IntN.{ℤ, pos, negsuc}
use lib.Dec.{T, ltb, ltb→lt, nltb→le}
use lib.Arith.{le→nltb}
use lib.Pow.{pow-add, pow_pos, pow_mono}
use lib.Ieee.{Float, nan, inf, fin, binary32, up, down, size, odd, units, round, mul, le, fits}
use lib.Ieee.Fits.{round_is, round-fits, down_pos}
use lib.Ieee.Exact.{HasValue, odd_sign, round_exact}
use lib.Ieee.Bits.{cond_no}
use lib.Ieee.Nearest.{closest_same, div_same}
use lib.Ieee.Order.{drop, kept, round_mono}
use lib.Ieee.Scale.{grid, overflow, finite, round_val, round_under, grid_scale, normal_of_fraction}
use lib.Ieee.Positive.{positive, above, above_of_le, values_of_le}
use Rattle.numeric.proofs.Steps.{on-grid, same-steps}
use Rattle.numeric.proofs.Values.{mul_of_values, value-finite, value_same}

-- ---- one result for each grid point

over : (a c : ℕ) → overflow binary32 ≤ grid binary32 a c → round binary32 false a c ≡ inf false
unfolding units
over a c h =
    let q = kept 24 (a * 2 ^ 149) c in
    let k = drop 24 (a * 2 ^ 149) c in
    round_is binary32 false a c ∙ cond_no (ltb (q * 2 ^ k) (overflow binary32)) (odd 25 false q k 149) (inf false) (le→nltb (q * 2 ^ k) (overflow binary32) h)

grid_unique : (a c b d : ℕ) → grid binary32 a c ≡ grid binary32 b d → round binary32 false a c ≡ round binary32 false b d
grid_unique a c b d e = go (ltb (grid binary32 b d) (overflow binary32)) (ltb→lt (grid binary32 b d) (overflow binary32)) (nltb→le (grid binary32 b d) (overflow binary32))
  where
    go : (t : Bool) → (T t → grid binary32 b d < overflow binary32) → (T (not t) → overflow binary32 ≤ grid binary32 b d) → round binary32 false a c ≡ round binary32 false b d
    go true f g =
        same-steps (round binary32 false a c) (round binary32 false b d) false (grid binary32 b d) (round-fits binary32 false a c) (round-fits binary32 false b d)
        (subst (λ (i : ℕ). HasValue (round binary32 false a c) false i (2 ^ 149)) e (round_val binary32 a c (subst (λ (i : ℕ). i < overflow binary32) (sym e) (f tt)))) (round_val binary32 b d (f tt))
    go false f g = over a c (subst (λ (i : ℕ). overflow binary32 ≤ i) (sym e) (g tt)) ∙ sym (over b d (g tt))

-- equal fractions have the same grid point
grid-same : (a b c d : ℕ) → 0 < b → 0 < d → a * d ≡ c * b → grid binary32 a b ≡ grid binary32 c d
grid-same a b c d B D e =
    let l = 2 ^ 149 in
    let x : a * l * d ≡ c * l * b = mul_right_comm a l d ∙ ap (λ (z : ℕ). z * l) e ∙ mul_right_comm c b l in
    let k : drop 24 (a * l) b ≡ drop 24 (c * l) d = ap (λ (z : ℕ). size z - 24) (div_same (a * l) b (c * l) d B D x) in
    let j = drop 24 (c * l) d in
    let y : a * l * (d * 2 ^ j) ≡ c * l * (b * 2 ^ j) = sym (mul_assoc (a * l) d (2 ^ j)) ∙ ap (λ (z : ℕ). z * 2 ^ j) x ∙ mul_assoc (c * l) b (2 ^ j) in
    ap (λ (z : ℕ). lib.Ieee.Nearest.closest (a * l) (b * 2 ^ z) * 2 ^ z) k
    ∙ ap (λ (z : ℕ). z * 2 ^ j) (closest_same (a * l) (b * 2 ^ j) (c * l) (d * 2 ^ j) (mul-pos B (pow_pos j)) (mul-pos D (pow_pos j)) y)

-- ---- scaled by 2 ^ w, w from -126 on
abbrev pub Deep : ℤ → Type 0
Deep (pos t) = Unit {0}
Deep (negsuc k) = k < 126

grid-shift : (a c : ℕ) (w : ℤ) → 0 < c → c ≤ a → Deep w → grid binary32 (a * up w) (c * down w) * down w ≡ grid binary32 a c * up w
grid-shift a c (pos t) C h d =
    mul-one (grid binary32 (a * 2 ^ t) (c * 1))
    ∙ ap (grid binary32 (a * 2 ^ t)) (mul-one c)
    ∙ grid_scale binary32 a c t C (normal_of_fraction binary32 a c C (le_trans (mul-le-mul_left (2 ^ 23) h) (le_trans (mul-le-mul_right a (pow_mono {i = 23} {j = 149} (omega arith))) (le_of_eq (mul_comm (2 ^ 149) a)))))
grid-shift a c (negsuc k) C h d =
    let K = suc k in
    let P = mul-pos C (pow_pos K) in
    let deep : 2 ^ 23 * 2 ^ K ≤ 2 ^ 149 = le_trans (le_of_eq (sym (pow-add 2 23 K))) (pow_mono {j = 149} (omega arith)) in
    let n : 2 ^ 23 * (c * 2 ^ K) ≤ a * 2 ^ 149 = le_trans (le_of_eq (mul_left_comm (2 ^ 23) c (2 ^ K))) (mul-le-mul h deep) in
    ap (λ (i : ℕ). grid binary32 i (c * 2 ^ K) * 2 ^ K) (mul-one a)
    ∙ sym (grid_scale binary32 a (c * 2 ^ K) K P (normal_of_fraction binary32 a (c * 2 ^ K) P n))
    ∙ grid-same (a * 2 ^ K) (c * 2 ^ K) a c P C (mul_right_comm a (2 ^ K) c ∙ mul_assoc a c (2 ^ K))
    ∙ sym (mul-one (grid binary32 a c))

-- two fractions on one grid point stay so
scaled-alike : (a c b d : ℕ) (w : ℤ) → 0 < c → c ≤ a → 0 < d → d ≤ b → Deep w → grid binary32 a c ≡ grid binary32 b d → round binary32 false (a * up w) (c * down w) ≡ round binary32 false (b * up w) (d * down w)
scaled-alike a c b d w C h D k deep e =
    grid_unique (a * up w) (c * down w) (b * up w) (d * down w)
    (eq_of_mul-eq-mul_right (down w) (down_pos w) (grid binary32 (a * up w) (c * down w)) (grid binary32 (b * up w) (d * down w))
    (grid-shift a c w C h deep ∙ ap (λ (i : ℕ). i * up w) e ∙ sym (grid-shift b d w D k deep)))

-- ---- to round again changes nothing

-- a binary32 of G / 2 ^ 149 is the rounding of that
again : (x : Float) (G : ℕ) → T (fits binary32 x) → G < 2 ^ 277 → HasValue x false G (2 ^ 149) → HasValue (round binary32 false G (2 ^ 149)) false G (2 ^ 149)
again nan G f h p = absurd p
again (inf s) G f h p = absurd p
again (fin s m e) G f h p =
    let g = on-grid (fin s m e) f in
    let n : g.0 * 2 ^ g.1 ≡ G = value_same (fin s m e) s (g.0 * 2 ^ g.1) G (2 ^ 149) g.2 (refl, p.1) in
    round_exact binary32 false G (2 ^ 149) g.0 g.1 (pow_pos 149) g.3.0 (subst (λ (i : ℕ). i < 2 ^ 277) (sym n) h) (ap (λ (i : ℕ). i * 2 ^ 149) (sym n))

idempotent : (a c : ℕ) → grid binary32 a c < overflow binary32 → grid binary32 (grid binary32 a c) (2 ^ 149) ≡ grid binary32 a c
idempotent a c h =
    let G = grid binary32 a c in
    let y = again (round binary32 false a c) G (round-fits binary32 false a c) h (round_val binary32 a c h) in
    value_same (round binary32 false G (2 ^ 149)) false (grid binary32 G (2 ^ 149)) G (2 ^ 149)
    (round_val binary32 G (2 ^ 149) (round_under binary32 G (2 ^ 149) (value-finite (round binary32 false G (2 ^ 149)) G (2 ^ 149) y))) y

-- ---- a fraction from 1 to 16

units-finite : (q k m : ℕ) (e : ℤ) → T (le (units binary32 false q k) (fin false m e)) → T (finite (units binary32 false q k))
unfolding units le
units-finite q k m e = go (ltb (q * 2 ^ k) (2 ^ 277))
  where
    go : (b : Bool) → T (le (cond b (odd 25 false q k 149) (inf false)) (fin false m e)) → T (finite (cond b (odd 25 false q k 149) (inf false)))
    go true h = value-finite (odd 25 false q k 149) (q * 2 ^ k) (2 ^ 149) (odd_sign 25 false q k 149)
    go false h = absurd h

round_1 : round binary32 false 1 1 ≡ fin false 1 (pos 0)
unfolding round
round_1 = refl

round_16 : round binary32 false 16 1 ≡ fin false 1 (pos 4)
unfolding round
round_16 = refl

under-overflow : (a c : ℕ) → 0 < c → a ≤ 16 * c → grid binary32 a c < overflow binary32
under-overflow a c C h =
    let x = round binary32 false a c in
    let l : T (le x (fin false 1 (pos 4))) = subst (λ (y : Float). T (le x y)) round_16 (round_mono binary32 a c 16 1 C (pow_pos 0) (le_trans (le_of_eq (mul-one a)) h)) in
    round_under binary32 a c (subst (λ (y : Float). T (finite y)) (sym (round_is binary32 false a c)) (units-finite _ _ 1 (pos 4) (subst (λ (y : Float). T (le y (fin false 1 (pos 4)))) (round_is binary32 false a c) l)))

above-positive : (x : Float) (a c : ℕ) → HasValue x false a c → T (above x) → T (positive x)
above-positive nan a c v t = absurd v
above-positive (inf s) a c v t = absurd v
above-positive (fin true m e) a c v t = absurd t
above-positive (fin false m e) a c v t = t

at_least_one : (a c : ℕ) → 0 < c → c ≤ a → grid binary32 a c < overflow binary32 → 2 ^ 149 ≤ grid binary32 a c
at_least_one a c C h g =
    let x = round binary32 false a c in
    let one = fin false 1 (pos 0) in
    let v = round_val binary32 a c g in
    let l : T (le one x) = subst (λ (y : Float). T (le y x)) round_1 (round_mono binary32 1 1 a c (pow_pos 0) C (le_trans (le_of_eq (one-mul c)) (le_trans h (le_of_eq (sym (mul-one a)))))) in
    le_trans (le_of_eq (sym (one-mul (2 ^ 149)))) (le_trans (values_of_le one x 1 1 (grid binary32 a c) (2 ^ 149) tt (above-positive x (grid binary32 a c) (2 ^ 149) v (above_of_le one x tt l)) (refl, refl) v l) (le_of_eq (mul-one (grid binary32 a c))))

-- p is 2 ^ w: a / c rounded and then scaled is a / c scaled and then rounded
pub round-scaled : (a c : ℕ) (p : Float) (w : ℤ) → 0 < c → c ≤ a → a ≤ 16 * c → Deep w → HasValue p false (up w) (down w) → mul binary32 (round binary32 false a c) p ≡ round binary32 false (a * up w) (c * down w)
round-scaled a c p w C h k d v =
    let g = under-overflow a c C k in
    mul_of_values binary32 (round binary32 false a c) p false false (grid binary32 a c) (2 ^ 149) (up w) (down w) (pow_pos 149) (down_pos w) (round_val binary32 a c g) v
    ∙ scaled-alike (grid binary32 a c) (2 ^ 149) a c w (pow_pos 149) (at_least_one a c C h g) C h d (idempotent a c g)
