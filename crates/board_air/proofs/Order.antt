-- The order of finite f32 numbers is that of whole numbers, their keys. Assumes nothing.
use mathlib.Core.Path.{◌≡◌, sym, ap, ◌∙◌}
use mathlib.Core.Bool.{Bool, true, false, cond, ◌&&◌, and-true}
use Prim.Native.Nat.{ℕ, ◌+◌, ◌-◌, ◌*◌, ◌^◌, ◌≤◌, ◌<◌}
use native.Mathlib.Nat.{le_of_lt, mul-pos, mul_right_comm, mul_comm, mul_assoc, zero-mul, add-mul, lt_of_le_of_lt, lt_of_lt_of_le, le_of_eq, mul-lt-mul_of_pos_right, lt_of_mul-lt-mul_right, eq_of_mul-eq-mul_right}
use native.Mathlib.Omega.{arith}
use lib.IntN.{ℤ}
use lib.Dec.{T, ltb, eqb}
use lib.Pow.{pow_pos}
use lib.Ieee.{Float, nan, inf, fin, binary32, up, down, below, level, lt, eq, fits}
use lib.Ieee.Fits.{down_pos}
use lib.Ieee.Scale.{finite}
use borrow.Author.Tests.{ltb-true, lt-ltb, le-ltb, eqb-true, eq-eqb}
use Rattle.numeric.specs.Rounding.{steps}
use Rattle.numeric.proofs.Steps.{own_steps, steps-lt}
use Rattle.floats.proofs.Tests.{both}
use Rattle.board_air.proofs.Tests.{same_test}

-- ---- two sizes, P and Q, that are A and B in one common measure

less : {P Q A B : ℕ} (L K : ℕ) → 0 < L → P * L ≡ A * K → Q * L ≡ B * K → P < Q → A < B
less L K l p q h = lt_of_mul-lt-mul_right K (lt_of_le_of_lt (le_of_eq (sym p)) (lt_of_lt_of_le (mul-lt-mul_of_pos_right h l) (le_of_eq q)))

same : {P Q A B : ℕ} (L K : ℕ) → 0 < K → P * L ≡ A * K → Q * L ≡ B * K → P ≡ Q → A ≡ B
same {A = A} {B = B} L K k p q e = eq_of_mul-eq-mul_right K k A B (sym p ∙ ap (λ (x : ℕ). x * L) e ∙ q)

-- a number of the size a, as far above M as it is above 0
abbrev key_of : ℕ → Bool → ℕ → ℕ
key_of M s a = cond s (M - a) (M + a)

module _ (M L K P Q A B : ℕ) (l : 0 < L) (k : 0 < K) (p : P * L ≡ A * K) (q : Q * L ≡ B * K) (a : A ≤ M) (b : B ≤ M) where
  apart : 0 < P + Q → 0 < A + B
  apart = less L K l (zero-mul L ∙ sym (zero-mul K)) (add-mul P Q L ∙ simp (p, q) (sym (add-mul A B K)))

  apart-back : 0 < A + B → 0 < P + Q
  apart-back = less K L k (zero-mul K ∙ sym (zero-mul L)) (add-mul A B K ∙ simp (← p, ← q) (sym (add-mul P Q L)))

  none : P ≡ 0 → A ≡ 0
  none = same L K k p (zero-mul L ∙ sym (zero-mul K))

  none-back : A ≡ 0 → P ≡ 0
  none-back = same K L l (sym p) (zero-mul K ∙ sym (zero-mul L))

  below_key : (s t : Bool) → below s P t Q ≡ ltb (key_of M s A) (key_of M t B)
  below_key false false =
      same_test (ltb P Q) (ltb (M + A) (M + B))
      (λ h. lt-ltb (M + A) (M + B) (omega (arith, less L K l p q (ltb-true P Q h))))
      (λ h. lt-ltb P Q (less K L k (sym p) (sym q) (omega (arith, ltb-true (M + A) (M + B) h))))
  below_key false true = sym (le-ltb (M + A) (M - B) (omega arith))
  below_key true false =
      same_test (ltb 0 (P + Q)) (ltb (M - A) (M + B))
      (λ h. lt-ltb (M - A) (M + B) (omega (arith, apart (ltb-true 0 (P + Q) h))))
      (λ h. lt-ltb 0 (P + Q) (apart-back (omega (arith, ltb-true (M - A) (M + B) h))))
  below_key true true =
      same_test (ltb Q P) (ltb (M - A) (M - B))
      (λ h. lt-ltb (M - A) (M - B) (omega (arith, less L K l q p (ltb-true Q P h))))
      (λ h. lt-ltb Q P (less K L k (sym q) (sym p) (omega (arith, ltb-true (M - A) (M - B) h))))

  level-alike : (x y : ℕ) → (A ≡ B → x ≡ y) → (x ≡ y → A ≡ B) → (eqb P Q && true) ≡ eqb x y
  level-alike x y f g =
      same_test (eqb P Q && true) (eqb x y)
      (λ h. eq-eqb x y (f (same L K k p q (eqb-true P Q (sym (and-true (eqb P Q)) ∙ h)))))
      (λ h. and-true (eqb P Q) ∙ eq-eqb P Q (same K L l (sym p) (sym q) (g (eqb-true x y h))))

  level-unlike : (x y : ℕ) → (A ≡ 0 → B ≡ 0 → x ≡ y) → (x ≡ y → (A ≡ 0) × (B ≡ 0)) → (eqb P Q && eqb P 0) ≡ eqb x y
  level-unlike x y f g =
      same_test (eqb P Q && eqb P 0) (eqb x y)
      (λ h.
      let t = both (eqb P Q) (eqb P 0) h in
      let z = none (eqb-true P 0 t.1) in
      eq-eqb x y (f z (sym (same L K k p q (eqb-true P Q t.0)) ∙ z)))
      (λ h.
      let z = g (eqb-true x y h) in
      rw (eq-eqb P Q (same K L l (sym p) (sym q) (z.0 ∙ sym z.1)), eq-eqb P 0 (none-back z.0)))

  level_key : (s t : Bool) → level s P t Q ≡ eqb (key_of M s A) (key_of M t B)
  level_key false false = level-alike (M + A) (M + B) (λ e. omega arith) (λ e. omega arith)
  level_key false true = level-unlike (M + A) (M - B) (λ e f. omega arith) (λ e. (omega arith, omega arith))
  level_key true false = level-unlike (M - A) (M + B) (λ e f. omega arith) (λ e. (omega arith, omega arith))
  level_key true true = level-alike (M - A) (M - B) (λ e. omega arith) (λ e. omega arith)

-- ---- finite f32 numbers

-- steps of 2^-149 from the least number on
unfoldable pub key : Float → ℕ
key nan = 0
key (inf s) = 0
key (fin s m e) = key_of (2 ^ 277) s (steps (fin s m e))

pub record F32 (x : Float) : Type 0 where
  pub held : T (fits binary32 x)
  pub ended : T (finite x)

cross : (m : ℕ) (e d : ℤ) (A : ℕ) → m * up e * 2 ^ 149 ≡ A * down e → m * up e * down d * 2 ^ 149 ≡ A * (down e * down d)
cross m e d A h = mul_right_comm (m * up e) (down d) (2 ^ 149) ∙ ap (λ (x : ℕ). x * down d) h ∙ mul_assoc A (down e) (down d)

pub lt_key : (x y : Float) → F32 x → F32 y → (lt x y ≡ ltb (key x) (key y)) × (eq x y ≡ eqb (key x) (key y))
unfolding lt eq key
lt_key nan y h g = absurd h.ended
lt_key (inf s) y h g = absurd h.ended
lt_key (fin s m e) nan h g = absurd g.ended
lt_key (fin s m e) (inf t) h g = absurd g.ended
lt_key (fin s m e) (fin t n d) h g =
    let A = steps (fin s m e) in
    let B = steps (fin t n d) in
    let K = down e * down d in
    let p = cross m e d A (own_steps s m e h.held).1 in
    let q = cross n d e B (own_steps t n d g.held).1 ∙ ap (λ (x : ℕ). B * x) (mul_comm (down d) (down e)) in
    let k = mul-pos (down_pos e) (down_pos d) in
    let a = le_of_lt (steps-lt s m e h.held) in
    let b = le_of_lt (steps-lt t n d g.held) in (
      below_key (2 ^ 277) (2 ^ 149) K (m * up e * down d) (n * up d * down e) A B (pow_pos 149) k p q a b s t,
      level_key (2 ^ 277) (2 ^ 149) K (m * up e * down d) (n * up d * down e) A B (pow_pos 149) k p q a b s t,
    )
