-- A number in span read from its bits: its sign, and the hundredths of its size. Assumes nothing.
use mathlib.Core.Path.{◌≡◌, sym, ap, ◌∙◌, subst}
use mathlib.Core.Logic.{◌⊎◌, inl, inr}
use Prim.Native.Nat.{ℕ, suc, ◌+◌, ◌*◌, ◌/◌, ◌%◌, ◌^◌, ◌≤◌, ◌<◌}
use native.Mathlib.Nat.{le_trans, le_of_eq, lt_of_not-le, not-le_of_lt, add_assoc, mul_right_comm, mul-le-mul, mul-le-mul_right, le_of_mul-le-mul_right, eq_of_mul-eq-mul_right, div-eq_of_lt, pow-succ', mul-pos}
use native.Mathlib.Omega.{arith}
use mathlib.Core.Bool.{Bool, true, false, cond}
use borrow.Author.Tests.{le-leb, lt-leb}
use lib.Dec.{T, leb, lit<}
use lib.Pow.{pow_pos, pow-add, pow_mono}
use lib.Ieee.{Float, nan, inf, fin, binary32, fits, to_bits}
use lib.Ieee.Nearest.{div_same}
use lib.Ieee.Positive.{num, den, den_pos}
use Rattle.numeric.specs.Float.{sign_bit}
use Rattle.numeric.proofs.Steps.{on-grid, bits_are}
use Rattle.hundredths.specs.Hundredths.{in_span, size_of}
use Rattle.hundredths.proofs.Span.{in_span_lem}

-- x is q * 2 ^ k steps of 2 ^ -149 in size, as its bits b have it: q has 24 digits, or fewer where k is 0
pub record Read (x : Float) (b : ℕ) : Type 0 where
  pub q : ℕ
  pub k : ℕ
  pub value : num x * 2 ^ 149 ≡ q * 2 ^ k * den x
  pub bits : b ≡ cond (sign_bit x) (2 ^ 31) 0 + (k * 2 ^ 23 + q)
  pub short : q < 2 ^ 24
  pub full : (k ≡ 0) ⊎ (2 ^ 23 ≤ q)
  pub few : k < 136

-- 2 ^ 159 steps and more are above 1,000
few-places : (n d q k : ℕ) → 0 < d → n * 2 ^ 149 ≡ q * 2 ^ k * d → n ≤ 1000 * d → 2 ^ 23 ≤ q → k < 136
few-places n d q k D e h g = lt_of_not-le λ (l : 136 ≤ k).
    let p : 2 ^ 23 * 2 ^ 136 * d ≤ 1000 * 2 ^ 149 * d =
    le_trans (mul-le-mul_right d (mul-le-mul g (pow_mono l))) (le_trans (le_of_eq (sym e)) (le_trans (mul-le-mul_right (2 ^ 149) h) (le_of_eq (mul_right_comm 1000 d (2 ^ 149))))) in
    not-le_of_lt (lit< tt) (le_of_mul-le-mul_right p D)

pub read : (x : Float) (b : ℕ) → fits binary32 x ≡ true → in_span x ≡ true → b ≡ to_bits binary32 x → Read x b
read nan b f h i = absurd (in_span_lem nan h).0
read (inf s) b f h i = absurd (in_span_lem (inf s) h).0
read (fin s m e) b f h i =
    let x = fin s m e in
    let g = on-grid x (subst T (sym f) tt) in
    record {
      q = g.0;
      k = g.1;
      value = g.2.1;
      bits = i ∙ bits_are x s g.0 g.1 g.2 g.3 ∙ add_assoc (cond s (2 ^ 31) 0) (g.1 * 2 ^ 23) g.0;
      short = g.3.0;
      full = g.3.1;
      few = elim g.3.1 [
        | inl z ↦ omega arith
        | inr l ↦ few-places (num x) (den x) g.0 g.1 (den_pos x) g.2.1 (in_span_lem x h).1 l
      ];
    }

-- n / d is q / 2H, so 100 n / d and a half is 100 q / 2H and a half
halved : (n d q H K : ℕ) → 0 < K → n * (K * (2 * H)) ≡ q * K * d → (200 * n + d) * (2 * H) ≡ (100 * q + H) * (2 * d)
halved n d q H K P e =
    let c : n * (2 * H) ≡ q * d = eq_of_mul-eq-mul_right K P (n * (2 * H)) (q * d) (omega arith) in
    omega arith

module _ {x : Float} {b : ℕ} (r : Read x b) where
  -- the sign is the highest bit, and the others are below it
  split : (s : Bool) → b ≡ cond s (2 ^ 31) 0 + (r.k * 2 ^ 23 + r.q) → (s ≡ leb (2 ^ 31) b) × (b % 2 ^ 31 ≡ r.k * 2 ^ 23 + r.q)
  split true e = (sym (le-leb (2 ^ 31) b (omega arith)), omega arith)
  split false e = (sym (lt-leb (2 ^ 31) b (omega arith)), omega arith)

  pub sign : sign_bit x ≡ leb (2 ^ 31) b
  sign = (split (sign_bit x) r.bits).0

  pub rest : b % 2 ^ 31 ≡ r.k * 2 ^ 23 + r.q
  rest = (split (sign_bit x) r.bits).1

  -- the size is q / 2 ^ (p + 1)
  pub shifted : (p : ℕ) → r.k + suc p ≡ 149 → size_of x ≡ (100 * r.q + 2 ^ p) / 2 ^ suc p
  unfolding size_of
  shifted p e =
      let w : 2 ^ 149 ≡ 2 ^ r.k * (2 * 2 ^ p) = ap (λ (z : ℕ). 2 ^ z) (sym e) ∙ pow-add 2 r.k (suc p) ∙ ap (λ (z : ℕ). 2 ^ r.k * z) (pow-succ' 2 p) in
      let v : num x * (2 ^ r.k * (2 * 2 ^ p)) ≡ r.q * 2 ^ r.k * den x = ap (λ (z : ℕ). num x * z) (sym w) ∙ r.value in
      rw (pow-succ' 2 p)
      (div_same (200 * num x + den x) (2 * den x) (100 * r.q + 2 ^ p) (2 * 2 ^ p) (mul-pos (lit< tt) (den_pos x)) (mul-pos (lit< tt) (pow_pos p))
      (halved (num x) (den x) r.q (2 ^ p) (2 ^ r.k) (pow_pos r.k) v))

  -- and less than half a hundredth where that is shifted far enough
  pub shifted_out : (p : ℕ) → r.k + suc p ≡ 149 → 31 ≤ p → size_of x ≡ 0
  shifted_out p e h =
      let l : 2 ^ 31 ≤ 2 ^ p = pow_mono h in
      shifted p e ∙ div-eq_of_lt (omega (arith, pow-succ' 2 p))
