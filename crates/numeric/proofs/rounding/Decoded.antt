-- A finite number, read from its bits b without the sign: places are b / 2 ^ 23 - 1, by the exponent's field, and the digits are the rest.
use Rattle.std.proofs.Common.{◌≡◌, ℕ, ◌+◌, ◌-◌, ◌*◌, ◌/◌, ◌%◌, ◌^◌, ◌<◌, ◌≤◌, Bool, true, false, cond, T, leb, ◌⊎◌, ◌∙◌, subst, inl, inr, add_assoc, mod-lt, arith, pow_pos, leb-false}
use lib.Ieee.{Float, nan, inf, fin, binary32, fits, to_bits}
use lib.Ieee.Bits.{to_bits-lt}
use lib.Ieee.Scale.{finite}
use Rattle.numeric.specs.Rounding.{steps}
use Rattle.numeric.proofs.Steps.{steps_are, Kept, on-grid, bits_are}
use Rattle.numeric.proofs.Signs.{finite_number}
use Rattle.numeric.proofs.float.SignBit.{bit_set}

-- x is m * 2 ^ k steps in size, with 24 digits in m, or fewer where k is 0
pub record Stepped (x : Float) (m k : ℕ) : Type 0 where
  pub whole : steps x ≡ m * 2 ^ k
  pub short : m < 2 ^ 24
  pub full : (k ≡ 0) ⊎ (2 ^ 23 ≤ m)
  pub few : k < 2 ^ 8

fields : (q k b : ℕ) → Kept q k → b ≡ k * 2 ^ 23 + q → (k ≡ b / 2 ^ 23 - 1) × (q ≡ b - k * 2 ^ 23)
fields q k b h e = go h.1
  where
    small : q < 2 ^ 24
    small = h.0

    go : (k ≡ 0) ⊎ (2 ^ 23 ≤ q) → (k ≡ b / 2 ^ 23 - 1) × (q ≡ b - k * 2 ^ 23)
    go (inl z) = (omega (arith, small), omega arith)
    go (inr g) = (omega (arith, small), omega arith)

-- the sign bit is the highest
unsigned-bits : (s : Bool) (b r : ℕ) → b ≡ cond s (2 ^ 31) 0 + r → b < 2 ^ 32 → leb (2 ^ 31) b ≡ s → b % 2 ^ 31 ≡ r
unsigned-bits true b r e l h = omega arith
unsigned-bits false b r e l h = omega (arith, leb-false (2 ^ 31) b h)

pub decoded : (x : Float) → T (fits binary32 x) → T (finite x) → let b = to_bits binary32 x % 2 ^ 31 in let k = b / 2 ^ 23 - 1 in Stepped x (b - k * 2 ^ 23) k
decoded nan f t = absurd t
decoded (inf s) f t = absurd t
decoded (fin s m e) f t =
    let x = fin s m e in
    let b = to_bits binary32 x in
    let g = on-grid x f in
    let q = g.0 in
    let k = g.1 in
    let is : b % 2 ^ 31 ≡ k * 2 ^ 23 + q =
    unsigned-bits s b (k * 2 ^ 23 + q) (bits_are x s q k g.2 g.3 ∙ add_assoc (cond s (2 ^ 31) 0) (k * 2 ^ 23) q) (to_bits-lt binary32 x f) (bit_set binary32 x f (finite_number x t)) in
    let r = fields q k (b % 2 ^ 31) g.3 is in
    subst (λ (j : ℕ). Stepped x (b % 2 ^ 31 - j * 2 ^ 23) j) r.0
    (subst (λ (j : ℕ). Stepped x j k) r.1
    (record {
      whole = steps_are x s (q * 2 ^ k) g.2;
      short = g.3.0;
      full = g.3.1;
      few = omega (arith, mod-lt b (pow_pos 31));
    }))

-- from the field 1 on, the first of 24 digits is 1
pub decoded_normal : (x : Float) → T (fits binary32 x) → T (finite x) → let b = to_bits binary32 x % 2 ^ 31 in 1 ≤ b / 2 ^ 23 → Stepped x (b % 2 ^ 23 + 2 ^ 23) (b / 2 ^ 23 - 1)
decoded_normal x f t h =
    let b = to_bits binary32 x % 2 ^ 31 in
    let e : b - (b / 2 ^ 23 - 1) * 2 ^ 23 ≡ b % 2 ^ 23 + 2 ^ 23 = omega arith in
    subst (λ (m : ℕ). Stepped x m (b / 2 ^ 23 - 1)) e (decoded x f t)
