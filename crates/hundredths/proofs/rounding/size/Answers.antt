-- `hundredths::rounding::size` meets its contract: where past is at most 31, digits are the significand's 24, and past is what `shifted` has. Assumes nothing.
use mathlib.Core.Path.{◌≡◌, sym}
use mathlib.Core.Logic.{inl, inr}
use Prim.Native.Nat.{ℕ, suc, ◌+◌, ◌-◌, ◌*◌, ◌/◌, ◌%◌, ◌^◌, ◌≤◌, ◌<◌}
use native.Mathlib.Omega.{arith}
use lib.Pow.{pow_mono}
use lib.Ieee.{Float}
use Rattle.hundredths.specs.Hundredths.{size_of}
use Rattle.hundredths.proofs.Bits.{Read, read, rest, shifted, shifted_out}
use Rattle.hundredths.proofs.rounding.size.Goals as goal
use Rattle.hundredths.proofs.rounding.size.Goals.{After-bits_of-bits}

abbrev past : ℕ → ℕ
past b = 150 - b % 2 ^ 31 / 2 ^ 23

abbrev digits : ℕ → ℕ
digits b = b % 2 ^ 31 % 2 ^ 23 + 2 ^ 23

module _ {x : Float} {b : ℕ} (r : Read x b) where
  past-from : 13 ≤ past b
  past-from = omega (arith, rest r)

  half_le : past b ≤ 31 → 2 ^ (past b - 1) ≤ 2 ^ 30
  half_le h = pow_mono {i = past b - 1} {j = 30} (omega arith)

  below_half : 31 < past b → size_of x ≡ 0
  below_half h = shifted_out r (148 - r.k) (omega arith) (elim r.full [
    | inl z ↦ omega arith
    | inr g ↦ omega (arith, rest r)
  ])

  from-half : past b ≤ 31 → size_of x ≡ (100 * digits b + 1 * 2 ^ (past b - 1) % 2 ^ 32) / 2 ^ past b
  from-half h = elim r.full [
    | inl z ↦ let n : ⊥ = omega (arith, rest r) in absurd n
    | inr g ↦
        let e = rest r in
        let half : 1 * 2 ^ (past b - 1) % 2 ^ 32 ≡ 2 ^ (past b - 1) = omega (arith, half_le h) in
        let q : digits b ≡ r.q = omega arith in
        let p : past b ≡ suc (148 - r.k) = omega arith in
        let p_1 : past b - 1 ≡ 148 - r.k = omega arith in
        rw (half, q, p_1, p) (shifted r (148 - r.k) (omega arith))
  ]

got : (c : After-bits_of-bits) → Read c.before.args.x c.bits_of-bits.result
got c = read c.before.args.x c.bits_of-bits.result c.before.well_formed.0.1 c.before.requires c.bits_of-bits.ensures

pub overflow_sub-past : goal.overflow_sub-past
overflow_sub-past c = omega (arith, past-from (got (goal.at.overflow_sub-past c).After-bits_of-bits))

pub returns-then-past-gt31 : goal.returns-then-past-gt31
returns-then-past-gt31 c = sym (below_half (got (goal.at.returns-then-past-gt31 c).After-bits_of-bits) (omega arith))

pub overflow_sub-more : goal.overflow_sub-more
overflow_sub-more c = omega (arith, past-from (got (goal.at.overflow_sub-more c).After-bits_of-bits))

pub returns : goal.returns
returns c = sym (from-half (got (goal.at.returns c).After-bits_of-bits) (omega arith))
