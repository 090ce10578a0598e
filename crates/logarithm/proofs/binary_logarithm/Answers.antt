-- `logarithm::binary_logarithm` meets its contract: the number's parts are its exponent and its significand (`Parts`), and each step of the sum fits (`Integers`).
use mathlib.Core.Path.{◌≡◌, sym, ap, ◌∙◌}
use Prim.Native.Nat.{ℕ, ◌*◌, ◌^◌, ◌<◌}
use native.Mathlib.Omega.{arith}
use lib.IntN.{ℤ, pos, sub_ℕ, ◌+ℤ◌, ◌-ℤ◌, ◌*ℤ◌}
use lib.Signed.{mag}
use mir.Syntax.{w64}
use mir.Val.{SFits, to_z, of_z}
use mir.ValLaws.{to_z-of_z, to_z_pos}
use Rattle.logarithm.specs.Logarithm.{exponent, digits, binary_logarithm}
use Rattle.logarithm.proofs.Digits.{digits_lt}
use Rattle.numeric.proofs.Integers.{mag-sub, mag-mul, mag-add}
use Rattle.logarithm.proofs.Parts.{significand-is, exponent-is}
use Rattle.logarithm.proofs.binary_logarithm.Goals as goal
use Rattle.logarithm.proofs.binary_logarithm.Goals.{After-digits_left, After-parts_of-parts}

-- The sum of the exponent times 2 ^ 30 and the digits d, from the exponent q counted from -149, as the machine computes it: each step fits, and reads back as itself.
module _ (q d : ℕ) (h : q < 279) (k : d < 2 ^ 30) where
  exponent_lt : mag (sub_ℕ q 149) < 279
  exponent_lt = mag-sub q 149 279 h (omega arith)

  product_lt : mag (sub_ℕ q 149 *ℤ pos (2 ^ 30)) < 279 * 2 ^ 30
  product_lt = mag-mul (sub_ℕ q 149) (2 ^ 30) 279 (2 ^ 30) (omega arith) (omega arith) exponent_lt

  sum_lt : mag (sub_ℕ q 149 *ℤ pos (2 ^ 30) +ℤ pos d) < 2 ^ 39
  sum_lt = omega (arith, mag-add (sub_ℕ q 149 *ℤ pos (2 ^ 30)) d (279 * 2 ^ 30) product_lt)

  read-field : to_z w64 q ≡ pos q
  read-field = to_z_pos w64 q (omega arith)

  read-digits : to_z w64 d ≡ pos d
  read-digits = to_z_pos w64 d (omega arith)

  exponent-fits : SFits w64 (to_z w64 q -ℤ pos 149)
  exponent-fits = rw read-field (record { sfits = omega (arith, exponent_lt) })

  read-exponent : to_z w64 (of_z w64 (to_z w64 q -ℤ pos 149)) ≡ sub_ℕ q 149
  read-exponent = to_z-of_z w64 (to_z w64 q -ℤ pos 149) exponent-fits ∙ ap (λ (z : ℤ). z -ℤ pos 149) read-field

  product_fits : SFits w64 (to_z w64 (of_z w64 (to_z w64 q -ℤ pos 149)) *ℤ pos (2 ^ 30))
  product_fits = rw read-exponent (record { sfits = omega (arith, product_lt) })

  read-product : to_z w64 (of_z w64 (to_z w64 (of_z w64 (to_z w64 q -ℤ pos 149)) *ℤ pos (2 ^ 30))) ≡ sub_ℕ q 149 *ℤ pos (2 ^ 30)
  read-product = to_z-of_z w64 (to_z w64 (of_z w64 (to_z w64 q -ℤ pos 149)) *ℤ pos (2 ^ 30)) product_fits ∙ ap (λ (z : ℤ). z *ℤ pos (2 ^ 30)) read-exponent

  sum_fits : SFits w64 (to_z w64 (of_z w64 (to_z w64 (of_z w64 (to_z w64 q -ℤ pos 149)) *ℤ pos (2 ^ 30))) +ℤ to_z w64 d)
  sum_fits = rw (read-product, read-digits) (record { sfits = omega (arith, sum_lt) })

  read-sum : to_z w64 (of_z w64 (to_z w64 (of_z w64 (to_z w64 (of_z w64 (to_z w64 q -ℤ pos 149)) *ℤ pos (2 ^ 30))) +ℤ to_z w64 d)) ≡ sub_ℕ q 149 *ℤ pos (2 ^ 30) +ℤ pos d
  read-sum = to_z-of_z w64 _ sum_fits ∙ (λ i. read-product i +ℤ read-digits i)

pub parts_of-parts-requires : goal.parts_of-parts-requires
parts_of-parts-requires c = c.requires

-- the exponent that the code counts
abbrev q : After-parts_of-parts → ℕ
q c = c.parts_of-parts.result.exponent

few : (c : After-parts_of-parts) → c.parts_of-parts.result.exponent < 279
few c = c.parts_of-parts.ensures.few

pub overflow_mul-significand : goal.overflow_mul-significand
overflow_mul-significand c = record { fits = omega (arith, c.before.parts_of-parts.ensures.below) }

pub overflow_cast-exponent : goal.overflow_cast-exponent
overflow_cast-exponent c = record { sfits = omega (arith, few c.before.before) }

pub overflow_sub-exponent : goal.overflow_sub-exponent
overflow_sub-exponent c = exponent-fits (q c.before.before) 0 (few c.before.before) (omega arith)

pub overflow_mul-result : goal.overflow_mul-result
overflow_mul-result c = product_fits (q c.before.before) 0 (few c.before.before) (omega arith)

pub digits_left-requires : goal.digits_left-requires
digits_left-requires c = let p = c.before.before.parts_of-parts.ensures in (omega arith, omega (arith, p.from), omega (arith, p.below))

result-lt : (c : After-digits_left) → c.digits_left.result < 2 ^ 30
result-lt c = rw c.digits_left.ensures (digits_lt 30 _)

pub overflow_cast-result : goal.overflow_cast-result
overflow_cast-result c = record { sfits = omega (arith, result-lt c) }

pub overflow_add-result : goal.overflow_add-result
overflow_add-result c = sum_fits (q c.before.before.before) c.digits_left.result (few c.before.before.before) (result-lt c)

pub returns : goal.returns
unfolding binary_logarithm
returns c =
    let d = c.before.before.before in
    let x = d.before.args.x in
    let p = d.parts_of-parts in
    let M = p.result.significand in
    let k = p.result.exponent in
    read-sum k c.digits_left.result (few d) (result-lt c)
    ∙ ap (λ (z : ℤ). z *ℤ pos (2 ^ 30) +ℤ pos c.digits_left.result) (sym (exponent-is x M k p.ensures))
    ∙ ap (λ (i : ℕ). exponent x *ℤ pos (2 ^ 30) +ℤ pos i) (c.digits_left.ensures ∙ ap (digits 30) (sym (significand-is x M k p.ensures)))
