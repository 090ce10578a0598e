-- `logarithm::digits_left` meets its contract: each call is one digit of `digits`.
use mathlib.Core.Path.{◌≡◌, ap, ◌∙◌}
use Prim.Native.Nat.{ℕ, ◌-◌, ◌*◌, ◌/◌, ◌%◌, ◌^◌, ◌≤◌, ◌<◌}
use native.Mathlib.Nat.{lt_of_le_of_lt, mod-eq_of_lt}
use native.Mathlib.Omega.{arith}
use lib.Pow.{pow-lt, pow_mono}
use Rattle.logarithm.specs.Logarithm.{square, digit, digits}
use Rattle.logarithm.proofs.Digits.{square-lt, shifted, digit-le, digits-next, digits_lt, step}
use Rattle.logarithm.proofs.+digits_left.Goals as goal

-- `digit << k` is the digit times 2 ^ k
placed : (x k : ℕ) → x < 2 ^ 31 → k < 64 → square x / 2 ^ 31 * 2 ^ k % 2 ^ 64 ≡ digit (square x) * 2 ^ k
placed x k h l =
    ap (λ (d : ℕ). d * 2 ^ k % 2 ^ 64) (shifted (square x) (square-lt x h)).0
    ∙ mod-eq_of_lt (lt_of_le_of_lt (digit-le (square x) k) (pow-lt l))

pub returns-then-left-eq0 : goal.returns-then-left-eq0
unfolding digits
returns-then-left-eq0 t c = rw c.if-left-eq0.true

pub digits_left-requires : goal.digits_left-requires
digits_left-requires t c =
    let x = c.args.x in
    let e = (shifted (square x) (square-lt x (omega arith))).1 in
    let s = step x (omega arith) (omega arith) in
    (omega arith, (omega arith, rw e s.from, rw e s.below))

pub overflow_add-result : goal.overflow_add-result
overflow_add-result t c =
    let s = c.args in
    let k = s.left - 1 in
    let d : c.digits_left.result < 2 ^ k = rw c.digits_left.ensures (digits_lt k (square s.x / 2 ^ (square s.x / 2 ^ 31))) in
    let p : 2 ^ k ≤ 2 ^ 30 = pow_mono {j = 30} (omega arith) in
    record { fits = rw (placed s.x k (omega arith) (omega arith)) (omega (arith, digit-le (square s.x) k)) }

pub returns : goal.returns
unfolding digits
returns t c =
    let s = c.args in
    rw (placed s.x (s.left - 1) (omega arith) (omega arith), c.digits_left.ensures, (shifted (square s.x) (square-lt s.x (omega arith))).1, digits-next s.left s.x (omega arith))
