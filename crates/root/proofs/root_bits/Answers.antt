-- `root_bits`. The shifted m has 49 or 50 digits, so that its root has 25 (`Shifts.antt`).
use mathlib.Core.Path.{◌≡◌, ap, ◌∙◌}
use Prim.Native.Nat.{ℕ, ◌+◌, ◌*◌, ◌/◌, ◌%◌, ◌^◌, ◌<◌}
use native.Mathlib.Nat.{lt_of_le_of_lt, le_of_eq}
use native.Mathlib.Omega.{arith}
use Rattle.root.specs.Root.{root}
use Rattle.root.proofs.Newton.{newton_above}
use Rattle.root.proofs.Shifts.{halved, shift, shift_is, quotient_lt, root-small, root_bits_are}
use Rattle.root.proofs.root_bits.Goals as goal
use Rattle.root.proofs.root_bits.Goals.{After-isqrt_from-s, After-near_root-guess}

-- Newton's first step stays small
quotient : (c : After-near_root-guess) → let s = c.before.args in s.m * 2 ^ shift s.e % 2 ^ 64 / c.near_root-guess.result < 2 ^ 27
quotient c =
    let s = c.before in
    quotient_lt s.args.m s.args.e s.requires.0 s.requires.1 s.requires.2 c.near_root-guess.result c.near_root-guess.ensures.0

-- the integer root is that of the shifted m, and is below 2 ^ 25
the-root : (c : After-isqrt_from-s) → let s = c.before.before.args in c.isqrt_from-s.result ≡ root (s.m * 2 ^ shift s.e)
the-root c =
    let s = c.before.before in
    c.isqrt_from-s.ensures ∙ ap root (shift_is s.args.m s.args.e s.requires.0 s.requires.1 s.requires.2)

small : (c : After-isqrt_from-s) → c.isqrt_from-s.result < 2 ^ 25
small c =
    let s = c.before.before in
    lt_of_le_of_lt (le_of_eq (the-root c)) (root-small s.args.m s.args.e s.requires.0 s.requires.1 s.requires.2)

pub isqrt_from-s-requires : goal.isqrt_from-s-requires
isqrt_from-s-requires c =
    let s = c.before.args in
    (omega (arith, quotient c), newton_above (s.m * 2 ^ shift s.e % 2 ^ 64) c.near_root-guess.result (omega arith))

pub overflow_add-result : goal.overflow_add-result
overflow_add-result c = omega (arith, small c)

pub overflow_cast-result : goal.overflow_cast-result
overflow_cast-result c = omega (arith, small c)

pub overflow_add-result-2 : goal.overflow_add-result-2
overflow_add-result-2 c = omega (arith, small c)

pub returns : goal.returns
returns c =
    let s = c.before.before in
    λ x f p h. ap (λ (r : ℕ). halved s.args.e * 2 ^ 23 + (r + 1) / 2) (the-root c)
    ∙ root_bits_are s.args.m s.args.e s.requires.0 s.requires.1 s.requires.2 x f p h
