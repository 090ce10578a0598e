-- `arctangent::halved` meets its contract: each step fits.
use Prim.Native.Nat.{ℕ, ◌+◌, ◌*◌, ◌^◌, ◌≤◌, ◌<◌}
use native.Mathlib.Nat.{mul-le-mul}
use native.Mathlib.Omega.{arith}
use Rattle.root.proofs.Whole.{root-lt}
use Rattle.arctangent.proofs.halved.Goals as goal

square_le : (t : ℕ) → t ≤ 2 ^ 30 → t * t ≤ 2 ^ 60
square_le t h = mul-le-mul h h

pub overflow_add-result : goal.overflow_add-result
overflow_add-result c =
    let t = c.args.t in
    let small : c.isqrt-hypotenuse.result < 2 ^ 31 = rw c.isqrt-hypotenuse.ensures (root-lt (2 ^ 31) (2 ^ 60 + t * t) (omega (arith, square_le t c.requires))) in
    record { fits = omega arith }
