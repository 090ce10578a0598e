-- `power::exponential_sum` meets its contract. The invariant: the term and the sum are those of the definition before k.
use mathlib.Core.Path.{◌≡◌, refl, ap, ◌∙◌}
use Prim.Native.Nat.{ℕ, suc, ◌+◌, ◌-◌, ◌*◌, ◌/◌, ◌^◌, ◌≤◌}
use native.Mathlib.Nat.{mul-le-mul}
use native.Mathlib.Omega.{arith}
use Rattle.power.specs.Power as Spec
use Rattle.power.proofs.Words.{term-le, sum-le}
use Rattle.power.proofs.exponential_sum.Goals as goal
use Rattle.power.proofs.exponential_sum.Goals.{In-loop-k}

-- the next term and sum, as the code has them
next-term : (w j k t : ℕ) → suc j ≡ k → t ≡ Spec.term w j → t * w / 2 ^ 30 / k ≡ Spec.term w k
unfolding Spec.term
next-term w j k t e is = rw (← e, is)

next-sum : (w j k s t : ℕ) → suc j ≡ k → s ≡ Spec.sum_to w j → t ≡ Spec.term w k → s + t ≡ Spec.sum_to w k
unfolding Spec.sum_to
next-sum w j k s t e is this = rw (this, is, ← e)

-- on a turn of the loop
module _ (c : In-loop-k) where
  term_is : c.loop-k.term * c.args.w / 2 ^ 30 / c.loop-k.k ≡ Spec.term c.args.w c.loop-k.k
  term_is = next-term c.args.w (c.loop-k.k - 1) c.loop-k.k c.loop-k.term (omega arith) c.loop-k.invariant.0

  sum_is : c.loop-k.sum + c.loop-k.term * c.args.w / 2 ^ 30 / c.loop-k.k ≡ Spec.sum_to c.args.w c.loop-k.k
  sum_is = next-sum c.args.w (c.loop-k.k - 1) c.loop-k.k c.loop-k.sum _ (omega arith) c.loop-k.invariant.1 term_is

  next : c.loop-k.k + 1 - 1 ≡ c.loop-k.k
  next = omega arith

pub loop-k-init : goal.loop-k-init
unfolding Spec.sum_to Spec.term
loop-k-init c = (refl, refl)

pub overflow_mul-term : goal.overflow_mul-term
overflow_mul-term c =
    let w = c.args.w in
    let p : Spec.term w (c.loop-k.k - 1) * w ≤ 2 ^ 30 * 2 ^ 30 = mul-le-mul (term-le w (c.loop-k.k - 1) c.requires) c.requires in
    record { fits = rw c.loop-k.invariant.0 (omega arith) }

pub overflow_add-sum : goal.overflow_add-sum
overflow_add-sum c = record { fits = rw (sum_is (goal.at.overflow_add-sum c).In-loop-k) (omega (arith, sum-le c.args.w c.loop-k.k c.requires)) }

pub loop-k-preserved : goal.loop-k-preserved
loop-k-preserved c =
    let t = (goal.at.loop-k-preserved c).In-loop-k in
    rw (next t) (term_is t, sum_is t)

pub returns : goal.returns
returns c =
    let end : c.loop-k.k - 1 ≡ 12 = omega arith in
    c.loop-k.invariant.1 ∙ ap (Spec.sum_to c.args.w) end
