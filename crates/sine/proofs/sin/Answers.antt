-- `sine::sin`, by its test of the domain.
use mathlib.Core.Path.{◌≡◌, sym, ap, ◌∙◌}
use mathlib.Core.Bool.{Bool, true, false, cond}
use native.Mathlib.Omega.{arith}
use lib.Ieee.{Float, nan, neg, div, of_bits}
use Rattle.numeric.specs.Float.{sign_bit}
use Rattle.numeric.specs.Rounding.{truncated}
use Rattle.sine.specs.Sine.{in_domain, quarter, past, sine_at, sine}
use Rattle.sine.proofs.Terms.{past-le, quarter-le}
use Rattle.sine.proofs.sin.Goals as goal
use Rattle.sine.proofs.sin.Goals.{Then-in_domain}

inside : (c : Then-in_domain) → in_domain c.before.before.args.a ≡ true
inside c = sym c.before.in_domain.ensures ∙ c.if-in_domain.true

pub sine_at-requires : goal.sine_at-requires
sine_at-requires c =
    let n = truncated 40 c.before.before.before.before.args.a in
    let r = c.before.reduced.ensures in
    (omega (arith, r.0, quarter-le n), omega (arith, r.1, past-le n))

-- by the test and the sign
value : (a : Float) (d : Bool) → in_domain a ≡ d → let y = sine_at (quarter (truncated 40 a)) (past (truncated 40 a)) in cond d (cond (sign_bit a) (neg y) y) nan ≡ sine a
unfolding sine
value a d e = let y = sine_at (quarter (truncated 40 a)) (past (truncated 40 a)) in sym (ap (λ (b : Bool). cond b (cond (sign_bit a) (neg y) y) nan) e)

pub returns-then-in_domain : goal.returns-then-in_domain
returns-then-in_domain c =
    let d = c.before.before.before in
    let r = c.before.before.reduced.ensures in
    c.sine_at.ensures ∙ (λ i. let y = sine_at (r.0 i) (r.1 i) in cond (c.before.is_sign_negative.ensures i) (neg y) y) ∙ value d.before.before.args.a true (inside d)

pub returns-else-in_domain : goal.returns-else-in_domain
unfolding div of_bits
returns-else-in_domain c = value c.before.before.args.a false (sym c.before.in_domain.ensures ∙ c.if-in_domain.false)
