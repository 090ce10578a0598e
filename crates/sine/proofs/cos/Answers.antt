-- `sine::cos`, by its test of the domain.
use mathlib.Core.Path.{◌≡◌, sym, ap, ◌∙◌}
use mathlib.Core.Bool.{Bool, true, false, cond}
use native.Mathlib.Omega.{arith}
use lib.Ieee.{Float, nan, div, of_bits}
use Rattle.numeric.specs.Rounding.{truncated}
use Rattle.sine.specs.Sine.{in_domain, quarter, past, cosine_at, cosine}
use Rattle.sine.proofs.Terms.{past-le, quarter-le}
use Rattle.sine.proofs.cos.Goals as goal
use Rattle.sine.proofs.cos.Goals.{Then-in_domain}

inside : (c : Then-in_domain) → in_domain c.before.before.args.a ≡ true
inside c = sym c.before.in_domain.ensures ∙ c.if-in_domain.true

pub cosine_at-requires : goal.cosine_at-requires
cosine_at-requires c =
    let n = truncated 40 c.before.before.before.args.a in
    let r = c.reduced.ensures in
    (omega (arith, r.0, quarter-le n), omega (arith, r.1, past-le n))

-- by the test
value : (a : Float) (d : Bool) → in_domain a ≡ d → cond d (cosine_at (quarter (truncated 40 a)) (past (truncated 40 a))) nan ≡ cosine a
unfolding cosine
value a d e = ap (λ (b : Bool). cond b (cosine_at (quarter (truncated 40 a)) (past (truncated 40 a))) nan) (sym e)

pub returns-then-in_domain : goal.returns-then-in_domain
returns-then-in_domain c =
    let d = c.before.before in
    let r = c.before.reduced.ensures in
    c.cosine_at.ensures ∙ (λ i. cosine_at (r.0 i) (r.1 i)) ∙ value d.before.before.args.a true (inside d)

pub returns-else-in_domain : goal.returns-else-in_domain
unfolding div of_bits
returns-else-in_domain c = value c.before.before.args.a false (sym c.before.in_domain.ensures ∙ c.if-in_domain.false)
