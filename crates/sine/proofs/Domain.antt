-- Where sine and cosine give a NaN: exactly outside the domain.
use mathlib.Core.Path.{◌≡◌, ◌∙◌}
use mathlib.Core.Bool.{false, not}
use Prim.Native.Nat.{ℕ, zero, suc}
use lib.IntN.{ℤ}
use lib.Ieee.{Float, is_nan, neg}
use Rattle.numeric.specs.Float.{sign_bit}
use Rattle.numeric.specs.Rounding.{F, truncated}
use Rattle.numeric.proofs.Domains.{choice, signed}
use Rattle.numeric.proofs.Signs.{neg-number}
use Rattle.numeric.proofs.rounding.Laws.{F-number}
use Rattle.sine.specs.Sine.{pick, sine_at, cosine_at, quarter, past, in_domain, sine, cosine}

pick-number : (q : ℕ) (a b c d : Float) → is_nan a ≡ false → is_nan b ≡ false → is_nan c ≡ false → is_nan d ≡ false → is_nan (pick q a b c d) ≡ false
pick-number zero a b c d h k l m = h
pick-number (suc zero) a b c d h k l m = k
pick-number (suc (suc zero)) a b c d h k l m = l
pick-number (suc (suc (suc q))) a b c d h k l m = m

negated : (w : ℤ) → is_nan (neg (F w)) ≡ false
negated w = neg-number (F w) ∙ F-number w

sine-at-number : (q t : ℕ) → is_nan (sine_at q t) ≡ false
unfolding sine_at
sine-at-number q t = pick-number q _ _ _ _ (F-number _) (F-number _) (negated _) (negated _)

cosine-at-number : (q t : ℕ) → is_nan (cosine_at q t) ≡ false
unfolding cosine_at
cosine-at-number q t = pick-number q _ _ _ _ (F-number _) (negated _) (negated _) (F-number _)

pub sine_domain : (x : Float) → is_nan (sine x) ≡ not (in_domain x)
unfolding sine
sine_domain x = let n = truncated 40 x in choice (in_domain x) _ (signed (sign_bit x) (sine_at (quarter n) (past n)) (sine-at-number (quarter n) (past n)))

pub cosine_domain : (x : Float) → is_nan (cosine x) ≡ not (in_domain x)
unfolding cosine
cosine_domain x = let n = truncated 40 x in choice (in_domain x) _ (cosine-at-number (quarter n) (past n))
