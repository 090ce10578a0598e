-- F never falls as its argument grows, and is a number.
use Rattle.std.proofs.Common.{◌≡◌, ℕ, suc, ◌^◌, true, false, T, ℤ, pos, negsuc, ◌≤ℤ◌, sym, ap, ◌∙◌, subst, suc-le-suc, mul-le-mul_right, leb→le, pow_pos}
use lib.Ieee.{Float, binary32, round, neg, le, is_nan}
use lib.Ieee.Order.{round_mono}
use Rattle.numeric.specs.Rounding.{F}
use Rattle.numeric.specs.Inner.{unsigned}
use Rattle.numeric.proofs.Signs.{neg-round, unsigned-round, unsigned-number, neg-number, neg-below, neg-turns}

pub F_mono : (v w : ℤ) → v ≤ℤ w → T (le (F v) (F w))
unfolding F
F_mono (pos a) (pos b) h = round_mono binary32 a (2 ^ 30) b (2 ^ 30) (pow_pos 30) (pow_pos 30) (mul-le-mul_right (2 ^ 30) (leb→le a b h.le))
F_mono (pos a) (negsuc b) h = absurd h.le
F_mono (negsuc a) (pos b) h =
    subst (λ (x : Float). T (le x (round binary32 false b (2 ^ 30)))) (sym (neg-round binary32 (suc a) (2 ^ 30)))
    (neg-below (round binary32 false (suc a) (2 ^ 30)) (round binary32 false b (2 ^ 30)) (unsigned-round binary32 (suc a) (2 ^ 30)) (unsigned-round binary32 b (2 ^ 30)))
F_mono (negsuc a) (negsuc b) h =
    subst (λ (x : Float). T (le x (round binary32 true (suc b) (2 ^ 30)))) (sym (neg-round binary32 (suc a) (2 ^ 30)))
    (subst (λ (x : Float). T (le (neg (round binary32 false (suc a) (2 ^ 30))) x)) (sym (neg-round binary32 (suc b) (2 ^ 30)))
    (neg-turns (round binary32 false (suc a) (2 ^ 30)) (round binary32 false (suc b) (2 ^ 30)) (unsigned-round binary32 (suc a) (2 ^ 30)) (unsigned-round binary32 (suc b) (2 ^ 30))
    (round_mono binary32 (suc b) (2 ^ 30) (suc a) (2 ^ 30) (pow_pos 30) (pow_pos 30) (mul-le-mul_right (2 ^ 30) (suc-le-suc (leb→le b a h.le))))))

pub round_number : (a c : ℕ) → is_nan (round binary32 false a c) ≡ false
round_number a c = unsigned-number (round binary32 false a c) (unsigned-round binary32 a c)

pub F-number : (w : ℤ) → is_nan (F w) ≡ false
unfolding F
F-number (pos n) = round_number n (2 ^ 30)
F-number (negsuc n) = ap is_nan (neg-round binary32 (suc n) (2 ^ 30)) ∙ neg-number (round binary32 false (suc n) (2 ^ 30)) ∙ round_number (suc n) (2 ^ 30)

pub F-unsigned : (w : ℕ) → T (unsigned (F (pos w)))
unfolding F
F-unsigned w = unsigned-round binary32 w (2 ^ 30)
