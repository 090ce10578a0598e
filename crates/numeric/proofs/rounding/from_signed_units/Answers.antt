-- `numeric::rounding::from_signed_units` meets its contract: a number below 0 is the negation of its size (`Signs.neg-round`).
use Rattle.std.proofs.Common.{◌≡◌, ℕ, suc, ◌^◌, false, ℤ, pos, negsuc, nat_abs, sym, ap, ◌∙◌, true≢false, to_z-of_z, w64, to_z, of_z}
use lib.Signed.{le_z}
use lib.Dec.{leb-zero}
use lib.Ieee.{binary32, neg}
use Rattle.numeric.specs.Rounding.{F}
use Rattle.numeric.proofs.Signs.{neg-round}
use Rattle.numeric.proofs.rounding.from_signed_units.Goals as goal

negative : (z : ℤ) → le_z (pos 0) z ≡ false → neg (F (pos (nat_abs z))) ≡ F z
unfolding F
negative (pos n) e = absurd (true≢false (sym (leb-zero n) ∙ e))
negative (negsuc n) e = sym (neg-round binary32 (suc n) (2 ^ 30))

pub returns-else-w-ge0 : goal.returns-else-w-ge0
returns-else-w-ge0 c =
    let w = c.args.w in
    let read : to_z w64 (of_z w64 w) ≡ w = to_z-of_z c.ranges.w in
    ap neg (c.from_units-else-w-ge0.ensures ∙ ap (λ (n : ℕ). F (pos n)) (c.unsigned_abs.ensures.value ∙ ap nat_abs read)) ∙ negative w (rw read at c.if-w-ge0.false)
