-- `signed`: the sign bit is the highest, and the others are kept (`sign_set`).
use Rattle.std.proofs.Common.{◌≡◌, ℕ, ◌+◌, ◌%◌, ◌^◌, Bool, cond, not, T, sym, ap, ◌∙◌, subst}
use lib.Ieee.{binary32, is_nan, to_bits, of_bits}
use lib.Ieee.Bits.{nan_bits_is}
use Rattle.numeric.specs.Float.{with_sign}
use Rattle.numeric.proofs.Comparisons.{holds}
use Rattle.numeric.proofs.float.SignBit.{sign_set, with_sign_number}
use Rattle.numeric.proofs.float.signed.Goals as goal
use Rattle.numeric.proofs.float.signed.Goals.{Joined-negative, then-negative, else-negative}

sign_is : (c : Joined-negative) → c.if-negative.sign ≡ cond c.args.negative (2 ^ 31) 0
sign_is c = elim c.if-negative.branch [ then-negative w ↦ w.sign-is ∙ sym (ap (λ (b : Bool). cond b (2 ^ 31) 0) w.if-negative.true) | else-negative w ↦ w.sign-is ∙ sym (ap (λ (b : Bool). cond b (2 ^ 31) 0) w.if-negative.false) ]

value : (c : Joined-negative) → of_bits binary32 (to_bits binary32 c.args.x % 2 ^ 31 + c.if-negative.sign) ≡ with_sign c.args.x c.args.negative
value c = ap (λ (z : ℕ). of_bits binary32 (to_bits binary32 c.args.x % 2 ^ 31 + z)) (sign_is c) ∙ sign_set c.args.x c.args.negative (holds c.well_formed.0.1)

pub float_from_bits-result : goal.float_from_bits-result
float_from_bits-result c =
    subst (λ (b : Bool). T (not b)) (sym (nan_bits_is binary32 (to_bits binary32 c.args.x % 2 ^ 31 + c.if-negative.sign) ∙ ap is_nan (value c.before))) (with_sign_number c.args.x c.args.negative c.requires)

pub returns : goal.returns
returns c = value c.before
