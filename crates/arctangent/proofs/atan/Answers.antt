-- `arctangent::atan`: atan of |a| is not negative, and takes the sign of a.
use mathlib.Core.Path.{◌≡◌, sym, ap, ◌∙◌, subst}
use mathlib.Core.Bool.{Bool, not, cond}
use lib.Dec.{T}
use lib.Ieee.{Float, nan, neg, is_nan, of_bits, div}
use lib.Ieee.Bits.{is_false}
use lib.Ieee.Compare.{differs_from_itself}
use Rattle.numeric.specs.Float.{mag, sign_bit, with_sign}
use Rattle.arctangent.specs.Arctangent.{atan_of, atan_of_size}
use Rattle.numeric.specs.Inner.{unsigned}
use Rattle.numeric.proofs.Comparisons.{holds}
use Rattle.numeric.proofs.Signs.{no_nan, mag-unsigned, unsigned-mag}
use Rattle.arctangent.proofs.atan.Goals as goal
use Rattle.arctangent.proofs.atan.Goals.{Else-a}

pub returns-then-a : goal.returns-then-a
unfolding atan_of of_bits div is_nan
returns-then-a c = sym (ap atan_of (differs_from_itself c.before.args.a (holds c.if-a.true)))

number : (c : Else-a) → T (not (is_nan c.before.args.a))
number c = no_nan c.before.args.a c.if-a.false

pub atan_of_size-requires : goal.atan_of_size-requires
atan_of_size-requires c = rw c.abs.ensures.value (mag-unsigned c.before.before.args.a (number c.before))

by_sign : (a : Float) → T (not (is_nan a)) → T (unsigned (atan_of_size (mag a))) → with_sign (atan_of_size (mag a)) (sign_bit a) ≡ atan_of a
unfolding atan_of
by_sign a n u =
    let y = atan_of_size (mag a) in
    ap (λ (z : Float). cond (sign_bit a) (neg z) z) (unsigned-mag y u)
    ∙ sym (ap (λ (b : Bool). cond b nan (cond (sign_bit a) (neg y) y)) (is_false (is_nan a) n))

pub returns : goal.returns
returns c =
    let d = c.before.before.before in
    let a = d.before.before.args.a in
    let y : c.before.before.atan_of_size.result ≡ atan_of_size (mag a) = c.before.before.atan_of_size.ensures.0 ∙ ap atan_of_size d.abs.ensures.value in
    c.with_sign.ensures
    ∙ (λ i. with_sign (y i) (c.before.is_sign_negative.ensures i))
    ∙ by_sign a (number d.before) (subst (λ (z : Float). T (unsigned z)) y c.before.before.atan_of_size.ensures.1)
