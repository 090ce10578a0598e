-- `sine::sine_at`: S in the even quarters and C in the odd ones, negated from the third on.
use mathlib.Core.Path.{◌≡◌, refl, sym, ◌∙◌}
use mathlib.Core.Bool.{Bool, true, false, not, cond, beq}
use Prim.Native.Nat.{ℕ}
use lib.Dec.{leb}
use lib.IntN.{pos}
use lib.Ieee.{Float, neg}
use Rattle.numeric.specs.Float.{with_sign}
use Rattle.numeric.specs.Rounding.{F}
use Rattle.sine.specs.Sine.{sine_units, cosine_units, sine_at}
use Rattle.numeric.proofs.Signs.{neg-neg}
use Rattle.sine.proofs.SignsAndBounds.{sine_at_even, sine_at_uneven, size_number, size-signed}
use Rattle.sine.proofs.sine_at.Goals as goal
use Rattle.sine.proofs.sine_at.Goals.{then-q-eq0, else-q-eq0}

-- two negations are none
twice : (b n : Bool) (y : Float) → cond (not (beq b n)) (neg y) y ≡ cond n (neg (cond b (neg y) y)) (cond b (neg y) y)
twice true true y = sym (neg-neg y)
twice true false y = refl
twice false true y = refl
twice false false y = refl

-- what is returned, of a size y = F w in the quarter q
signed : (y z : Float) (w q : ℕ) (n : Bool) → y ≡ F (pos w) → z ≡ cond (leb 2 q) (neg (F (pos w))) (F (pos w)) → with_sign y (not (beq (leb 2 q) n)) ≡ cond n (neg z) z
signed y z w q n e g = size-signed y w (not (beq (leb 2 q) n)) e ∙ twice (leb 2 q) n (F (pos w)) ∙ sym (λ i. cond n (neg (g i)) (g i))

pub signed-requires : goal.signed-requires
signed-requires c = elim c.if-q-eq0.branch [ then-q-eq0 w ↦ size_number _ _ (w.size-is ∙ w.summed-size.ensures) | else-q-eq0 w ↦ size_number _ _ (w.size-is ∙ w.summed-size-else-q-eq0.ensures) ]

pub returns : goal.returns
unfolding sine_units cosine_units
returns c =
    let s = c in
    let q = s.args.a.quarter in
    let t = s.args.a.past in
    let z = sine_at q t in
    c.signed.ensures
    ∙ elim c.if-q-eq0.branch [
      | then-q-eq0 w ↦ signed c.if-q-eq0.size z (sine_units t) q s.args.negative (w.size-is ∙ w.summed-size.ensures) (sine_at_even q t s.requires.0 w.if-q-eq0.true)
      | else-q-eq0 w ↦ signed c.if-q-eq0.size z (cosine_units t) q s.args.negative (w.size-is ∙ w.summed-size-else-q-eq0.ensures) (sine_at_uneven q t s.requires.0 w.if-q-eq0.false)
    ]
