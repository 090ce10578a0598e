-- `sine::cosine_at`: C in the even quarters and S in the odd ones, negated in the second and third.
use mathlib.Core.Path.{sym, ◌∙◌}
use mathlib.Core.Bool.{◌||◌}
use lib.Dec.{eqb}
use Rattle.sine.specs.Sine.{sine_units, cosine_units}
use Rattle.sine.proofs.SignsAndBounds.{cosine_at_even, cosine_at_uneven, size_number, size-signed}
use Rattle.sine.proofs.cosine_at.Goals as goal
use Rattle.sine.proofs.cosine_at.Goals.{then-q-eq0, else-q-eq0}

pub signed-requires : goal.signed-requires
signed-requires c = elim c.if-q-eq0.branch [ then-q-eq0 w ↦ size_number _ _ (w.size-is ∙ w.summed-size.ensures) | else-q-eq0 w ↦ size_number _ _ (w.size-is ∙ w.summed-size-else-q-eq0.ensures) ]

pub returns : goal.returns
unfolding sine_units cosine_units
returns c =
    let s = c in
    let q = s.args.a.quarter in
    let t = s.args.a.past in
    let n = eqb q 1 || eqb q 2 in
    let y = c.if-q-eq0.size in
    c.signed.ensures
    ∙ elim c.if-q-eq0.branch [
      | then-q-eq0 w ↦ size-signed y (cosine_units t) n (w.size-is ∙ w.summed-size.ensures) ∙ sym (cosine_at_even q t s.requires.0 w.if-q-eq0.true)
      | else-q-eq0 w ↦ size-signed y (sine_units t) n (w.size-is ∙ w.summed-size-else-q-eq0.ensures) ∙ sym (cosine_at_uneven q t s.requires.0 w.if-q-eq0.false)
    ]
