-- The cosine and the sine of a float without bits, +0.
use mathlib.Core.Path.{◌≡◌, sym, ap, ◌∙◌}
use lib.Dec.{T}
use lib.Ieee.{Float, binary32, fits, of_bits, to_bits}
use lib.Ieee.Bits.{of_bits-to_bits}
use Rattle.sine.specs.Sine.{sine, cosine}
use Rattle.sine.proofs.Edges.{cos_zero}
use Rattle.sine.proofs.Laws.{sine-zero}
use Rattle.floats.specs.Ops.{+0}
use Rattle.floats.specs.Literals.{one}

module _ (x : Float) (h : T (fits binary32 x)) (e : to_bits binary32 x ≡ 0) where
  no_bits : +0 ≡ x
  no_bits = sym (ap (of_bits binary32) e) ∙ of_bits-to_bits binary32 x h

  pub cosine_is_one : one ≡ cosine x
  cosine_is_one = sym cos_zero ∙ ap cosine no_bits

  pub sine_is_zero : +0 ≡ sine x
  unfolding of_bits
  sine_is_zero = sym sine-zero ∙ ap sine no_bits
