-- How many words the gains take. Assumes nothing.
use mathlib.Core.Path.{◌≡◌, refl}
use mathlib.Core.List.{List}
use Prim.Native.Nat.{ℕ, zero, suc, ◌+◌, ◌*◌}
use native.Mathlib.Omega.{arith}
use lib.ListN.{length, length-append}
use lib.Ieee.{Float}
use Rattle.floats.specs.Ops.{at}
use Rattle.answers.specs.Outcome.{Outcome, refused, accepted}
use Rattle.answers.specs.declared.Kind.{Kind}
use Rattle.antenna.specs.Gain.{gain_of}
use Rattle.antenna.specs.declared.record.Antenna.{Antenna}
use Rattle.gains_calls.specs.Gains.{gain_words, gains_to}

two-words : (g : Outcome (Kind × Float)) → length (gain_words g) ≡ 2
unfolding gain_words
two-words (refused n) = refl
two-words (accepted g) = refl

pub gains_length : (a : Antenna) (t : List Float) (giso : Float) (ds : List Float) (n : ℕ) → length (gains_to a t giso ds n) ≡ 2 * n
unfolding gains_to
gains_length a t giso ds zero = refl
gains_length a t giso ds (suc n) =
    rw length-append (omega (arith, gains_length a t giso ds n, two-words (gain_of a t (at ds (2 * n)) (at ds (2 * n + 1)) giso)))
