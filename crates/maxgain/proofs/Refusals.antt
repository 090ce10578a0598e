-- Where no number was given, the mode and its band are met.
use Prim.Native.Nat.{ℕ, ◌≤◌}
use mathlib.Core.Path.{◌≡◌}
use mathlib.Core.Bool.{true, not}
use mathlib.Core.List.{List}
use borrow.Author.Tests.{ltb-false, not-false}
use lib.Dec.{ltb}
use lib.Ieee.{Float}
use Rattle.floats.specs.Ops.{at}
use Rattle.model.specs.Types.{jant_of, type_ok}
use Rattle.floats.proofs.Tests.{next}
use Rattle.maxgain.specs.Refusals.{inputs_finite, band_ok, refusal_of}

pub met : (mode : ℕ) (parm gainmax gainmaxb : List Float) (mhz design : Float) → refusal_of mode parm gainmax gainmaxb mhz design ≡ 0
    → (mode ≤ 2) × (band_ok mode mhz ≡ true)
unfolding refusal_of
met mode parm gainmax gainmaxb mhz design h =
    let type = (next (not (inputs_finite parm gainmax gainmaxb mhz design)) 1 _ h).1 in
    let modes = (next (not (type_ok (jant_of (at parm 1)))) 2 _ type).1 in
    let over = next (ltb 2 mode) 3 _ modes in
    (ltb-false _ _ over.0, not-false _ (next (not (band_ok mode mhz)) 4 0 over.1).0)
