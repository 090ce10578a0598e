-- What is told where slot 1 is no type: by the first two limits alone.
use Rattle.std.proofs.Common.{◌≡◌, ◌∙◌, false, List, refl}
use lib.Ieee.{Float}
use Rattle.model.specs.Limits.{slot}
use Rattle.model.specs.Types.{jant_of, type_ok}
use Rattle.slots.specs.Told.{Why, lowest, or_else, numbers_from, told}
use Rattle.set_up_why.specs.Why.{broken, broken_untyped, breaks, why_of}

two-limits : (p : List Float) → type_ok (jant_of (slot p 1)) ≡ false → told (λ n s. broken_untyped n s (slot p s)) ≡ why_of p
unfolding why_of told numbers_from or_else lowest broken_untyped breaks broken
two-limits p h = rw h refl

pub untyped : (p : List Float) (w : Why) → type_ok (jant_of (slot p 1)) ≡ false → w ≡ told (λ n s. broken_untyped n s (slot p s)) → w ≡ why_of p
untyped p w h e = e ∙ two-limits p h
