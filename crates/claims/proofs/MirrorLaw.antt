-- Demand 3: the mirror law holds.
use Prim.Native.Nat.{◌≤◌}
use mathlib.Core.Path.{◌≡◌}
use mathlib.Core.Logic.{inl, inr}
use mathlib.Core.List.{List}
use native.Mathlib.Omega.{arith}
use lib.Dec.{leb→le}
use lib.IntN.{ℤ, pos, negsuc, neg_ℤ, nat_abs}
use lib.Signed.{◌≤ℤ◌}
use lib.Ieee.{Float, to_signed}
use Rattle.model.specs.Types.{jant_of}
use Rattle.model.specs.Limits.{slot}
use Rattle.curtain_parameters.specs.Pattrn0.{islew_of}
use Rattle.curtain.proofs.Unslewed.{curtain-mirror}
use Rattle.antenna_laws.proofs.Mirror.{gain-mirror}
use Rattle.claims.specs.MirrorLaw.{Symmetric, MirrorLaw}

to_type_6 : (p : List Float) → Symmetric p → jant_of (slot p 1) ≤ 6
to_type_6 p (inl s) = omega arith
to_type_6 p (inr s) = omega arith

no_slew : (p : List Float) → Symmetric p → jant_of (slot p 1) ≤ 4 → to_signed 31 (slot p 9) ≡ pos 0
no_slew p (inl s) l = s.2
no_slew p (inr s) l = absurd (omega arith)

at_most_3 : (z : ℤ) → neg_ℤ (pos 3) ≤ℤ z → z ≤ℤ pos 3 → nat_abs z ≤ 3
at_most_3 (pos n) l h = leb→le n 3 h.le
at_most_3 (negsuc n) l h = omega (arith, leb→le n 2 l.le)

pub mirror_law : MirrorLaw
unfolding islew_of
mirror_law =
    record {
      ccirgain =
          λ p n a readings h s t u giso v l x y. gain-mirror p n h (to_type_6 p s) (no_slew p s) t u giso v l x y;
      curtain = λ p l h azimd elevd gnorm. curtain-mirror p (at_most_3 _ l h) azimd elevd gnorm;
    }
