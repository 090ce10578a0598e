-- The pattern of types 8 and 9 by its parts is the one step by step.
use Prim.Native.Nat.{ℕ}
use mathlib.Core.Path.{◌≡◌, refl}
use Rattle.model.specs.declared.record.Constants.{Constants}
use Rattle.model.specs.declared.record.Direction.{Direction}
use Rattle.model.specs.declared.record.Factors.{Factors}
use Rattle.rhombic_crossed.specs.Complex.{times, plus, scaled, power_of}
use Rattle.rhombic_crossed.specs.Crossed.{gain89}
use Rattle.rhombic_crossed.specs.CrossedParts.{crossed_of, shift_of, vertical_of, horizontal_of, crossed_gain}

pub crossed_whole : (iant : ℕ) (k : Constants) (w : Factors) (d : Direction) → crossed_gain iant k w d ≡ gain89 iant k w d
unfolding crossed_gain crossed_of shift_of vertical_of horizontal_of times plus scaled power_of gain89
crossed_whole iant k w d = refl
