-- Type 7's pattern by its parts is the one step by step.
use mathlib.Core.Path.{◌≡◌, refl}
use Rattle.model.specs.declared.record.Constants.{Constants}
use Rattle.model.specs.declared.record.Direction.{Direction}
use Rattle.model.specs.declared.record.Factors.{Factors}
use Rattle.rhombic_crossed.specs.Complex.{times, power_of}
use Rattle.rhombic_crossed.specs.Rhombic.{gain7}
use Rattle.rhombic_crossed.specs.RhombicParts.{legs_of, current_of, horizontal_image, vertical_image, rhombic_gain}

pub rhombic_whole : (k : Constants) (w : Factors) (d : Direction) → rhombic_gain k w d ≡ gain7 k w d
unfolding rhombic_gain legs_of current_of horizontal_image vertical_image times power_of gain7
rhombic_whole k w d = refl
