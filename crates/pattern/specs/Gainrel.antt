-- `gainrel`: the relative gain at elevation u and azimuth v, in degrees. Definitions only.
use Rattle.std.specs.Prelude.{ℕ, Bool, cond, List, eqb, get_or, Float}
use Rattle.std.specs.Float.{nan}
use Rattle.floats.specs.Ops.{+0}
use Rattle.floats.specs.Rounding.{ifix_of}
use Rattle.model.specs.Types.{crossed_type}
use Rattle.model.specs.declared.record.Ground.{Ground}
use Rattle.model.specs.declared.record.Factors.{Factors}
use Rattle.model.specs.declared.record.Direction.{Direction}
use Rattle.model.specs.declared.record.Model.{Model}
use Rattle.directions.specs.Azimuth.{quadrant_of, direction_of, behind_screen}
use Rattle.dipole_arrays.specs.Dipoles.{gain1, gain2, gain3, gain4}
use Rattle.booms.specs.Boom.{gain5, gain6}
use Rattle.rhombic_crossed.specs.Rhombic.{gain7}
use Rattle.rhombic_crossed.specs.Crossed.{gain89}

-- the entries iu of six tables
abbrev pub factors_at : List Float → List Float → List Float → List Float → List Float → List Float → ℕ → Factors
factors_at w3 w4 w5 w6 w9 w10 iu =
    record { w3 = get_or w3 iu nan; w4 = get_or w4 iu nan; w5 = get_or w5 iu nan; w6 = get_or w6 iu nan; w9 = get_or w9 iu nan; w10 = get_or w10 iu nan }

-- w3[iu] to w10[iu]
unfoldable pub factors_in : Ground → ℕ → Factors
factors_in g iu = factors_at g.w3 g.w4 g.w5 g.w6 g.w9 g.w10 iu

-- the `match` on the type; 0 of any other type
unfoldable pub gain_in : Model → List Float → ℕ → Direction → Bool → Float
gain_in m table iu d behind =
    let k = m.constants in
    let e = m.elements in
    let w = factors_in m.ground iu in
    cond (eqb m.iant 1) (gain1 k w d behind)
    (cond (eqb m.iant 2) (gain2 k w d)
    (cond (eqb m.iant 3) (gain3 k w d)
    (cond (eqb m.iant 4) (gain4 k w d)
    (cond (eqb m.iant 5) (gain5 k e table iu d)
    (cond (eqb m.iant 6) (gain6 k e table iu d)
    (cond (eqb m.iant 7) (gain7 k w d)
    (cond (crossed_type m.iant) (gain89 m.iant k w d)
    +0)))))))

unfoldable pub gain_rel : Model → List Float → Float → Float → Float
gain_rel m table u v =
    let iu = ifix_of u in
    gain_in m table iu (direction_of m.trig.a m.trig.b iu (quadrant_of v)) (behind_screen v)
