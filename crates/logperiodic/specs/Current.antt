-- `parabol` and `curcal` of the source, and the current and phase of one element, from `logparm`. Definitions only.
use Rattle.std.specs.Prelude.{cond, Float}
use Rattle.std.specs.Float.Ieee.{neg}
use Rattle.floats.specs.Ops.{◌⊕◌, ◌⊖◌, ◌⊗◌, ◌⊘◌, +0}
use Rattle.floats.specs.Literals.{one, two, three, four}
use Rattle.floats.specs.Ranges.{between, from_to}
use Rattle.logperiodic.specs.Literals.{n0·316, n0·501, n0·676, n0·707, n0·876, n0·922, n0·976, n142, n150}
use Rattle.logperiodic.specs.declared.current.Parabola.{Parabola}
use Rattle.logperiodic.specs.declared.current.Band.{Band}
use Rattle.logperiodic.specs.declared.current.Curves.{Curves}

-- `parabol`: y = aa x^2 + bb x + cc through three points
unfoldable pub parabol_of : Float → Float → Float → Float → Float → Float → Parabola
parabol_of x1 x2 x3 y1 y2 y3 =
    let dd = x1 ⊗ x1 ⊗ (x2 ⊖ x3) ⊖ x1 ⊗ (x2 ⊗ x2 ⊖ x3 ⊗ x3) ⊕ (x2 ⊗ x2 ⊗ x3 ⊖ x3 ⊗ x3 ⊗ x2) in
    let da = y1 ⊗ (x2 ⊖ x3) ⊖ x1 ⊗ (y2 ⊖ y3) ⊕ (y2 ⊗ x3 ⊖ x2 ⊗ y3) in
    let db = x1 ⊗ x1 ⊗ (y2 ⊖ y3) ⊖ y1 ⊗ (x2 ⊗ x2 ⊖ x3 ⊗ x3) ⊕ (x2 ⊗ x2 ⊗ y3 ⊖ x3 ⊗ x3 ⊗ y2) in
    let dc = x1 ⊗ x1 ⊗ (x2 ⊗ y3 ⊖ y2 ⊗ x3) ⊖ x1 ⊗ (x2 ⊗ x2 ⊗ y3 ⊖ y2 ⊗ x3 ⊗ x3) ⊕ y1 ⊗ (x2 ⊗ x2 ⊗ x3 ⊖ x3 ⊗ x3 ⊗ x2) in
    record { aa = da ⊘ dd; bb = db ⊘ dd; cc = dc ⊘ dd }

-- the parabola through (x2, y2) with its vertex at (x1, y1)
unfoldable pub vertexed : Float → Float → Float → Float → Parabola
vertexed x1 y1 x2 y2 =
    let aa = (y2 ⊖ y1) ⊘ ((x2 ⊖ x1) ⊗ (x2 ⊖ x1)) in
    record { aa = aa; bb = neg two ⊗ aa ⊗ x1; cc = y1 ⊕ x1 ⊗ x1 ⊗ aa }

-- from rllow to rl0: half of the way, and three quarters
unfoldable pub half_way : Band → Float
half_way s = s.rllow ⊕ (s.rl0 ⊖ s.rllow) ⊘ two

unfoldable pub three_quarters : Band → Float
three_quarters s = s.rllow ⊕ three ⊗ (s.rl0 ⊖ s.rllow) ⊘ four

-- `curcal`: the source's segments 0 to 4, from the shortest lengths up
unfoldable pub curcal_of : Band → Curves
curcal_of s = record {
  foot = parabol_of s.rllow (s.rllow ⊕ (s.rl0 ⊖ s.rllow) ⊘ four) (half_way s) n0·316 n0·676 n0·876;
  rise = parabol_of s.rl0 (three_quarters s) (half_way s) one n0·976 n0·876;
  top = vertexed s.rl0 one (three_quarters s) n0·976;
  fall = parabol_of s.rl0 (s.rl0 ⊕ (s.rlc ⊖ s.rl0) ⊘ two) s.rlc one n0·922 n0·707;
  tail = parabol_of (s.rlc ⊕ (s.rlup ⊖ s.rlc) ⊘ two) s.rlup s.rlc n0·501 n0·316 n0·707;
}

-- the square binds first
unfoldable pub height_at : Parabola → Float → Float
height_at p l = p.aa ⊗ (l ⊗ l) ⊕ p.bb ⊗ l ⊕ p.cc

-- `ria`: the current at length l by the first segment that holds there; 0 where none does
unfoldable pub current_at : Band → Curves → Float → Float
current_at s p l =
    cond (from_to l s.rllow (half_way s)) (height_at p.foot l)
    (cond (from_to l (half_way s) (three_quarters s)) (height_at p.rise l)
    (cond (between l (three_quarters s) s.rl0) (height_at p.top l)
    (cond (between l s.rl0 s.rlc) (height_at p.fall l)
    (cond (between l s.rlc s.rlup) (height_at p.tail l)
    +0))))

-- `af`: degrees per length below and above rl0
unfoldable pub slope : Band → Float → Float
slope s l = cond (between l s.rllow s.rl0) (n150 ⊘ (s.rl0 ⊖ s.rllow)) (n142 ⊘ (s.rlup ⊖ s.rl0))

-- `fi`, before it is taken from the phase of the largest current
unfoldable pub phase_at : Band → Float → Float
phase_at s l =
    let af = slope s l in
    let bf = neg af ⊗ s.rl0 in
    af ⊗ l ⊕ bf
