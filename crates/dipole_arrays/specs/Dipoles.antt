-- `gainrel`'s arms 1 to 4, the dipole arrays: each is the product of z1, the dipole, z2, what stands behind or beside it, z3, the row
-- across the boresight, and z4, the ground. Definitions only.
use Rattle.std.specs.Prelude.{ℕ, Bool, cond, Float}
use Rattle.floats.specs.Ops.{◌⊕◌, ◌⊖◌, ◌⊗◌, ◌⊘◌}
use Rattle.floats.specs.Literals.{one, two}
use Rattle.model.specs.declared.record.Constants.{Constants}
use Rattle.model.specs.declared.record.Factors.{Factors}
use Rattle.model.specs.declared.record.Direction.{Direction}
use Rattle.numeric.specs.Float.{mag}
use Rattle.sine.specs.Sine.{cosine}
use Rattle.root.specs.Root.{sqrt_of}
use Rattle.dipole_arrays.specs.Rows.{il_count, cosine_sum, sine_sum}

-- ---- the steps that arms share

-- z1: one dipole, p its electrical half length and c the cosine of p
unfoldable pub dipole_factor : Float → Float → Direction → Float
dipole_factor p c d =
    let a11 = d.a1 ⊗ d.b0 in
    let b2 = cosine (p ⊗ a11) ⊖ c in
    let w0 = mag (one ⊖ a11 ⊗ a11) in
    b2 ⊘ w0

-- z3, and type 4's z2: n dipoles in a row, g being the phase from one to the next
unfoldable pub row_factor : Float → ℕ → Float
row_factor g n =
    let u1 = cosine_sum g n in
    let u2 = sine_sum g n in
    sqrt_of (u1 ⊗ u1 ⊕ u2 ⊗ u2)

-- z4: the dipole over ground
unfoldable pub ground_factor : Factors → Direction → Float
ground_factor w d =
    let w7t = d.a1 ⊗ d.a0 in
    let w7 = w7t ⊗ w7t ⊗ (w.w4 ⊗ w.w4 ⊕ w.w3 ⊗ w.w3) in
    let w8 = d.b1 ⊗ d.b1 ⊗ (w.w5 ⊗ w.w5 ⊕ w.w6 ⊗ w.w6) in
    sqrt_of (mag (w7 ⊕ w8))

-- the arm: p and c are the dipole's, pfb is the phase from one dipole of the row to the next, seen at the elevation, sl the sine of the
-- slew, and the row has the il of `0..x as i32 + 1`
unfoldable pub array_gain : Factors → Direction → Float → Float → Float → Float → Float → Float → Float
array_gain w d p c z2 pfb sl x =
    let z1 = dipole_factor p c d in
    let asl = d.a1 ⊖ sl in
    let pfrb = pfb ⊗ asl in
    let z3 = row_factor pfrb (il_count x) in
    let z4 = ground_factor w d in
    z1 ⊗ z2 ⊗ z3 ⊗ z4

-- ---- 1: multiband aperiodic reflector dipole array

-- q2: how much the screen reflects
unfoldable pub screen_reflection : Float → Float → Float
screen_reflection fr1 b0 =
    let fx = fr1 ⊗ b0 in
    let fy = one ⊕ one ⊘ (fx ⊗ fx) in
    one ⊖ one ⊘ sqrt_of fy

-- z2 before the screen
unfoldable pub screen_front : Float → Float → Direction → Float
screen_front q2 p11s d = sqrt_of (mag (one ⊕ q2 ⊗ q2 ⊖ two ⊗ q2 ⊗ cosine (p11s ⊗ d.b0 ⊗ d.b1)))

-- z2; behind: the azimuth lies from 90 to 270 degrees
unfoldable pub screen_factor : Constants → Direction → Bool → Float
screen_factor k d behind =
    let q2 = screen_reflection k.fr1 d.b0 in
    cond behind (one ⊖ q2) (screen_front q2 k.p11s d)

unfoldable pub gain1 : Constants → Factors → Direction → Bool → Float
gain1 k w d behind =
    let z2 = screen_factor k d behind in
    let pfb = k.pfr ⊗ d.b0 in
    array_gain w d k.p11 k.cp11 z2 pfb k.sl (k.r2 ⊖ one)

-- ---- 2 and 3: dual-band tuned reflector dipole arrays, centre-fed and end-fed

-- z2
unfoldable pub reflector_factor : Constants → Direction → Float
reflector_factor k d = sqrt_of (mag (one ⊕ k.q2 ⊗ k.q2 ⊕ two ⊗ k.q2 ⊗ cosine (k.p11 ⊖ k.p11 ⊗ d.b0 ⊗ d.b1)))

unfoldable pub gain2 : Constants → Factors → Direction → Float
gain2 k w d =
    let pfb = k.pfr ⊗ d.b0 in
    array_gain w d k.p11 k.cp11 (reflector_factor k d) pfb k.sl (k.r2 ⊖ one)

unfoldable pub gain3 : Constants → Factors → Direction → Float
gain3 k w d =
    let pfb = k.pfr ⊗ d.b0 ⊗ two in
    array_gain w d k.pfr k.cpfr (reflector_factor k d) pfb k.sl (k.r2 ⊘ two ⊖ one)

-- ---- 4: tropical antennas

unfoldable pub gain4 : Constants → Factors → Direction → Float
gain4 k w d =
    let pfb = k.pfr ⊗ d.b0 in
    let pfra = pfb ⊗ d.b1 in
    let z2 = row_factor pfra (il_count (k.r3 ⊖ one)) in
    array_gain w d k.p11 k.cp11 z2 pfb k.sl (k.r2 ⊖ one)
