-- From the twenty parameters to what the pattern is computed from: the source's `gain` up to `PATTRN0`'s tables. Definitions only.
use Rattle.std.specs.Prelude.{ℕ, min, max, cond, List, ℤ, nat_abs, set, Float}
use Rattle.std.specs.Float.Ieee.{neg, lt}
use Rattle.sine.specs.Sine.{cosine}
use Rattle.floats.specs.Ops.{◌⊕◌, ◌⊗◌, ◌⊘◌, count, +0}
use Rattle.floats.specs.Literals.{one, two}
use Rattle.floats.specs.Rounding.{nint_of, natural}
use Rattle.model.specs.Limits.{slot}
use Rattle.floats.specs.Filled.{filled_to}
use Rattle.curtain_pattern.specs.Literals.{VOFL, PI2, D2R}
use Rattle.curtain_parameters.specs.Excitation.{stkrat, bayphs}
use Rattle.curtain_pattern.specs.declared.pattern.Curtain.{Curtain}
use Rattle.curtain_parameters.specs.declared.pattrn0.Lengths.{Lengths}

-- ---- the counts

-- `clamp`, as a count
abbrev pub clamped : ℕ → ℕ → ℤ → ℕ
clamped low high z = max low (min (natural z) high)

unfoldable pub nostak_of : List Float → ℕ
nostak_of parm = clamped 0 8 (nint_of (slot parm 6))

-- document 01: "the size of the rounded slot 5, at most 14"
unfoldable pub nbs_of : List Float → ℕ
nbs_of parm = min (nat_abs (nint_of (slot parm 5))) 14

unfoldable pub mode_of : List Float → ℕ
mode_of parm = clamped 1 15 (nint_of (slot parm 13))

-- `islew`: the rounded slew
unfoldable pub islew_of : List Float → ℤ
islew_of parm = nint_of (slot parm 14)

-- ---- the lengths, in radians of the operating wave

-- `to_metres`: a length below 0 is in waves of the design frequency
unfoldable pub to_metres : List Float → Float → Float
to_metres parm v = let wave_design = VOFL ⊘ slot parm 7 in cond (lt v +0) (neg v ⊗ wave_design) v

unfoldable pub beta_of : List Float → Float
beta_of parm = let wave = VOFL ⊘ slot parm 4 in PI2 ⊘ wave

unfoldable pub lengths_of : List Float → Lengths
lengths_of parm =
    let stkspm = to_metres parm (slot parm 11) in
    let bayspm = to_metres parm (slot parm 10) in
    let diplnm = to_metres parm (slot parm 8) in
    let rrspm = to_metres parm (slot parm 12) in
    let stkhtm = to_metres parm (slot parm 9) in
    let beta = beta_of parm in
    record { xh = stkhtm ⊗ beta; xb = beta ⊗ bayspm; el = diplnm ⊗ beta; xr = rrspm ⊗ beta; xs = stkspm ⊗ beta }

unfoldable pub odrat_of : List Float → Float
odrat_of parm = D2R ⊗ slot parm 4 ⊘ slot parm 7

-- ---- the tables

-- stacks: c has `stkrat`, whose slots from nostak on are zeroed and not read; z the heights
unfoldable pub stack_ratios : ℕ → ℕ → List Float
stack_ratios mode n = filled_to (stkrat mode) 8 n

unfoldable pub stack_heights : Float → Float → ℕ → List Float
stack_heights xs xh n = filled_to (λ (is : ℕ). xs ⊗ count is ⊕ xh) 8 n

-- bays: ps the phases, r 1, y the places, of which the first is 0
unfoldable pub bay_phases : Float → ℤ → ℕ → List Float
bay_phases odrat islew n = filled_to (λ (ib : ℕ). odrat ⊗ bayphs islew ib) 14 n

unfoldable pub bay_ratios : ℕ → List Float
bay_ratios n = filled_to (λ (ib : ℕ). one) 14 n

unfoldable pub bay_places : Float → ℕ → List Float
bay_places xb n = set (filled_to (λ (ib : ℕ). count ib ⊗ xb) 14 n) 0 +0

unfoldable pub curtain_of : List Float → Curtain
curtain_of parm =
    let l = lengths_of parm in
    let nostak = nostak_of parm in
    let nbs = nbs_of parm in
    let eil = l.el ⊘ two in
    record {
      nostak = nostak;
      eil = eil;
      ceil = cosine eil;
      xr = l.xr;
      c = stack_ratios (mode_of parm) nostak;
      r = bay_ratios nbs;
      ps = bay_phases (odrat_of parm) (islew_of parm) nbs;
      y = bay_places l.xb nbs;
      z = stack_heights l.xs l.xh nostak;
      nbs = nbs;
    }
