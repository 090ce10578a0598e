-- Document 01, "Edges": the starred ones, in its order, and after the logarithm's those of document 02's card 3; one table. Definitions only.
use Rattle.std.specs.Prelude.{◌+◌, ◌*◌, ◌^◌, ◌≡◌, false, List, pos, neg_ℤ, length, set, replicate, Float}
use Rattle.std.specs.Float.{nan}
use Rattle.std.specs.Float.Ieee.{neg, is_nan}
use Rattle.sine.specs.Sine.{sine, cosine}
use Rattle.logarithm.specs.Logarithm.{binary_logarithm, log10_of, ln_of}
use Rattle.root.specs.Root.{sqrt_of}
use Rattle.floats.specs.Ops.{◌⊕◌, ◌⊖◌, +0, at}
use Rattle.floats.specs.Literals.{literal, one, two, four, ten, thirty, thirty_one}
use Rattle.floats.specs.Rounding.{nint_of}
use Rattle.interpolation.specs.Interpolation.{gain_ter_b}
use Rattle.maxgain.specs.Maximum.{set_max_gain}
use Rattle.curtain.specs.Answers.{curtain_gain}
use Rattle.answers.specs.Outcome.{accepted}
use Rattle.antenna.specs.Literals.{floor_ratio}
use Rattle.antenna.specs.Gain.{floored, ratio_level, decibels_of}

-- a curtain's parameters: slots 4 and 7 at 10, all others 0
abbrev pub bare_curtain : List Float
bare_curtain = set (set (replicate 20 +0) 4 ten) 7 ten

pub record StarredEdges : Type 0 where
  -- cos 0 = 1
  pub cos_0 : cosine +0 ≡ one
  -- sin -0 = -0
  pub sin_minus_0 : sine (literal 0x80000000) ≡ literal 0x80000000
  -- sin at 65,536 exists, at the next float NaN
  pub sin_65536 : is_nan (sine (literal 0x47800000)) ≡ false
  pub sin_next : sine (literal 0x47800001) ≡ nan
  -- L of 1 is 0, of 8 is 3 × 2^30
  pub logarithm_1 : binary_logarithm one ≡ pos 0
  pub logarithm_8 : binary_logarithm (literal 0x41000000) ≡ pos (3 * 2 ^ 30)
  -- log10 1 = 0
  pub log10_1 : log10_of one ≡ +0
  -- card 3: L of the least positive float is -149 × 2^30, of the greatest subnormal one below -126 × 2^30, that of the least normal one
  pub logarithm_least : binary_logarithm (literal 1) ≡ neg_ℤ (pos (149 * 2 ^ 30))
  pub logarithm_subnormal : binary_logarithm (literal 0x7fffff) ≡ neg_ℤ (pos (126 * 2 ^ 30 + 185))
  pub logarithm_normal : binary_logarithm (literal 0x800000) ≡ neg_ℤ (pos (126 * 2 ^ 30))
  -- log10 and ln of both: -44.853466 and -37.929779, -103.27893 and -87.33655
  pub log10_least : log10_of (literal 1) ≡ literal 0xc23369f3
  pub log10_subnormal : log10_of (literal 0x7fffff) ≡ literal 0xc217b818
  pub ln_least : ln_of (literal 1) ≡ literal 0xc2ce8ed0
  pub ln_subnormal : ln_of (literal 0x7fffff) ≡ literal 0xc2aeac50
  -- sqrt 4 = 2
  pub sqrt_4 : sqrt_of four ≡ two
  -- `nint` 2.5 = 3, -2.5 = -3
  pub nint_half : nint_of (literal 0x40200000) ≡ pos 3
  pub nint_minus_half : nint_of (literal 0xc0200000) ≡ neg_ℤ (pos 3)
  -- `gainterb` at 30 gives entry 28 plus (entry 29 less entry 28)
  pub gainterb_30 : (gainab : List Float) → gain_ter_b gainab thirty ≡ at gainab 28 ⊕ (at gainab 29 ⊖ at gainab 28)
  -- mode 1, 31 MHz, design 1: 10 and 10, in slots 4 and 7 of the answer
  pub mode_1 : (parm gainmax gainmaxb : List Float) → length parm ≡ 20 → (giso : Float) (p : List Float)
      → set_max_gain 1 parm gainmax gainmaxb thirty_one one ≡ accepted (giso, p) → (at p 4 ≡ ten) × (at p 7 ≡ ten)
  -- the ratio 0.03162278 gives -30 before the maximum gain is added
  pub ratio : ratio_level floor_ratio ≡ neg thirty
  pub ratio_added : (giso : Float) → decibels_of floor_ratio one giso ≡ floored (neg thirty ⊕ giso)
  -- the curtain, factor 1, elevation 0: -1000 at azimuth 0, -1020 at 180
  pub curtain_0 : curtain_gain bare_curtain +0 +0 one ≡ accepted (neg (literal 0x447a0000))
  pub curtain_180 : curtain_gain bare_curtain (literal 0x43340000) +0 one ≡ accepted (neg (literal 0x447f0000))
