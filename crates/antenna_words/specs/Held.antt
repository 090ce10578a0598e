-- What the type of an antenna record says of its value: the arrays' lengths, and that each float is a binary32; and that its counts are
-- words. Definitions only.
use Rattle.std.specs.Prelude.{ℕ, ◌^◌, ◌<◌, ◌≡◌, List, [], ◌∷◌, length, get_or, Float}
use Rattle.words.specs.Patterns.{F32s}
use Rattle.model.specs.declared.record.Elements.{Elements}
use Rattle.model.specs.declared.record.Trig.{Trig}
use Rattle.model.specs.declared.record.Ground.{Ground}
use Rattle.antenna.specs.declared.record.Antenna.{Antenna}
use Rattle.antenna_words.specs.Fields.{constant_floats}

-- n binary32s
pub record Floats (n : ℕ) (xs : List Float) : Type 0 where
  pub long : length xs ≡ n
  pub each : F32s xs

pub record HeldElements (e : Elements) : Type 0 where
  pub fi : Floats 36 e.fi
  pub rim : Floats 36 e.rim
  pub x : Floats 36 e.x
  pub y : Floats 36 e.y
  pub iek : length e.iek ≡ 36
  pub rl : Floats 36 e.rl
  pub h : Floats 31 e.h

pub record HeldTrig (t : Trig) : Type 0 where
  pub a : Floats 91 t.a
  pub b : Floats 91 t.b

pub record HeldGround (g : Ground) : Type 0 where
  pub w3 : Floats 91 g.w3
  pub w4 : Floats 91 g.w4
  pub w5 : Floats 91 g.w5
  pub w6 : Floats 91 g.w6
  pub w9 : Floats 91 g.w9
  pub w10 : Floats 91 g.w10

pub record Held (a : Antenna) : Type 0 where
  pub constants : F32s (constant_floats a.model.constants)
  pub elements : HeldElements a.model.elements
  pub trig : HeldTrig a.model.trig
  pub ground : HeldGround a.model.ground
  pub peak : F32s (a.peak.z6 ∷ a.peak.umax ∷ a.peak.vmax ∷ [])

-- the number of active elements and each of their numbers is below 2^32
pub record CountsAreWords (a : Antenna) : Type 0 where
  pub nat : a.model.elements.nat < 2 ^ 32
  pub iek : (k : ℕ) → get_or a.model.elements.iek k 0 < 2 ^ 32
