-- An antenna record as 998 words: its fields in the record's order, one after the other. Definitions only.
use Rattle.std.specs.Prelude.{ℕ, ◌%◌, ◌^◌, Bool, cond, List, [], ◌∷◌, ◌++◌, map, Float}
use Rattle.words.specs.Patterns.{bits}
use Rattle.model.specs.declared.record.Constants.{Constants}
use Rattle.model.specs.declared.record.Elements.{Elements}
use Rattle.model.specs.declared.record.Trig.{Trig}
use Rattle.model.specs.declared.record.Ground.{Ground}
use Rattle.search.specs.declared.record.Peak.{Peak}
use Rattle.antenna.specs.declared.record.Antenna.{Antenna}

abbrev pub antenna_size : ℕ
antenna_size = 998

-- lists one after the other
unfoldable pub joined : List (List ℕ) → List ℕ
joined [] = []
joined (s ∷ ss) = s ++ joined ss

-- a truth as a word
abbrev pub flag : Bool → ℕ
flag b = cond b 1 0

-- a count, of which a word holds the low 32 bits
abbrev pub low : ℕ → ℕ
low n = n % 2 ^ 32

abbrev pub constant_floats : Constants → List Float
constant_floats k =
    k.d1 ∷ k.e1 ∷ k.beta ∷ k.cpfr ∷ k.cp11 ∷ k.fr1 ∷ k.h1 ∷ k.pfr ∷ k.p11 ∷ k.p11s ∷ k.q2 ∷ k.r2 ∷ k.r3 ∷ k.sl ∷ k.costh ∷ k.sinth ∷ []

unfoldable pub element_fields : Elements → List (List ℕ)
element_fields e =
    bits e.fi ∷ bits e.rim ∷ bits e.x ∷ bits e.y ∷ map low e.iek ∷ bits e.rl ∷ bits e.h ∷ (low e.nat ∷ []) ∷ []

unfoldable pub trig_fields : Trig → List (List ℕ)
trig_fields t = bits t.a ∷ bits t.b ∷ []

unfoldable pub ground_fields : Ground → List (List ℕ)
ground_fields g = bits g.w3 ∷ bits g.w4 ∷ bits g.w5 ∷ bits g.w6 ∷ bits g.w9 ∷ bits g.w10 ∷ []

unfoldable pub peak_fields : Peak → List (List ℕ)
peak_fields p = bits (p.z6 ∷ p.umax ∷ p.vmax ∷ []) ∷ []

-- the type, whether it is slewed, and the constants
unfoldable pub head_fields : Antenna → List (List ℕ)
head_fields a = (a.model.iant ∷ flag a.model.slewed ∷ []) ∷ bits (constant_floats a.model.constants) ∷ []

unfoldable pub antenna_fields : Antenna → List (List ℕ)
antenna_fields a =
    head_fields a ++ element_fields a.model.elements ++ trig_fields a.model.trig ++ ground_fields a.model.ground ++ peak_fields a.peak ++ ((a.sum ∷ []) ∷ [])

unfoldable pub antenna_words : Antenna → List ℕ
antenna_words a = joined (antenna_fields a)
