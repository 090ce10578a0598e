-- The constants of each type, as the source's `antinit2` sets them from the twenty parameters. Definitions only.
use Rattle.std.specs.Prelude.{ℕ, cond, ◌||◌, List, [], ◌∷◌, eqb, Float}
use Rattle.sine.specs.Sine.{sine, cosine}
use Rattle.logarithm.specs.Logarithm.{ln_of}
use Rattle.floats.specs.Ops.{◌⊗◌, ◌⊘◌, +0}
use Rattle.floats.specs.Literals.{two, p1, q1}
use Rattle.model.specs.declared.record.Constants.{Constants}
use Rattle.model.specs.Limits.{slot}
use Rattle.model.specs.Types.{array_type, log_periodic}
use Rattle.logperiodic.specs.declared.geometry.Boom.{Boom}
use Rattle.parameters.specs.Literals.{eight, n0·001, n0·048, n299·8, n18000}
use Rattle.parameters.specs.Whole.{whole_of}

-- d1 = 18000 s1 / f1
abbrev pub d1_of : List Float → Float
d1_of p = n18000 ⊗ slot p 3 ⊘ slot p 4

-- rlambda = 299.8 / f1
abbrev pub rlambda_of : List Float → Float
rlambda_of p = n299·8 ⊘ slot p 4

abbrev pub beta_of : List Float → Float
beta_of p = two ⊗ p1 ⊘ rlambda_of p

-- the constants that only some types set, by their names in the record
pub data Own : Type 0 where
  cpfr : Own
  cp11 : Own
  fr1 : Own
  h1 : Own
  pfr : Own
  p11 : Own
  p11s : Own
  q2 : Own
  r2 : Own
  r3 : Own
  sl : Own
  costh : Own
  sinth : Own

-- a number for each, which tells them apart
unfoldable pub number : Own → ℕ
number cpfr = 0
number cp11 = 1
number fr1 = 2
number h1 = 3
number pfr = 4
number p11 = 5
number p11s = 6
number q2 = 7
number r2 = 8
number r3 = 9
number sl = 10
number costh = 11
number sinth = 12

infix 15 ◌:=◌
-- an assignment of the source
abbrev pub ◌:=◌ : Own → Float → Own × Float
◌:=◌ name x = (name, x)

-- what the assignments give a name; +0 where they leave it alone
unfoldable pub given : List (Own × Float) → Own → Float
given [] name = +0
given (a ∷ rest) name = cond (eqb (number a.0) (number name)) a.1 (given rest name)

-- wave and ground, which all types have, with what a type sets of its own
unfoldable pub constants_with : List Float → List (Own × Float) → Constants
constants_with p own = record {
  d1 = d1_of p;
  e1 = slot p 2;
  beta = beta_of p;
  cpfr = given own cpfr;
  cp11 = given own cp11;
  fr1 = given own fr1;
  h1 = given own h1;
  pfr = given own pfr;
  p11 = given own p11;
  p11s = given own p11s;
  q2 = given own q2;
  r2 = given own r2;
  r3 = given own r3;
  sl = given own sl;
  costh = given own costh;
  sinth = given own sinth;
}

unfoldable pub wave_constants : List Float → Constants
wave_constants p = constants_with p []

-- pfr = P1 fr, by the ratio of the operating to the design frequency
abbrev pub pfr_of : List Float → Float → Float
pfr_of p fd = p1 ⊗ (slot p 4 ⊘ fd)

abbrev pub p11_of : List Float → Float → Float
p11_of p fd = pfr_of p fd ⊘ two

-- type 1's screen: ln(ws / (wd P1 0.001)) times (0.048 ws) times fr
unfoldable pub screen_of : List Float → Float
screen_of p =
    let ws = slot p 11 in
    let wd = slot p 12 in
    let fdx = ws ⊘ (wd ⊗ p1 ⊗ n0·001) in
    ln_of fdx ⊗ (n0·048 ⊗ ws) ⊗ (slot p 4 ⊘ slot p 7)

-- types 1 to 4, whose slew `ifs` is slot 9 truncated; type 1 alone has p11s and fr1, and types 2 and 3 have q2
unfoldable pub array_own : ℕ → List Float → List (Own × Float)
array_own iant p =
    let fd = slot p 7 in
    (r2 := slot p 5)
    ∷ (r3 := slot p 6)
    ∷ (h1 := slot p 8)
    ∷ (pfr := pfr_of p fd)
    ∷ (p11 := p11_of p fd)
    ∷ (p11s := cond (eqb iant 1) (eight ⊗ p11_of p fd ⊗ slot p 10) +0)
    ∷ (cpfr := cosine (pfr_of p fd))
    ∷ (cp11 := cosine (p11_of p fd))
    ∷ (sl := sine (whole_of (slot p 9) ⊗ q1))
    ∷ (fr1 := cond (eqb iant 1) (screen_of p) +0)
    ∷ (q2 := cond (eqb iant 2 || eqb iant 3) (slot p 10) +0)
    ∷ []

-- types 5 and 6, with `logparm`'s boom
unfoldable pub boom_own : Boom → List (Own × Float)
boom_own b = (costh := b.costh) ∷ (sinth := b.sinth) ∷ []

-- type 7, the rhombic: leg length, height and the half-angle gamma
unfoldable pub rhombic_own : List Float → List (Own × Float)
rhombic_own p =
    let gamma = slot p 7 ⊗ q1 in
    (sl := slot p 5 ⊗ beta_of p) ∷ (h1 := slot p 6 ⊗ beta_of p ⊗ two) ∷ (sinth := sine gamma) ∷ (costh := cosine gamma) ∷ []

-- types 8 and 9
unfoldable pub crossed_own : List Float → List (Own × Float)
crossed_own p =
    let fd = slot p 5 in
    (h1 := slot p 6) ∷ (pfr := pfr_of p fd) ∷ (p11 := p11_of p fd) ∷ (cp11 := cosine (p11_of p fd)) ∷ []

unfoldable pub own_of : ℕ → List Float → Boom → List (Own × Float)
own_of iant p b =
    cond (array_type iant) (array_own iant p)
    (cond (log_periodic iant) (boom_own b)
    (cond (eqb iant 7) (rhombic_own p) (crossed_own p)))

unfoldable pub constants_of : ℕ → List Float → Boom → Constants
constants_of iant p b = constants_with p (own_of iant p b)
