-- The source's `dbltrap`: the pattern integrated over the forward hemisphere by trapezoids of one degree. Definitions only.
use Rattle.std.specs.Prelude.{ℕ, zero, suc, ◌+◌, Bool, ◌||◌, cond, eqb, Float}
use Rattle.std.specs.Float.Ieee.{neg}
use Rattle.sine.specs.Sine.{cosine}
use Rattle.floats.specs.Ops.{◌⊕◌, ◌⊗◌, ◌⊘◌, +0}
use Rattle.floats.specs.Literals.{two, ninety}
use Rattle.curtain_pattern.specs.Literals.{D2R}
use Rattle.curtain_pattern.specs.Pattern.{f2}
use Rattle.curtain_pattern.specs.declared.pattern.Curtain.{Curtain}
use Rattle.curtain_pattern.specs.declared.integral.Read.{Read}

-- the ends of the sweep of the azimuth: -90 and 90 degrees
abbrev pub phiz : Float
phiz = neg ninety ⊗ D2R

abbrev pub phif : Float
phif = ninety ⊗ D2R

-- p after n steps, each of which adds a degree
unfoldable pub p_after : ℕ → Float
p_after zero = phiz ⊕ D2R
p_after (suc n) = p_after n ⊕ D2R

-- ---- numbers with their readings: the pattern is read by `read` alone, so that each reading counts

-- a reading of the pattern
unfoldable pub read : Curtain → Float → Float → Read
read ant theta phi = record { value = f2 ant theta phi; readings = 1 }

abbrev pub unread : Read
unread = record { value = +0; readings = 0 }

infixl 20 ◌⊞◌
unfoldable pub ◌⊞◌ : Read → Read → Read
a ⊞ b = record { value = a.value ⊕ b.value; readings = a.readings + b.readings }

-- arithmetic reads nothing more
unfoldable pub through : (Float → Float) → Read → Read
through f a = record { value = f a.value; readings = a.readings }

-- ---- the sums

-- the sum of the first n readings at theta t
unfoldable pub readings : Curtain → Float → ℕ → Read
readings ant t zero = unread
readings ant t (suc n) = readings ant t n ⊞ read ant t (p_after n)

-- pint: 179 readings between the ends, and half of each end
unfoldable pub pint : Curtain → Float → Read
pint ant t =
    through (λ (sum : Float). sum ⊗ D2R) (readings ant t 179)
    ⊞ through (λ (ends : Float). D2R ⊘ two ⊗ ends) (read ant t phif ⊞ read ant t phiz)

-- t after n steps
unfoldable pub t_after : ℕ → Float
t_after zero = +0
t_after (suc n) = t_after n ⊕ D2R

-- what the elevation t adds to tint: half of it at the two ends
unfoldable pub strip : Curtain → Float → Bool → Read
strip ant t end = through (λ (sum : Float). let x = D2R ⊗ sum ⊗ cosine t in cond end (x ⊘ two) x) (pint ant t)

-- tint after n elevations; the source's ip1 is n + 1
unfoldable pub tint : Curtain → ℕ → Read
tint ant zero = unread
tint ant (suc n) = tint ant n ⊞ strip ant (t_after n) (eqb n 0 || eqb n 90)

-- `dbltrap`: the integral, and how many readings of the pattern it takes
abbrev pub dbltrap : Curtain → Read
dbltrap ant = tint ant 91

abbrev pub integral : Curtain → Float
integral ant = (dbltrap ant).value
