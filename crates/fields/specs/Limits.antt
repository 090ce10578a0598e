-- What numbers a field takes: the limits of document 01, and whose refusal breaks them. -0 is 0 in every comparison. Definitions only.
use Rattle.std.specs.Prelude.{ℕ, Bool, true, not, cond, ◌&&◌, ◌||◌, eqb, Float}
use Rattle.std.specs.Float.{binary32}
use Rattle.std.specs.Float.Ieee.{neg, eq, of_int, to_signed}
use Rattle.answers.specs.declared.Refusal.{Refusal}
use Rattle.answers.specs.declared.Refusal.TheVariants as refusals
use Rattle.floats.specs.Literals.{literal, two, thirty_one, ninety}
use Rattle.floats.specs.Ops.{count, +0}
use Rattle.floats.specs.Ranges.{between, from_to}
use Rattle.model.specs.Limits.{in_band}
use Rattle.model.specs.Counts.{count_ok}
use Rattle.fields.specs.declared.Kind.{Kind}
use Rattle.fields.specs.Least.{least}
use Rattle.fields.specs.Names.{TYPE, DIPOLES, SLEW, START, ELEMENTS, MHZ, DESIGN, ELEVATION}

abbrev pub is_count : Float → ℕ → Bool
is_count x n = eq x (count n)

-- which of 1, 2, .., 9 a number is; 0 where it is none of them
unfoldable pub type_number : Float → ℕ
type_number x = least (is_count x) 9

abbrev pub full_circle : Float
full_circle = literal 0x43b40000

-- 0 to 90 for a start's elevation, its first number; 0 to 360 for its azimuth
unfoldable pub start_highest : ℕ → Float
start_highest number = cond (eqb number 1) ninety full_circle

unfoldable pub is_whole : Float → Bool
is_whole x = eq x (of_int binary32 (to_signed 31 x))

-- set-up reads the design MHz in every mode but 1; there type 9 has it in a slot that mode 1 doesn't write
unfoldable pub reads_design : Kind → Bool
reads_design kind = not (eqb kind.mode 1) || eqb kind.iant 9

-- the field takes this number as its first, second ..
unfoldable pub takes : Kind → ℕ → ℕ → Float → Bool
takes kind f number x =
    cond (eqb f TYPE) (not (eqb (type_number x) 0))
    (cond (eqb f DIPOLES) (count_ok x)
    (cond (eqb f SLEW) (between x (neg ninety) ninety)
    (cond (eqb f START) (between x +0 (start_highest number))
    (cond (eqb f ELEMENTS) (from_to x two thirty_one)
    (cond (eqb f MHZ) (eqb kind.mode 1 || in_band x)
    (cond (eqb f DESIGN) (not (reads_design kind) || in_band x)
    (cond (eqb f ELEVATION) (between x +0 ninety && is_whole x)
    true)))))))

-- the refusal that a number breaks which the field doesn't take
unfoldable pub refusal_of : ℕ → Refusal
refusal_of f =
    cond (eqb f TYPE) refusals.Type
    (cond (eqb f MHZ || eqb f DESIGN) refusals.Band
    (cond (eqb f DIPOLES || eqb f ELEMENTS) refusals.Count
    refusals.Aim))
