-- Document 01, part 9: the plate row, with its refusals; front-to-back and refusal 15 as document 02's cards 6 and 9 have them. Definitions only.
use Rattle.std.specs.Prelude.{ℕ, zero, suc, ◌+◌, ◌-◌, Bool, cond, not, ◌&&◌, List, length, ltb, eqb, Float}
use Rattle.std.specs.Float.Ieee.{lt, eq}
use Rattle.std.specs.Float.Ieee.Scale.{finite}
use Rattle.floats.specs.Literals.{ninety}
use Rattle.floats.specs.Ops.{◌⊖◌, count, +0, at}
use Rattle.floats.specs.Ranges.{between, all_finite}
use Rattle.floats.specs.Filled.{filled_to}
use Rattle.model.specs.declared.record.Model.{Model}
use Rattle.answers.specs.Outcome.{Outcome, refused, accepted}
use Rattle.answers.specs.Refusals.{LEVEL}
use Rattle.parameters.specs.Whole.{whole_of}
use Rattle.antenna.specs.TableSum.{own_table}
use Rattle.antenna.specs.Asked.{asked_refusal}
use Rattle.antenna.specs.Gain.{number_at}
use Rattle.antenna.specs.declared.record.Antenna.{Antenna}
use Rattle.antenna.specs.declared.asked.Asked.{Asked}

-- a whole elevation 0..90, -0 too
unfoldable pub elevation_ok : Float → Bool
elevation_ok u = between u +0 ninety && eq u (whole_of u)

-- the `ccirgain` numbers at azimuths 0 to n - 1, in a row of 360
abbrev pub row_to : Model → Float → List Float → Float → Float → ℕ → List Float
row_to m z6 t u giso n = filled_to (λ (v : ℕ). number_at m z6 t u (count v) giso) 360 n

unfoldable pub numbers_of : Antenna → List Float → Float → Float → List Float
numbers_of a t u giso = row_to a.model a.peak.z6 t u giso 360

-- of two numbers the larger; of two alike, as +0 and -0 are, the first
unfoldable pub larger : Float → Float → Float
larger x y = cond (lt x y) y x

-- the greatest of the entry at `first` and the n entries after it
unfoldable pub greatest_of : List Float → ℕ → ℕ → Float
greatest_of row first zero = at row first
greatest_of row first (suc n) = larger (greatest_of row first n) (at row (first + suc n))

-- the greatest entry of azimuths `first` to `last`, both included
abbrev pub greatest : List Float → ℕ → ℕ → Float
greatest row first last = greatest_of row first (last - first)

-- the entry at 0 less the greatest entry of azimuths 90 to 270, both included
unfoldable pub front_to_back : List Float → Float
front_to_back row = at row 0 ⊖ greatest row 90 270

-- refused where a number or front-to-back isn't finite
unfoldable pub measured : List Float → Outcome Float
measured row = cond (not (all_finite row && finite (front_to_back row))) (refused LEVEL) (accepted (front_to_back row))

-- what a row asks, with n floats lent for it
unfoldable pub row_asked : Bool → Float → Float → ℕ → Asked
row_asked own u giso n = record { values = finite u && finite giso; aim = elevation_ok u; space = eqb n 360; own = own }

-- the row at elevation u, with n floats lent for it
unfoldable pub row_of : Antenna → List Float → Float → Float → ℕ → Outcome Float
row_of a t u giso n =
    let number = asked_refusal a.model (length t) (row_asked (own_table a t) u giso n) in
    cond (ltb 0 number) (refused number) (measured (numbers_of a t u giso))

-- the lent floats afterwards: the numbers, or after a refusal what they were
unfoldable pub written_after : Outcome Float → List Float → List Float → List Float
written_after (refused n) numbers lent = lent
written_after (accepted x) numbers lent = numbers

unfoldable pub row_after : Antenna → List Float → Float → Float → List Float → List Float
row_after a t u giso lent = written_after (row_of a t u giso (length lent)) (numbers_of a t u giso) lent
