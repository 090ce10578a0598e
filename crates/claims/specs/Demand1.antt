-- Demand 1: every station inside the limits is set up, searched and answered with one finite number and its kind; everything else is
-- refused under the number of the first limit that it breaks, and each lent buffer holds what it held before. Definitions only.
use Rattle.std.specs.Prelude.{ℕ, ◌<◌, ◌≡◌, true, false, ◌&&◌, List, length, Float}
use Rattle.std.specs.Float.Ieee.Scale.{finite}
use Rattle.answers.specs.Outcome.{Outcome, refused, accepted}
use Rattle.answers.specs.Refusals.{LEVEL}
use Rattle.answers.specs.Table.{Refuses}
use Rattle.floats.specs.Ranges.{all_finite}
use Rattle.model.specs.Table.{table_size, blank_table}
use Rattle.antenna.specs.SetUp.{set_up_of, lent_after}
use Rattle.answers.specs.declared.Kind.{Kind}
use Rattle.antenna.specs.Gain.{kind_of, number_at, gain_of}
use Rattle.plate_row.specs.Row.{elevation_ok, numbers_of, front_to_back, row_of, row_after}
use Rattle.antenna.specs.declared.record.Antenna.{Antenna}
use Rattle.request.specs.Request.{request_of, table_after}
use Rattle.request.specs.declared.Request.{Request}
use Rattle.text.specs.Lines.{refusal_line, lines_to}
use Rattle.plate_text.specs.Plate.{gain_at, plate_text}
use Rattle.claims.specs.Tables.{set_up_table}

-- the row that the program asks for, with its own table
abbrev pub plate_row : List ℕ → Request → Outcome Float
plate_row input q = row_of q.antenna (table_after input blank_table) q.elevation q.giso 360

pub record Demand1 : Type 0 where
  -- set-up accepts just when no limit is broken and the search is sound, and else refuses under the lowest number whose condition holds
  pub set_up_lem : (p : List Float) (size : ℕ) → Refuses (set_up_of p size) (set_up_table p size)
  -- a refusal leaves the lent table
  pub table_kept : (p lent : List Float) (n : ℕ) → set_up_of p (length lent) ≡ refused n → lent_after p lent ≡ lent
  -- with the record and the table that set-up left, at every finite direction and maximum gain: the source's number x with its kind,
  -- or 10, just where x isn't finite
  pub gain : (p lent : List Float) (a : Antenna) (readings : ℕ) → set_up_of p (length lent) ≡ accepted (a, readings)
      → (u v giso : Float) → finite u ≡ true → finite v ≡ true → finite giso ≡ true
      → let t = lent_after p lent in
      let x = number_at a.model a.peak.z6 t u v giso in
      (finite x ≡ true → gain_of a t u v giso ≡ accepted (kind_of a.peak.z6 x, x)) × (finite x ≡ false → gain_of a t u v giso ≡ refused LEVEL)
  -- so the row, at every whole elevation 0 to 90 with 360 lent floats: the source's 360 numbers, written over the lent floats, or 10,
  -- just where one of them or front-to-back isn't finite, and the lent floats as they were
  pub row : (p lent : List Float) (a : Antenna) (readings : ℕ) → set_up_of p (length lent) ≡ accepted (a, readings)
      → (u giso : Float) → elevation_ok u ≡ true → finite giso ≡ true → (floats : List Float) → length floats ≡ 360
      → let t = lent_after p lent in
      let xs = numbers_of a t u giso in
      let exist = all_finite xs && finite (front_to_back xs) in
      (exist ≡ true → (row_of a t u giso (length floats) ≡ accepted (front_to_back xs)) × (row_after a t u giso floats ≡ xs))
      × (exist ≡ false → (row_of a t u giso (length floats) ≡ refused LEVEL) × (row_after a t u giso floats ≡ floats))
  -- the program: the first refusing step's number, or 360 lines of `ccirgain`'s answers, each accepted
  pub refused-before : (input : List ℕ) (n : ℕ) → request_of input table_size ≡ refused n → plate_text input ≡ refusal_line n
  pub refused-row : (input : List ℕ) (q : Request) → request_of input table_size ≡ accepted q
      → (n : ℕ) → plate_row input q ≡ refused n → plate_text input ≡ refusal_line n
  pub plate : (input : List ℕ) (q : Request) → request_of input table_size ≡ accepted q → (x : Float) → plate_row input q ≡ accepted x
      → let answer = gain_at q (table_after input blank_table) in
      (plate_text input ≡ lines_to answer 360) × ((v : ℕ) → v < 360 → (k : Kind) × (g : Float) × (answer v ≡ accepted (k, g)))
