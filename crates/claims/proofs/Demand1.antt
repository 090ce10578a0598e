-- Demand 1 holds.
use Prim.Native.Nat.{ℕ, ◌<◌}
use mathlib.Core.Path.{◌≡◌, ap, ◌∙◌}
use mathlib.Core.Bool.{true, false, ◌&&◌}
use mathlib.Core.List.{List}
use lib.ListN.{length}
use lib.Ieee.{Float}
use lib.Ieee.Scale.{finite}
use Rattle.answers.specs.Outcome.{refused, accepted}
use Rattle.answers.specs.Refusals.{LEVEL}
use Rattle.floats.specs.Ranges.{all_finite}
use Rattle.model.specs.Table.{table_size, blank_table}
use Rattle.antenna.specs.SetUp.{set_up_of, kept_after, lent_after}
use Rattle.answers.specs.declared.Kind.{Kind}
use Rattle.antenna.specs.Gain.{kind_of, graded, number_at, gain_of}
use Rattle.plate_row.specs.Row.{elevation_ok, numbers_of, front_to_back, measured, row_of, written_after, row_after}
use Rattle.antenna.specs.declared.record.Antenna.{Antenna}
use Rattle.antenna_laws.proofs.Answered.{gain-answered, row-answered}
use Rattle.antenna_laws.proofs.RowGains.{accepted_row_gains}
use Rattle.request.specs.Request.{request_of, table_after}
use Rattle.request.specs.declared.Request.{Request}
use Rattle.text.specs.Lines.{refusal_line, lines_to}
use Rattle.text.proofs.Laws.{printed_refused, printed_accepted}
use Rattle.plate_text.specs.Plate.{gain_at, row_text, plate_text}
use Rattle.claims.specs.Demand1.{plate_row, Demand1}
use Rattle.claims.proofs.Refusals.{refusals}

table_kept : (p lent : List Float) (n : ℕ) → set_up_of p (length lent) ≡ refused n → lent_after p lent ≡ lent
unfolding lent_after kept_after
table_kept p lent n h = rw h

module _ (p lent : List Float) (a : Antenna) (readings : ℕ) (h : set_up_of p (length lent) ≡ accepted (a, readings)) where
  gain : (u v giso : Float) → finite u ≡ true → finite v ≡ true → finite giso ≡ true
      → let x = number_at a.model a.peak.z6 (lent_after p lent) u v giso in
      let answer = gain_of a (lent_after p lent) u v giso in
      (finite x ≡ true → answer ≡ accepted (kind_of a.peak.z6 x, x)) × (finite x ≡ false → answer ≡ refused LEVEL)
  unfolding graded
  gain u v giso fu fv fg =
      let g = gain-answered p lent h u v giso fu fv fg in
      (λ e. g ∙ rw e, λ e. g ∙ rw e)

  module _ (u giso : Float) (ok : elevation_ok u ≡ true) (fg : finite giso ≡ true) (floats : List Float) (len : length floats ≡ 360) where
    abbrev numbers : List Float
    numbers = numbers_of a (lent_after p lent) u giso

    measured-row : row_of a (lent_after p lent) u giso (length floats) ≡ measured numbers
    measured-row = ap (row_of a (lent_after p lent) u giso) len ∙ row-answered p lent h u giso ok fg

    row_exists : (all_finite numbers && finite (front_to_back numbers)) ≡ true
        → (row_of a (lent_after p lent) u giso (length floats) ≡ accepted (front_to_back numbers)) × (row_after a (lent_after p lent) u giso floats ≡ numbers)
    unfolding measured row_after written_after
    row_exists e = let r : row_of a (lent_after p lent) u giso (length floats) ≡ accepted (front_to_back numbers) = measured-row ∙ rw e in (r, rw r)

    row-refused : (all_finite numbers && finite (front_to_back numbers)) ≡ false
        → (row_of a (lent_after p lent) u giso (length floats) ≡ refused LEVEL) × (row_after a (lent_after p lent) u giso floats ≡ floats)
    unfolding measured row_after written_after
    row-refused e = let r : row_of a (lent_after p lent) u giso (length floats) ≡ refused LEVEL = measured-row ∙ rw e in (r, rw r)

refused-before : (input : List ℕ) (n : ℕ) → request_of input table_size ≡ refused n → plate_text input ≡ refusal_line n
unfolding plate_text
refused-before input n h = printed_refused _ _ n h

module _ (input : List ℕ) (q : Request) (ready : request_of input table_size ≡ accepted q) where
  row_text_lem : plate_text input ≡ row_text q (table_after input blank_table)
  unfolding plate_text
  row_text_lem = printed_accepted _ _ q ready

  refused-row : (n : ℕ) → plate_row input q ≡ refused n → plate_text input ≡ refusal_line n
  unfolding row_text
  refused-row n h = row_text_lem ∙ printed_refused _ _ n h

  plate : (x : Float) → plate_row input q ≡ accepted x
      → let answer = gain_at q (table_after input blank_table) in
      (plate_text input ≡ lines_to answer 360) × ((v : ℕ) → v < 360 → (k : Kind) × (g : Float) × (answer v ≡ accepted (k, g)))
  unfolding row_text
  plate x h = (row_text_lem ∙ printed_accepted _ _ x h, λ v l. (_, _, accepted_row_gains q.antenna (table_after input blank_table) q.elevation q.giso h v l))

pub demand_1 : Demand1
demand_1 =
    record {
      set_up_lem = refusals.antinit2;
      table_kept = table_kept;
      gain = gain;
      row = λ p lent a n h u giso ok fg floats len. (row_exists p lent a n h u giso ok fg floats len, row-refused p lent a n h u giso ok fg floats len);
      refused-before = refused-before;
      refused-row = refused-row;
      plate = plate;
    }
