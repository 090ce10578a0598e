-- Issue 27: "with a legend and a table": what is told of two masts. Definitions only.
use Rattle.std.specs.Prelude.{ℕ, ◌||◌, cond, List, ◌++◌, get_or}
use Rattle.answers.specs.declared.Kind.{Kind}
use Rattle.answers.specs.declared.Kind.TheVariants as kind
use Rattle.dial.specs.Kinds.{is_floor, is_silence}
use Rattle.dial.specs.Scale.{peak_azimuth, peak_of}
use Rattle.figures.specs.Figures.{behind_of, beam_of, leads_of}
use Rattle.curve.specs.Curve.{has_floor}
use Rattle.captions.specs.declared.Heading.{Heading}
use Rattle.table.specs.Legend.{legend_text, dashed_text}
use Rattle.table.specs.Table.{table_text}
use Rattle.table.specs.declared.column.Shape.{Shape}
use Rattle.table.specs.declared.column.Shape.TheVariants as shape
use Rattle.table.specs.declared.column.Figures.{Figures}

-- a row is silent where its first entry is, and all floors where its peak is one
unfoldable pub shape_of : List ℕ → List Kind → Shape
shape_of numbers kinds =
    cond (is_silence (get_or kinds 0 kind.Level)) shape.Silence
    (cond (is_floor (get_or kinds (peak_azimuth numbers) kind.Level)) shape.Floors
    (shape.Shown (record {
      azimuth = peak_azimuth numbers;
      peak = peak_of numbers;
      beam = beam_of numbers;
      front = get_or numbers 0 0;
      behind = get_or numbers (behind_of numbers) 0;
    })))

-- what is known of a mast beside the other one's row
unfoldable pub figures_of : Heading → List ℕ → List Kind → List ℕ → Figures
figures_of h numbers kinds other = record { heading = h; shape = shape_of numbers kinds; leads = leads_of numbers kinds other }

unfoldable pub told_text : List ℕ → List Kind → Heading → List ℕ → List Kind → Heading → List ℕ
told_text first first_kinds h second second_kinds i =
    legend_text h.antenna i.antenna
    ++ dashed_text (has_floor first_kinds || has_floor second_kinds)
    ++ table_text (figures_of h first first_kinds second) (figures_of i second second_kinds first)
