-- Issue 27, "`--compare A B` answers the buyer's questions in words": what is read off a mast's row. Definitions only.
use Rattle.std.specs.Prelude.{ℕ, List, get_or}
use Rattle.answers.specs.declared.Kind.{Kind}
use Rattle.answers.specs.declared.Kind.TheVariants as kind
use Rattle.dial.specs.Scale.{peak_azimuth}
use Rattle.figures.specs.Figures.{behind_of, beam_of}
use Rattle.comparison.specs.declared.masts.Reading.{Reading}
use Rattle.comparison.specs.declared.masts.Mast.{Mast}

-- the masts' names
abbrev pub A : ℕ
A = 65

abbrev pub B : ℕ
B = 66

-- kind and number at an azimuth
unfoldable pub reading_of : List ℕ → List Kind → ℕ → Reading
reading_of numbers kinds v = record { kind = get_or kinds v kind.Level; number = get_or numbers v 0 }

-- what a buyer asks of one mast
unfoldable pub mast_of : ℕ → List ℕ → List Kind → Mast
mast_of name numbers kinds = record {
  name = name;
  front = reading_of numbers kinds 0;
  peak = reading_of numbers kinds (peak_azimuth numbers);
  azimuth = peak_azimuth numbers;
  beam = beam_of numbers;
  behind = reading_of numbers kinds (behind_of numbers);
}
