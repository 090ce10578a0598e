-- Not of the rule: what the steps ask of a station. No public contract cites it. Definitions only.
use Rattle.std.specs.Prelude.{◌≡◌, ℕ, ◌<◌, true, List, length}
use Rattle.std.specs.Float.Ieee.Scale.{finite}
use Rattle.station.specs.declared.Station.{Station}
use Rattle.card_back.specs.Text.{place_in}

-- these are a station's bytes with this record, each of their floats finite
pub record Sound (s : Station) (bytes : List ℕ) : Type 0 where
  pub long : length bytes ≡ 237
  pub finites : (p : ℕ) → p < 59 → finite (place_in s bytes p) ≡ true
