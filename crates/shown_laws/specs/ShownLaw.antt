-- Issue 27: "Each number on a picture is one of the proved row's, in hundredths by whole numbers as card 14 has them". Definitions only.
use Rattle.std.specs.Prelude.{ℕ, ◌<◌, ◌≡◌, true, List, length, get_or, Float}
use Rattle.answers.specs.Outcome.{accepted}
use Rattle.hundredths.specs.Hundredths.{in_span, hundredths_of}
use Rattle.shown.specs.Plate.{Entry}
use Rattle.shown.specs.Shown.{shown_of}

-- an entry's number is the hundredths of a float in span, which is none "over 1,000 in size"
pub record Spanned (e : Entry) : Type 0 where
  pub gain : Float
  pub in_span_lem : in_span gain ≡ true
  pub number : e.1 ≡ hundredths_of gain

pub record ShownLaw : Type 0 where
  -- a plate has an entry for each azimuth
  pub whole : (input : List ℕ) {entries : List Entry} → shown_of input ≡ accepted entries → length entries ≡ 360
  -- and each is in span
  pub spanned : (input : List ℕ) {entries : List Entry} → shown_of input ≡ accepted entries → (d : Entry) (v : ℕ) → v < 360 → Spanned (get_or entries v d)
