-- Issue 27: what a picture draws of a station, by the plate that is shown and what stands beside it. Definitions only.
use Rattle.std.specs.Prelude.{ℕ, List}
use Rattle.answers.specs.declared.Kind.{Kind}
use Rattle.answers.specs.Outcome.{Outcome, accepted}
use Rattle.request.specs.Request.{and_then}
use Rattle.shown.specs.Plate.{Entry}
use Rattle.shown.specs.Rows.{numbers_of, kinds_of}
use Rattle.shown.specs.Shown.{shown_of}
use Rattle.heading.specs.Heading.{heading_of}
use Rattle.heading.specs.declared.Heading.{Heading}
use Rattle.svg_text.specs.declared.masts.Mast.{Mast}

-- a row with what stands beside it
pub record Drawn : Type 0 where
  pub numbers : List ℕ
  pub kinds : List Kind
  pub heading : Heading

-- of the 237 bytes that `plate` reads: the plate, then its heading; the first of them that refuses gives the number
unfoldable pub drawn_of : List ℕ → Outcome Drawn
drawn_of input =
    and_then (shown_of input) λ (entries : List Entry). and_then (heading_of input) λ (h : Heading). accepted (record { numbers = numbers_of entries; kinds = kinds_of entries; heading = h })

-- ---- what a mast that was read stands for

abbrev pub drawn_mast : Mast → Drawn
drawn_mast m = record { numbers = m.row.numbers; kinds = m.row.kinds; heading = m.heading }
