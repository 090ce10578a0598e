-- Issue 27, "A plate that people see": a plate's 360 gains, "in hundredths by whole numbers as card 14 has them", and how the code holds them. Definitions only.
use Rattle.std.specs.Prelude.{ℕ, cond, List, get_or, ℤ, Float}
use Rattle.answers.specs.Outcome.{Outcome, refused, accepted}
use Rattle.answers.specs.Refusals.{SPAN}
use Rattle.answers.specs.declared.Kind.{Kind}
use Rattle.answers.specs.declared.Kind.TheVariants as kind
use Rattle.floats.specs.Ops.{at}
use Rattle.hundredths.specs.Hundredths.{in_span, hundredths_of}
use Rattle.hundredths.specs.Raised.{lowered}
use Rattle.request.specs.Request.{and_then}
use Rattle.shown.specs.InOrder.{up_to, in_order}
use Rattle.dial.specs.declared.Row.{Row}

-- a gain as it is shown: its kind, and its number in hundredths
abbrev pub Entry : Type 0
Entry = Kind × ℤ

-- document 02, card 14: "18 span, for a number over 1,000 in size"
unfoldable pub in_hundredths : Kind × Float → Outcome Entry
in_hundredths g = cond (in_span g.1) (accepted (g.0, hundredths_of g.1)) (refused SPAN)

-- the gains at azimuths 0 to 359, all of them before the first is shown: "tested after 10"
unfoldable pub plate_of : (ℕ → Outcome (Kind × Float)) → Outcome (List Entry)
plate_of gain = and_then (in_order gain 360) λ (gains : List (Kind × Float)). in_order (λ (v : ℕ). and_then (gain v) in_hundredths) 360

-- ---- what the code's answer stands for

-- the kind and the raised hundredths at an azimuth
abbrev pub entry_at : Row → ℕ → Entry
entry_at s v = (get_or s.kinds v kind.Level, lowered (get_or s.numbers v 0))

abbrev pub entries_of : Row → List Entry
entries_of s = up_to (entry_at s) 360

-- ---- the code's step: a kind and a number of two lists

abbrev pub gain_in : List Kind → List Float → ℕ → Kind × Float
gain_in kinds numbers v = (get_or kinds v kind.Level, at numbers v)
