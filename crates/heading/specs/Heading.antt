-- Issue 27: "elevation, MHz and the antenna's name in words" beside a plate, and where "the half that is folded" may be shown apart, of the 237 bytes that `plate` reads, by its steps before set-up. Definitions only.
use Rattle.std.specs.Prelude.{ℕ, Bool, false, cond, List, eqb, Float}
use Rattle.std.specs.Float.Ieee.{to_signed}
use Rattle.answers.specs.Outcome.{Outcome, refused, accepted}
use Rattle.answers.specs.Refusals.{SPAN}
use Rattle.words.specs.Floats.{float_at}
use Rattle.floats.specs.Rounding.{natural}
use Rattle.model.specs.Types.{jant_of}
use Rattle.model.specs.Limits.{slot}
use Rattle.hundredths.specs.Hundredths.{in_span}
use Rattle.hundredths.specs.Raised.{raised_of}
use Rattle.station.specs.declared.Station.{Station}
use Rattle.maxgain.specs.Maximum.{set_max_gain}
use Rattle.request.specs.Request.{and_then, station_in}
use Rattle.heading.specs.Mirrored.{mirrored_of}
use Rattle.heading.specs.declared.Heading.{Heading}

-- an elevation without decimals; that of a plate has none
unfoldable pub degrees_of : Float → ℕ
degrees_of u = natural (to_signed 31 u)

-- document 02, card 14: "18 span, for a number over 1,000 in size"
unfoldable pub headed : ℕ → Float → Float → Bool → Outcome Heading
headed antenna mhz u mirrored =
    cond (in_span mhz) (accepted (record { antenna = antenna; mhz = raised_of mhz; elevation = degrees_of u; mirrored = mirrored })) (refused SPAN)

-- of the parameters as set-up gets them: card 14's "slot 4's MHz as set-up gets it"
unfoldable pub set_heading : List Float → Float → Outcome Heading
set_heading p u = let iant = jant_of (slot p 1) in headed iant (slot p 4) u (mirrored_of iant (slot p 9))

-- `setmaxgain` of the station, as `plate` has it, then these
unfoldable pub station_heading : Station → Float → Float → Float → Outcome Heading
station_heading s mhz design u =
    and_then (set_max_gain s.mode s.parm s.gainmax s.gainmaxb mhz design) λ (m : Float × List Float). set_heading m.1 u

-- mode 3 is the curtain's, told as 0. Its mirror law is of an azimuth and its negative; a plate asks 360 - v, where hundredths may differ, so none of it is told as mirrored
unfoldable pub read_heading : List ℕ → Station → Outcome Heading
read_heading input s =
    cond (eqb s.mode 3) (headed 0 (slot s.parm 4) (float_at input 233) false)
    (station_heading s (float_at input 225) (float_at input 229) (float_at input 233))

unfoldable pub heading_of : List ℕ → Outcome Heading
heading_of input = and_then (station_in input) (read_heading input)
