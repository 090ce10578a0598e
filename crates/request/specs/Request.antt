-- Document 01, "Program `plate`": from its input to an antenna. "The first step that refuses gives the number." Definitions only.
use Rattle.std.specs.Prelude.{ℕ, cond, not, List, length, take, eqb, Float}
use Rattle.answers.specs.Outcome.{Outcome, refused, accepted}
use Rattle.answers.specs.Refusals.{RECORD}
use Rattle.words.specs.Floats.{float_at}
use Rattle.station.specs.Answers.{read_of}
use Rattle.station.specs.declared.Station.{Station}
use Rattle.maxgain.specs.Maximum.{set_max_gain}
use Rattle.antenna.specs.declared.record.Antenna.{Antenna}
use Rattle.antenna.specs.SetUp.{set_up_of, lent_after}
use Rattle.request.specs.declared.Request.{Request}

-- a step, and what follows where it accepts
unfoldable pub and_then : {A B : Type 0} → Outcome A → (A → Outcome B) → Outcome B
and_then (refused number) next = refused number
and_then (accepted x) next = next x

-- the station in the first 225 bytes of 237
unfoldable pub station_in : List ℕ → Outcome Station
station_in input = cond (not (eqb (length input) 237)) (refused RECORD) (read_of (take 225 input))

-- set-up of the parameters, with n floats lent for the table
unfoldable pub antenna_of : List Float → Float → Float → ℕ → Outcome Request
antenna_of parm giso elevation n =
    and_then (set_up_of parm n) λ (a : Antenna × ℕ). accepted (record { antenna = a.0; parm = parm; giso = giso; elevation = elevation })

-- `setmaxgain` of the station, then set-up
unfoldable pub tuned_of : Station → Float → Float → Float → ℕ → Outcome Request
tuned_of s mhz design elevation n =
    and_then (set_max_gain s.mode s.parm s.gainmax s.gainmaxb mhz design) λ (m : Float × List Float). antenna_of m.1 m.0 elevation n

-- the reader, then these: behind the record stand MHz, design MHz and elevation
unfoldable pub request_of : List ℕ → ℕ → Outcome Request
request_of input n = and_then (station_in input) λ (s : Station). tuned_of s (float_at input 225) (float_at input 229) (float_at input 233) n

-- the lent table afterwards: as set-up of the request's parameters leaves it, or after a refusal what it was
unfoldable pub left_after : Outcome Request → List Float → List Float
left_after (refused number) lent = lent
left_after (accepted q) lent = lent_after q.parm lent

unfoldable pub table_after : List ℕ → List Float → List Float
table_after input lent = left_after (request_of input (length lent)) lent
