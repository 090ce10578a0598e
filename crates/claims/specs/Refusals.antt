-- Document 01, "Answers": "Lowest number first. A refusal .. occurs only on its condition." Each call refuses by its table: under a
-- number just when that is the lowest whose condition holds, and it accepts just when none does. Definitions only.
use Rattle.std.specs.Prelude.{ℕ, List, Float}
use Rattle.answers.specs.Table.{Refuses}
use Rattle.maxgain.specs.Maximum.{set_max_gain}
use Rattle.curtain.specs.Answers.{curtain_gain}
use Rattle.station.specs.Answers.{read_of, write_of}
use Rattle.station.specs.declared.Station.{Station}
use Rattle.antenna.specs.SetUp.{set_up_of}
use Rattle.antenna.specs.Gain.{gain_of}
use Rattle.plate_row.specs.Row.{row_of}
use Rattle.antenna.specs.declared.record.Antenna.{Antenna}
use Rattle.claims.specs.Tables.{maximum_table, set_up_table, gain_table, row_table, curtain_table, read_table, write_table, outcome_of}

pub record Refusals : Type 0 where
  pub setmaxgain : (mode : ℕ) (parm gainmax gainmaxb : List Float) (mhz design : Float)
      → Refuses (set_max_gain mode parm gainmax gainmaxb mhz design) (maximum_table mode parm gainmax gainmaxb mhz design)
  pub antinit2 : (p : List Float) (size : ℕ) → Refuses (set_up_of p size) (set_up_table p size)
  pub ccirgain : (a : Antenna) (t : List Float) (u v giso : Float) → Refuses (gain_of a t u v giso) (gain_table a t u v giso)
  pub row : (a : Antenna) (t : List Float) (u giso : Float) (size : ℕ) → Refuses (row_of a t u giso size) (row_table a t u giso size)
  pub curtain : (parm : List Float) (azimd elevd gnorm : Float)
      → Refuses (curtain_gain parm azimd elevd gnorm) (curtain_table parm azimd elevd gnorm)
  pub reader : (bytes : List ℕ) → Refuses (read_of bytes) (read_table bytes)
  pub writer : (edition : ℕ) (s : Station) (out : List ℕ) → Refuses (outcome_of (write_of edition s out)) (write_table edition s out)
