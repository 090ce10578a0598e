-- Document 01, "Answers": the table of refusals of each call, in the table's words: a number, and the condition it comes with.
-- Document 02's card 9 tries 15 before 10, so that a number is asked for of the record's own table alone: there 10's condition says so.
-- Definitions only.
use Rattle.std.specs.Prelude.{ℕ, not, ◌&&◌, ◌||◌, List, [], ◌∷◌, length, ltb, leb, eqb, Float}
use Rattle.std.specs.Float.Ieee.Scale.{finite}
use Rattle.answers.specs.Outcome.{Outcome, refused, accepted}
use Rattle.answers.specs.Refusals.{RECORD, VALUE, TYPE, MODE, BAND, COUNT, AIM, SPACE, PATTERN, LEVEL, TABLE}
use Rattle.answers.specs.Table.{Line, ◌when◌}
use Rattle.floats.specs.Ranges.{all_finite}
use Rattle.model.specs.Counts.{counts_ok}
use Rattle.model.specs.Limits.{slot}
use Rattle.model.specs.Table.{table_size}
use Rattle.model.specs.Types.{jant_of, type_ok}
use Rattle.ground.specs.Table.{table_of}
use Rattle.maxgain.specs.Refusals as maxgain
use Rattle.maxgain.specs.Maximum.{found}
use Rattle.curtain.specs.Answers as curtain
use Rattle.curtain.specs.Level.{level_of}
use Rattle.station.specs.Answers as station
use Rattle.station.specs.Header.{width_of, typeless}
use Rattle.station.specs.Record.{edition_in, is_record, floats_in, floats_of}
use Rattle.station.specs.declared.Station.{Station}
use Rattle.parameters.specs.Limits.{band_ok, slots_ok, aim_ok, start_of}
use Rattle.search.specs.Search.{gainorm_of}
use Rattle.antenna.specs.SetUp.{model_of, search_refused}
use Rattle.antenna.specs.TableSum.{own_table}
use Rattle.antenna.specs.Gain.{number_at}
use Rattle.plate_row.specs.Row.{elevation_ok, numbers_of, front_to_back}
use Rattle.antenna.specs.declared.record.Antenna.{Antenna}
use Rattle.search.specs.declared.gainorm.Search.{Search}

-- the maximum gain
unfoldable pub maximum_table : ℕ → List Float → List Float → List Float → Float → Float → List Line
maximum_table mode parm gainmax gainmaxb mhz design =
    (VALUE when not (maxgain.inputs_finite parm gainmax gainmaxb mhz design))
    ∷ (TYPE when not (type_ok (jant_of (slot parm 1))))
    ∷ (MODE when ltb 2 mode)
    ∷ (BAND when not (maxgain.band_ok mode mhz))
    ∷ (LEVEL when not (finite (found mode (jant_of (slot parm 1)) parm gainmax gainmaxb mhz design).gain))
    ∷ []

-- the search that set-up makes
unfoldable pub search_of : List Float → Search
search_of p =
    let iant = jant_of (slot p 1) in
    let m = model_of iant p in
    gainorm_of m (table_of m) (start_of iant p)

-- set-up, with size floats lent for the table
unfoldable pub set_up_table : List Float → ℕ → List Line
set_up_table p size =
    let iant = jant_of (slot p 1) in
    (VALUE when not (all_finite p))
    ∷ (TYPE when not (type_ok iant))
    ∷ (BAND when not (band_ok iant p))
    ∷ (COUNT when not (slots_ok iant p))
    ∷ (AIM when not (aim_ok iant p))
    ∷ (SPACE when ltb size table_size)
    ∷ (PATTERN when search_refused (search_of p))
    ∷ []

-- gain
unfoldable pub gain_table : Antenna → List Float → Float → Float → Float → List Line
gain_table a t u v giso =
    (VALUE when not (finite u && finite v && finite giso))
    ∷ (TYPE when not (type_ok a.model.iant))
    ∷ (COUNT when not (counts_ok a.model))
    ∷ (SPACE when ltb (length t) table_size)
    ∷ (LEVEL when (own_table a t && not (finite (number_at a.model a.peak.z6 t u v giso))))
    ∷ (TABLE when not (own_table a t))
    ∷ []

-- the row, with size floats lent for it
unfoldable pub row_table : Antenna → List Float → Float → Float → ℕ → List Line
row_table a t u giso size =
    let row = numbers_of a t u giso in
    (VALUE when not (finite u && finite giso))
    ∷ (TYPE when not (type_ok a.model.iant))
    ∷ (COUNT when not (counts_ok a.model))
    ∷ (AIM when not (elevation_ok u))
    ∷ (SPACE when (ltb (length t) table_size || not (eqb size 360)))
    ∷ (LEVEL when (own_table a t && not (all_finite row && finite (front_to_back row))))
    ∷ (TABLE when not (own_table a t))
    ∷ []

-- the curtain
unfoldable pub curtain_table : List Float → Float → Float → Float → List Line
curtain_table parm azimd elevd gnorm =
    (VALUE when (not (finite azimd && finite elevd) || not (curtain.station_finite parm gnorm)))
    ∷ (BAND when not (curtain.band_ok parm))
    ∷ (AIM when not (curtain.aim_ok parm))
    ∷ (LEVEL when not (finite (level_of parm azimd elevd gnorm)))
    ∷ []

-- the record's reader, and its writer by document 02's card 7
unfoldable pub read_table : List ℕ → List Line
read_table bytes =
    (RECORD when not (is_record bytes)) ∷ (VALUE when not (all_finite (floats_in (width_of (edition_in bytes)) bytes))) ∷ []

unfoldable pub write_table : ℕ → Station → List ℕ → List Line
write_table edition s out =
    (RECORD when not (leb edition 1))
    ∷ (VALUE when not (all_finite (floats_of s)))
    ∷ (TYPE when typeless edition s.mode (slot s.parm 1))
    ∷ (MODE when not (leb s.mode 3))
    ∷ (SPACE when not (eqb (length out) 225))
    ∷ []

-- the outcome of the writer, without what a refusal leaves
unfoldable pub outcome_of : {A : Type 0} → station.Answer A → Outcome A
outcome_of (station.accepted x) = accepted x
outcome_of (station.refused n left) = refused n
