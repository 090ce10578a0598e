-- `hf_read` and `hf_write`: the station record's bytes on one side, 57 words on the other. Definitions only.
use Rattle.std.specs.Prelude.{ℕ, min, cond, not, List, ◌∷◌, length, get_or, eqb}
use Rattle.answers.specs.Outcome as reader
use Rattle.station.specs.declared.Station.{Station}
use Rattle.station.specs.Record.{floats_of, station_of}
use Rattle.station.specs.Answers as writer
use Rattle.station.specs.Answers.{read_of, write_of}
use Rattle.packed.specs.Lists.{Left, left, part, bits, floats}

-- a station's words: the mode, then the floats' bits
unfoldable pub station_words : Station → List ℕ
station_words s = s.mode ∷ bits (floats_of s)

-- the station of 57 words; a mode above 255 counts as 255
unfoldable pub station_in : List ℕ → Station
station_in words = station_of (min (get_or words 0 0) 255) (part (floats words) 1 56)

-- 0, with the station's words; or the refusal's number, with the lent words as they were
unfoldable pub read_left : reader.Outcome Station → List ℕ → Left
read_left (reader.accepted s) words = left 0 (station_words s)
read_left (reader.refused n) words = left n words

-- 8 for words of another number
unfoldable pub read_call : List ℕ → List ℕ → Left
read_call bytes words = cond (not (eqb (length words) 57)) (left 8 words) (read_left (read_of bytes) words)

-- 0, with the record; or the refusal's number, with the lent bytes as they were
unfoldable pub write_left : writer.Answer (List ℕ) → Left
write_left (writer.accepted bytes) = left 0 bytes
write_left (writer.refused n bytes) = left n bytes

-- 8 for words of another number
unfoldable pub write_call : ℕ → List ℕ → List ℕ → Left
write_call edition words bytes = cond (not (eqb (length words) 57)) (left 8 bytes) (write_left (write_of edition (station_in words) bytes))
