-- Document 01, "Station record": 225 bytes, which are one number of 1,800 bits, the most significant bit first.
-- The fields are a header of h bits, 56 words of 32 bits and 8 - h spare bits, for any h up to 8: an edition has its own. Definitions only.
use Rattle.std.specs.Prelude.{ℕ, ◌-◌, ◌*◌, ◌/◌, ◌%◌, ◌^◌, Bool, ◌&&◌, List, ◌++◌, map, length, take, drop, replicate, eqb, leb, Float}
use Rattle.std.specs.Float.{binary32}
use Rattle.std.specs.Float.Ieee.{of_bits, to_bits}
use Rattle.words.specs.Digits.{after, number, digits}
use Rattle.model.specs.Limits.{slot}
use Rattle.station.specs.declared.Station.{Station}
use Rattle.station.specs.Header.{type_bits, width_of, header_of, type_agrees}

-- ---- the fields, over the header's width h

-- the bytes of a record with this header and these words, its spare bits 0
unfoldable pub packed : ℕ → ℕ → List ℕ → List ℕ
packed h header words = digits 256 225 (after (2 ^ 32) header words * 2 ^ (8 - h))

-- the fields of a record's bytes; the header is their first h bits
unfoldable pub header_in : ℕ → List ℕ → ℕ
header_in h bytes = number 256 bytes / 2 ^ (8 - h) / (2 ^ 32) ^ 56

unfoldable pub words_in : ℕ → List ℕ → List ℕ
words_in h bytes = digits (2 ^ 32) 56 (number 256 bytes / 2 ^ (8 - h))

unfoldable pub spare_in : ℕ → List ℕ → ℕ
spare_in h bytes = number 256 bytes % 2 ^ (8 - h)

-- the floats of the words
unfoldable pub floats_in : ℕ → List ℕ → List Float
floats_in h bytes = map (of_bits binary32) (words_in h bytes)

-- the word in the five bytes that it lies in: the 32 bits after the first h
unfoldable pub word_in : ℕ → List ℕ → ℕ
word_in h five = number 256 five / 2 ^ (8 - h) % 2 ^ 32

-- ---- a station's floats, in the order of the words: `parm` 0..19, `gainmax` row by row, `gainmaxb`

abbrev pub floats_of : Station → List Float
floats_of s = s.parm ++ s.gainmax ++ s.gainmaxb

-- its words, a float's bits each
abbrev pub words_of : Station → List ℕ
words_of s = map (to_bits binary32) (floats_of s)

abbrev pub station_of : ℕ → List Float → Station
station_of mode fs = record { mode = mode; parm = take 20 fs; gainmax = take 6 (drop 20 fs); gainmaxb = drop 26 fs }

unfoldable pub zeros : ℕ → Station
zeros mode = station_of mode (replicate 56 (of_bits binary32 0))

-- ---- the editions: the first 4 bits are 2 of the edition and 2 of the mode, and the edition says how wide the header is

abbrev pub edition_in : List ℕ → ℕ
edition_in bytes = header_in 4 bytes / 4

abbrev pub mode_in : List ℕ → ℕ
mode_in bytes = header_in 4 bytes % 4

-- the bits of the type, of a record of this edition
unfoldable pub type_in : ℕ → List ℕ → ℕ
type_in edition bytes = header_in (width_of edition) bytes % 2 ^ type_bits edition

-- a record of this edition: no spare bit set, and a type that agrees with mode and slot 1
unfoldable pub is_of_edition : ℕ → List ℕ → Bool
is_of_edition edition bytes =
    let h = width_of edition in
    eqb (spare_in h bytes) 0 && type_agrees edition (type_in edition bytes) (mode_in bytes) (slot (floats_in h bytes) 1)

-- not refusal 1: 225 bytes, edition 0 or 1, and a record of that edition
unfoldable pub is_record : List ℕ → Bool
is_record bytes = eqb (length bytes) 225 && leb (edition_in bytes) 1 && is_of_edition (edition_in bytes) bytes

-- the bytes of a station in an edition
unfoldable pub record_of : ℕ → Station → List ℕ
record_of edition s = packed (width_of edition) (header_of edition s.mode (slot s.parm 1)) (words_of s)
