-- Document 02, card 10: a board in 6,497 words. The first 5,777 are the air: how many stations are on, then sixteen places of 361 words, an id and its row's
-- bits, the first to join first; a place that nobody has is all 0. The others are what the board keeps: at each of 360 azimuths the greatest number's bits, then
-- at each the id that has it. Definitions only.
use Rattle.std.specs.Prelude.{ℕ, zero, suc, ◌+◌, ◌-◌, ◌*◌, ◌^◌, ◌<◌, Bool, true, false, not, ◌&&◌, List, [], ◌∷◌, ◌++◌, map, length, get_or, take, drop, replicate, leb, eqb, Float}
use Rattle.std.specs.Float.{binary32}
use Rattle.std.specs.Float.Ieee.{of_bits, to_bits}
use Rattle.floats.specs.Ranges.{all_finite}
use Rattle.board_air.specs.Stations.{Station, station, numbers_shown, ids_shown}
use Rattle.board_air.specs.Runs.{on, is_id}

abbrev pub air_size : ℕ
air_size = 5777

abbrev pub board_size : ℕ
board_size = 6497

-- words of 32 bits
abbrev pub U32s : List ℕ → Type 0
U32s words = (i : ℕ) → get_or words i 0 < 2 ^ 32

-- ---- the words of a board

abbrev pub place_of : Station → List ℕ
place_of s = s.id ∷ map (to_bits binary32) s.row

unfoldable pub places_of : List Station → List ℕ
places_of [] = []
places_of (s ∷ ss) = places_of ss ++ place_of s

-- the air with these stations on, the latest to join first
unfoldable pub air_of : List Station → List ℕ
air_of ss = length ss ∷ places_of ss ++ replicate (361 * (16 - length ss)) 0

-- what the board keeps of them: the board worked out afresh
unfoldable pub kept_of : List Station → List ℕ
kept_of ss = map (to_bits binary32) (numbers_shown ss) ++ ids_shown ss

-- the board with these stations on
unfoldable pub words_of : List Station → List ℕ
words_of ss = air_of ss ++ kept_of ss

-- ---- the board in words

abbrev pub air_in : List ℕ → List ℕ
air_in words = take air_size words

abbrev pub kept_in : List ℕ → List ℕ
kept_in words = drop air_size words

abbrev pub count_in : List ℕ → ℕ
count_in air = get_or air 0 0

-- 360 numbers from word `at` on
abbrev pub row_in : List ℕ → ℕ → List Float
row_in air at = map (of_bits binary32) (take 360 (drop at air))

-- the station in place k, counted from 0
unfoldable pub station_at : List ℕ → ℕ → Station
station_at air k = station (get_or air (1 + 361 * k) 0) (row_in air (2 + 361 * k))

-- those in the places below n
unfoldable pub stations_to : List ℕ → ℕ → List Station
stations_to air zero = []
stations_to air (suc n) = station_at air n ∷ stations_to air n

unfoldable pub stations_on : List ℕ → List Station
stations_on air = stations_to air (count_in air)

abbrev pub stations_in : List ℕ → List Station
stations_in words = stations_on (air_in words)

-- s has an id that none of the others has, and finite numbers
unfoldable pub station_ok : Station → List Station → Bool
station_ok s others = is_id s.id && not (on s.id others) && all_finite s.row

unfoldable pub stations_ok : List Station → Bool
stations_ok [] = true
stations_ok (s ∷ ss) = stations_ok ss && station_ok s ss

unfoldable pub blank : List ℕ → Bool
blank [] = true
blank (w ∷ ws) = eqb w 0 && blank ws

unfoldable pub air_ok : List ℕ → Bool
air_ok air =
    eqb (length air) air_size && leb (count_in air) 16
    && (stations_ok (stations_on air) && blank (drop (1 + 361 * count_in air) air))

-- the same words
unfoldable pub same_words : List ℕ → List ℕ → Bool
same_words [] [] = true
same_words [] (y ∷ ys) = false
same_words (x ∷ xs) [] = false
same_words (x ∷ xs) (y ∷ ys) = eqb x y && same_words xs ys

-- words that a run of calls can leave (`runs_accepted` and `accepted_runs` in `board`'s proofs/Runs.antt): what is kept is what those on show
unfoldable pub board_ok : List ℕ → Bool
board_ok words = eqb (length words) board_size && air_ok (air_in words) && same_words (kept_in words) (kept_of (stations_in words))
