-- Documents 01 and 02, "Answers": the numbers of the refusals, by their names there; src/lib.rt has the same for the code. Definitions only.
use Rattle.std.specs.Prelude.{ℕ}

abbrev pub RECORD : ℕ
RECORD = 1

-- an input float isn't finite
abbrev pub VALUE : ℕ
VALUE = 2

abbrev pub TYPE : ℕ
TYPE = 3

abbrev pub MODE : ℕ
MODE = 4

abbrev pub BAND : ℕ
BAND = 5

abbrev pub COUNT : ℕ
COUNT = 6

abbrev pub AIM : ℕ
AIM = 7

abbrev pub SPACE : ℕ
SPACE = 8

-- a gain met in the search, or its peak, isn't finite
abbrev pub PATTERN : ℕ
PATTERN = 9

-- the number asked for isn't finite
abbrev pub LEVEL : ℕ
LEVEL = 10

abbrev pub CALENDAR : ℕ
CALENDAR = 11

-- a row of a band book
abbrev pub ROW : ℕ
ROW = 12

abbrev pub GAP : ℕ
GAP = 13

abbrev pub OVERLAP : ℕ
OVERLAP = 14

-- a table that isn't the antenna record's
abbrev pub TABLE : ℕ
TABLE = 15

-- a call on the board that can't be: no such id, already on, or not on
abbrev pub CALL : ℕ
CALL = 16

abbrev pub FULL : ℕ
FULL = 17

-- a number over 1,000 in size
abbrev pub SPAN : ℕ
SPAN = 18
