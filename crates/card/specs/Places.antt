-- The station of a card: each place holds the number that the table of fields says. Definitions only.
use Rattle.std.specs.Prelude.{ℕ, cond, ◌&&◌, List, eqb, leb, ltb, Float, Result, Ok, Err}
use Rattle.std.specs.Float.Ieee.{neg}
use Rattle.floats.specs.Ops.{+0}
use Rattle.floats.specs.Literals.{literal}
use Rattle.floats.specs.Filled.{filled_to}
use Rattle.decimal.specs.declared.NotRead.{NotRead}
use Rattle.decimal.specs.Reading as decimal
use Rattle.station.specs.declared.Station.{Station}
use Rattle.station.specs.Record.{station_of}
use Rattle.fields.specs.declared.Kind.{Kind}
use Rattle.fields.specs.Table.{CURTAIN, source_of}
use Rattle.card.specs.Card.{Card, word, line_for}
use Rattle.card.specs.Kind.{is_curtain}

-- the number that a word is, +0 for one that is none
unfoldable pub read_value : Result Float NotRead → Float
read_value (Ok x) = x
read_value (Err e) = +0

-- VOACAP's type for a curtain is 12
abbrev pub twelve : Float
twelve = literal 0x41400000

unfoldable pub value_of : List ℕ → Float
value_of w = cond (is_curtain w) twelve (read_value (decimal.read_of w))

-- -99999: the file has no factor at this MHz, and the integral finds it
abbrev pub no_factor : Float
no_factor = neg (literal 0x47c34f80)

-- what stands where no field has a number: 0, but where a curtain's factors would be
unfoldable pub unnamed : Kind → ℕ → Float
unnamed kind p = cond (eqb kind.iant CURTAIN && leb 26 p && ltb p 56) no_factor +0

-- place p of the card's station
unfoldable pub placed : Kind → Card → ℕ → Float
placed kind card p =
    let s = source_of kind p in
    cond (eqb s.field 0) (unnamed kind p) (value_of (word (line_for card s.field) s.number))

-- places 0 to 55, with the mode
unfoldable pub station_in : Kind → Card → Station
station_in kind card = station_of kind.mode (filled_to (placed kind card) 56 56)
