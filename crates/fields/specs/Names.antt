-- What the fields are called. A field's number counts from 1, in this order, in which a missing one is told. Definitions only.
use Rattle.std.specs.Prelude.{ℕ, zero, suc, Bool, List, [], ◌∷◌, get_or}
use Rattle.quoted.specs.Quoted.{quoted}
use Rattle.lines.specs.Alike.{alike}
use Rattle.fields.specs.Least.{least}

abbrev pub TYPE : ℕ
TYPE = 1

abbrev pub GROUND : ℕ
GROUND = 2

abbrev pub DIPOLES : ℕ
DIPOLES = 3

abbrev pub HEIGHT : ℕ
HEIGHT = 4

abbrev pub SLEW : ℕ
SLEW = 5

abbrev pub SCREEN : ℕ
SCREEN = 6

abbrev pub REFLECTOR : ℕ
REFLECTOR = 7

abbrev pub START : ℕ
START = 8

abbrev pub ELEMENTS : ℕ
ELEMENTS = 9

abbrev pub LENGTHS : ℕ
LENGTHS = 10

abbrev pub BOOM : ℕ
BOOM = 11

abbrev pub HEIGHTS : ℕ
HEIGHTS = 12

abbrev pub FEEDER : ℕ
FEEDER = 13

abbrev pub LEG : ℕ
LEG = 14

abbrev pub ANGLE : ℕ
ANGLE = 15

abbrev pub BAYS : ℕ
BAYS = 16

abbrev pub STACKS : ℕ
STACKS = 17

abbrev pub DIPOLE : ℕ
DIPOLE = 18

abbrev pub SPACING : ℕ
SPACING = 19

abbrev pub EXCITATION : ℕ
EXCITATION = 20

abbrev pub GAIN : ℕ
GAIN = 21

abbrev pub GAIN_RATIO : ℕ
GAIN_RATIO = 22

abbrev pub GAIN_MHZ : ℕ
GAIN_MHZ = 23

abbrev pub MHZ : ℕ
MHZ = 24

abbrev pub DESIGN : ℕ
DESIGN = 25

abbrev pub ELEVATION : ℕ
ELEVATION = 26

unfoldable pub names : List (List ℕ)
names =
    quoted "type"
    ∷ quoted "ground"
    ∷ quoted "dipoles"
    ∷ quoted "height"
    ∷ quoted "slew"
    ∷ quoted "screen"
    ∷ quoted "reflector"
    ∷ quoted "start"
    ∷ quoted "elements"
    ∷ quoted "lengths"
    ∷ quoted "boom"
    ∷ quoted "heights"
    ∷ quoted "feeder"
    ∷ quoted "leg"
    ∷ quoted "angle"
    ∷ quoted "bays"
    ∷ quoted "stacks"
    ∷ quoted "dipole"
    ∷ quoted "spacing"
    ∷ quoted "excitation"
    ∷ quoted "gain"
    ∷ quoted "gain-ratio"
    ∷ quoted "gain-mhz"
    ∷ quoted "mhz"
    ∷ quoted "design"
    ∷ quoted "elevation" ∷ []

-- how many fields there are
abbrev pub FIELDS : ℕ
FIELDS = 26

-- the name of field f; no other number has one
unfoldable pub name_of : ℕ → List ℕ
name_of zero = []
name_of (suc i) = get_or names i []

abbrev pub is_named : List ℕ → ℕ → Bool
is_named word f = alike (name_of f) word

-- the field that a word names, 0 where it names none
unfoldable pub field_of : List ℕ → ℕ
field_of word = least (is_named word) FIELDS
