-- The mirror image of a direction, and the direction behind it. Definitions only.
use Rattle.std.specs.Float.Ieee.{neg}
use Rattle.model.specs.declared.record.Direction.{Direction}

-- the direction on the other side of the boresight: the azimuth's sine has the other sign
unfoldable pub mirror : Direction → Direction
mirror d = record { a0 = d.a0; b0 = d.b0; a1 = neg d.a1; b1 = d.b1 }

-- the direction behind: the azimuth's sine and cosine both have the other sign. So the fold leaves 270 degrees to 90: not as mirror images
unfoldable pub behind : Direction → Direction
behind d = record { a0 = d.a0; b0 = d.b0; a1 = neg d.a1; b1 = neg d.b1 }
