-- Document 01, demand 3: what the mirror law leaves out breaks it. Four stations that set-up accepts, each with an azimuth whose answer isn't that of
-- its mirror, named by their bits. Definitions only.
use Rattle.floats.specs.Literals.{literal}
use Rattle.unlike.specs.Unlike.{Unlike}
use Rattle.dipole_exceptions.specs.Dipoles.{dipoles}
use Rattle.wire_exceptions.specs.Wires.{rhombic, quadrant}

pub record Exceptions : Type 0 where
  -- without slew, at 90 and 270
  pub at_90 : Unlike (dipoles 0) 20 90 (literal 0xc1cef63a) (literal 0xc1cec61b)
  -- slewed, at 1 and 359
  pub slewed : Unlike (dipoles 20) 20 1 (literal 0xc076cb76) (literal 0xc092e95f)
  -- type 7, at 2 and 358
  pub type_7 : Unlike rhombic 20 2 (literal 0xbfcbea4d) (literal 0xbfcbea52)
  -- type 8, at 1 and 359
  pub type_8 : Unlike quadrant 20 1 (literal 0xbfff3b91) (literal 0xbfff3b80)
