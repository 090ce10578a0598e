-- The mirror law's exceptions are real: each station's set-up and its two answers, computed.
use Rattle.dipole_exceptions.proofs.Dipoles.{at_90_unlike, slewed-unlike}
use Rattle.wire_exceptions.proofs.Wires.{type_7_unlike, type_8_unlike}
use Rattle.claims.specs.Exceptions.{Exceptions}

pub exceptions : Exceptions
exceptions = record { at_90 = at_90_unlike; slewed = slewed-unlike; type_7 = type_7_unlike; type_8 = type_8_unlike }
