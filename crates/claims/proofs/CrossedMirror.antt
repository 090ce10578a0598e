-- The mirror law of type 9 holds.
use Rattle.antenna_laws.proofs.CrossedMirror.{crossed_gain_mirror}
use Rattle.claims.specs.CrossedMirror.{CrossedMirror}

pub crossed_mirror : CrossedMirror
crossed_mirror = record { ccirgain = λ p n a readings h nine t u giso v l. crossed_gain_mirror p n h nine t u giso v l }
