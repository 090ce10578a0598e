-- The station's set-up and its two answers, computed, without slew and with one.
use mathlib.Core.Path.{refl}
use Rattle.std.specs.Float.{float_with_sign}
use Rattle.floats.specs.Literals.{literal}
use Rattle.unlike.specs.Unlike.{Unlike}
use Rattle.unlike.proofs.Computed.{peak_of, search_of, Computed, unlike}
use Rattle.dipole_exceptions.specs.Dipoles.{dipoles}

at_90 : Computed (dipoles 0) (peak_of 0x413f5e65 14 0) 90 20 90 (literal 0xc1cef63a) (literal 0xc1cec61b)
unfolding search_of float_with_sign
at_90 = record { limits = λ n. refl; search = refl; found = refl; at_v = (λ n own. refl, λ t. refl); at-mirror = (λ n own. refl, λ t. refl); bits = refl }

slewed : Computed (dipoles 20) (peak_of 0x4132a539 14 16) 141 20 1 (literal 0xc076cb76) (literal 0xc092e95f)
unfolding search_of float_with_sign
slewed = record { limits = λ n. refl; search = refl; found = refl; at_v = (λ n own. refl, λ t. refl); at-mirror = (λ n own. refl, λ t. refl); bits = refl }

pub at_90_unlike : Unlike (dipoles 0) 20 90 (literal 0xc1cef63a) (literal 0xc1cec61b)
at_90_unlike = unlike at_90

pub slewed-unlike : Unlike (dipoles 20) 20 1 (literal 0xc076cb76) (literal 0xc092e95f)
slewed-unlike = unlike slewed
