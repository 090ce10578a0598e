-- Each station's set-up and its two answers, computed.
use mathlib.Core.Path.{refl}
use Rattle.std.specs.Float.{float_with_sign}
use Rattle.floats.specs.Literals.{literal}
use Rattle.unlike.specs.Unlike.{Unlike}
use Rattle.unlike.proofs.Computed.{peak_of, search_of, Computed, unlike}
use Rattle.wire_exceptions.specs.Wires.{rhombic, quadrant}

type_7 : Computed rhombic (peak_of 0x449ed51c 15 0) 90 20 2 (literal 0xbfcbea4d) (literal 0xbfcbea52)
unfolding search_of float_with_sign
type_7 = record { limits = λ n. refl; search = refl; found = refl; at_v = (λ n own. refl, λ t. refl); at-mirror = (λ n own. refl, λ t. refl); bits = refl }

type_8 : Computed quadrant (peak_of 0x402afbb2 49 0) 90 20 1 (literal 0xbfff3b91) (literal 0xbfff3b80)
unfolding search_of float_with_sign
type_8 = record { limits = λ n. refl; search = refl; found = refl; at_v = (λ n own. refl, λ t. refl); at-mirror = (λ n own. refl, λ t. refl); bits = refl }

pub type_7_unlike : Unlike rhombic 20 2 (literal 0xbfcbea4d) (literal 0xbfcbea52)
type_7_unlike = unlike type_7

pub type_8_unlike : Unlike quadrant 20 1 (literal 0xbfff3b91) (literal 0xbfff3b80)
type_8_unlike = unlike type_8
