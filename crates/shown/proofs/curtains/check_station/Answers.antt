-- `shown::curtains::check_station` meets its contract. Assumes nothing.
use mathlib.Core.Path.{◌≡◌, refl}
use mathlib.Core.Bool.{true}
use lib.ListN.{length}
use lib.Ieee.{neg, of_bits}
use lib.Ieee.Scale.{finite}
use Rattle.std.proofs.Common.{rules}
use Rattle.slots.specs.Told.{number_of}
use Rattle.curtain_why.proofs.WhyNumber.{why_number}
use Rattle.shown.specs.CurtainPlate.{no_factor}
use Rattle.shown.proofs.curtains.check_station.Goals as goal

no-factor-finite : finite no_factor ≡ true
unfolding neg of_bits
no-factor-finite = refl

pub returns-in-Some : goal.returns-in-Some
unfolding number_of
returns-in-Some c =
    let twenty : length c.args.parm ≡ 20 = search rules in
    rw (← c.in-Some.ensures) at (why_number c.args.parm twenty no_factor no-factor-finite)

pub returns-in-None : goal.returns-in-None
unfolding number_of
returns-in-None c =
    let twenty : length c.args.parm ≡ 20 = search rules in
    rw (← c.in-None.ensures) at (why_number c.args.parm twenty no_factor no-factor-finite)
