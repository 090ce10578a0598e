-- `curtain_parameters::direction::bay_power_at` meets its contract.
use mathlib.Core.Path.{◌∙◌}
use mir.Syntax.{w32}
use mir.ValLaws.{to_z-of_z}
use Rattle.curtain_parameters.specs.Pattrn0.{nbs_of, islew_of, odrat_of}
use Rattle.curtain_parameters.proofs.direction.Tables.{bays_in_steps}
use Rattle.curtain_parameters.proofs.direction.bay_power_at.Goals as goal

pub returns : goal.returns
unfolding nbs_of islew_of odrat_of
returns c =
    let start = c in
    let slew = c.nint-islew in
    c.bay_power_of.ensures
    ∙ rw (to_z-of_z w32 _ (record { sfits = slew.type_inv }), slew.ensures, c.bays-nbs.ensures, start.requires) (bays_in_steps start.args.parm start.args.cpsi)
