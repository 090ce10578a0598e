-- `dipole_arrays::dipoles::row_factor` meets its contract.
use Rattle.std.proofs.Common.{◌≡◌}
use Rattle.dipole_arrays.specs.Rows.{sine_sum, cosine_sum}
use Rattle.dipole_arrays.proofs.dipoles.row_factor.Given as goal

abbrev pub invariant-loop-il : goal.invariant-loop-il
invariant-loop-il l = (l.u1 ≡ cosine_sum l.g l.il) × (l.u2 ≡ sine_sum l.g l.il)
