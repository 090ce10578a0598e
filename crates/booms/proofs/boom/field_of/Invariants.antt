-- `booms::boom::field_of` meets its contract.
use mathlib.Core.Path.{◌≡◌}
use mathlib.Core.List.{List}
use lib.Ieee.{Float}
use Rattle.booms.specs.Boom.{field_to}
use Rattle.booms.specs.Lists.{elements_by}
use Rattle.booms.proofs.boom.field_of.Given as goal

abbrev pub invariant-loop-n : goal.invariant-loop-n
invariant-loop-n l = (h : List Float) → l.s ≡ field_to l.upright l.k (elements_by l.iek l.fi l.rim l.x l.y l.rl h l.nat) l.table l.iu l.d l.n
