-- What set-up's laws need of `logparm`.
use Rattle.std.proofs.Common.{ℕ, ◌≤◌}
use lib.Ieee.{Float}
use Rattle.logperiodic.specs.Active.{Listed}
use Rattle.logperiodic.specs.LogPeriodic.{elements, log_parm}
use Rattle.logperiodic.specs.declared.geometry.Design.{Design}
use Rattle.logperiodic.proofs.active.Listing.{active_listed}

-- of at most 30 elements the active ones are listed
pub logparm_listed : (iant nel : ℕ) (d : Design) (rlambda beta : Float) → nel ≤ 30
    → let e = (log_parm iant nel d rlambda beta).elements in Listed e.iek e.nat
unfolding log_parm elements
logparm_listed iant nel d rlambda beta h = active_listed _ _ nel h
