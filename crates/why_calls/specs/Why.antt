-- `hf_why` and `hf_curtain_why`: which slot a refusal is about, as one number. Definitions only.
use Rattle.std.specs.Prelude.{ℕ, cond, not, List, length, eqb, Some, None, Float}
use Rattle.answers.specs.Refusals.{SPACE}
use Rattle.slots.specs.Told.{Why}
use Rattle.set_up_why.specs.Why as Antenna
use Rattle.curtain_why.specs.Why as Curtain
use Rattle.packed.specs.Packed.{refused_as, refused_at}

-- 0 for nothing; a refusal's number and slot under kind 4
unfoldable pub packed : Why → ℕ
packed None = 0
packed (Some told) = refused_at told.0 told.1

-- SPACE for parameters of another number
unfoldable pub why_call : List Float → ℕ
why_call parm = cond (not (eqb (length parm) 20)) (refused_as SPACE) (packed (Antenna.why_of parm))

unfoldable pub curtain_why_call : List Float → ℕ
curtain_why_call parm = cond (not (eqb (length parm) 20)) (refused_as SPACE) (packed (Curtain.why_of parm))
