-- `curtain::levels::levels` by what its steps say: of the space that it has, and of the call once the station and the space are right.
use Prim.Native.Nat.{ℕ, ◌+◌, ◌/◌, ◌%◌, ◌≤◌}
use mathlib.Core.Path.{◌≡◌}
use mathlib.Core.Bool.{true, ◌&&◌}
use mathlib.Core.List.{List}
use borrow.Author.Tests.{eqb-true, leb-true}
use lib.Dec.{eqb, leb}
use lib.ListN.{length, take}
use lib.Ieee.{Float}
use Rattle.std.proofs.Common.{Result}
use Rattle.answers.specs.declared.Refusal.{Refusal}
use Rattle.answers.specs.Outcome.{Outcome, outcome_as}
use Rattle.floats.proofs.Tests.{both}
use Rattle.curtain_parameters.specs.Pattrn0.{curtain_of}
use Rattle.curtain.specs.Level.{factor_of, factor_readings}
use Rattle.curtain.specs.Answers.{station_refusal_of}
use Rattle.curtain.specs.Levels.{Taken, pair_at, in_order, space_ok, levels_of, left, levels_call}
use Rattle.curtain_pattern.specs.declared.integral.Read.{Read}

pub sizes : (floats levels : ℕ) → space_ok floats levels ≡ true → (floats / 2 ≤ 64) × (levels ≡ floats / 2)
unfolding space_ok
sizes floats levels h =
    let e = both (eqb (floats % 2) 0 && leb (floats / 2) 64) (eqb levels (floats / 2)) h in
    (leb-true _ _ (both (eqb (floats % 2) 0) (leb (floats / 2) 64) e.0).1, eqb-true _ _ e.1)

-- the levels of n pairs, after the readings taken before them
abbrev pub taken : ℕ → ℕ → Result (List Float) Refusal → Outcome Taken
taken before n = outcome_as (λ (levels : List Float). (take n levels, before + n))

pub called :
    (parm ds lent : List Float) (gnorm : Float) (factor : Read) (r : Result (List Float) Refusal)
    → 0 ≡ station_refusal_of parm gnorm
    → space_ok (length ds) (length lent) ≡ true
    → factor.value ≡ factor_of (curtain_of parm) gnorm
    → factor.readings ≡ factor_readings (curtain_of parm) gnorm
    → ((before : ℕ) → taken before (length ds / 2) r ≡ in_order (pair_at (curtain_of parm) factor.value ds) before (length ds / 2))
    → levels_call parm gnorm ds lent ≡ left (taken factor.readings (length ds / 2) r) lent
unfolding levels_call levels_of
called parm ds lent gnorm factor r station space value readings found = rw (← station, space, found factor.readings, value, readings)
