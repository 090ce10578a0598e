-- The active elements of a log-periodic antenna, their currents and phases: the second half of `logparm`. Definitions only.
use Rattle.std.specs.Prelude.{◌≡◌, ℕ, zero, suc, ◌+◌, ◌≤◌, true, cond, List, replicate, slice_index_or, slice_set, Float}
use Rattle.std.specs.Float.Ieee.{le}
use Rattle.sine.specs.Sine.{sine}
use Rattle.floats.specs.Ops.{◌⊕◌, ◌⊖◌, ◌⊗◌, ◌⊘◌, +0, at}
use Rattle.floats.specs.Literals.{one, four}
use Rattle.floats.specs.Ranges.{between}
use Rattle.model.specs.Counts.{elements_ok}
use Rattle.logperiodic.specs.Literals.{n1·098790227, n1·055146365, n3·208544524, n5·766460847, n4·054233788, n1·1, n30·7, n0·7166, n1000}
use Rattle.logperiodic.specs.Current.{current_at, phase_at}
use Rattle.logperiodic.specs.declared.current.Band.{Band}
use Rattle.logperiodic.specs.declared.current.Curves.{Curves}
use Rattle.logperiodic.specs.declared.active.Active.{Active}
use Rattle.logperiodic.specs.declared.active.Excited.{Excited}
use Rattle.logperiodic.specs.declared.active.Loudest.{Loudest}
use Rattle.logperiodic.specs.declared.active.Feed.{Feed}

-- `shf`, with powi(3) and powi(4) as document 01 has them
unfoldable pub shape : Float → Float
shape z0 =
    let z = z0 ⊘ n1000 in
    n1·098790227 ⊖ n1·055146365 ⊗ z ⊕ n3·208544524 ⊗ (z ⊗ z) ⊖ n5·766460847 ⊗ (z ⊗ z ⊗ z) ⊕ n4·054233788 ⊗ (z ⊗ z ⊗ (z ⊗ z))

-- the lengths between which an element is active
unfoldable pub band : Float → Float → Float → Float → Band
band z0 rlambda sigma tau =
    let rlc = rlambda ⊗ shape z0 ⊘ four in
    let bar = n1·1 ⊕ n30·7 ⊗ sigma ⊗ (one ⊖ tau) in
    let rllow = rlc ⊘ bar in
    let rlup = n1·1 ⊗ rlc in
    let rl0 = rllow ⊕ n0·7166 ⊗ (rlc ⊖ rllow) in
    record { rllow = rllow; rl0 = rl0; rlc = rlc; rlup = rlup }

-- the list with element i at its end, where the length l of i lies in the band
unfoldable pub appended : Active → Band → ℕ → Float → Active
appended a s i l = cond (between l s.rllow s.rlup) (record { iek = slice_set a.iek (a.nat + 1) i; nat = a.nat + 1 }) a

-- the active ones of elements 1 to n
unfoldable pub active_to : Band → List Float → ℕ → Active
active_to s rl zero = record { iek = replicate 36 0; nat = 0 }
active_to s rl (suc n) = appended (active_to s rl n) s (suc n) (at rl (suc n))

-- a list of active elements as refusal 6 asks for it of an antenna record: at most 30, and entries 1 to nat name elements
pub record Listed (iek : List ℕ) (nat : ℕ) : Type 0 where
  pub few : nat ≤ 30
  pub named : elements_ok iek nat ≡ true

-- a loop of the source over `iek`: l, with f of its number for each of the first n active elements
unfoldable pub over_active : List ℕ → List Float → (ℕ → Float) → ℕ → List Float
over_active iek l f zero = l
over_active iek l f (suc k) = let i = slice_index_or iek (suc k) 0 in slice_set (over_active iek l f k) i (f i)

-- `ria`
unfoldable pub currents : Active → Band → Curves → List Float → List Float
currents a s p rl = over_active a.iek (replicate 31 +0) (λ i. current_at s p (at rl i)) a.nat

-- `fi` by the lengths
unfoldable pub phases : Active → Band → List Float → List Float
phases a s rl = over_active a.iek (replicate 36 +0) (λ i. phase_at s (at rl i)) a.nat

-- the source's first loop
unfoldable pub excited : Active → Band → Curves → List Float → Excited
excited a s p rl = record { ria = currents a s p rl; fi = phases a s rl }

-- the last of equal currents
unfoldable pub louder : Loudest → Float → Float → Loudest
louder m ria fi = cond (le m.riamax ria) (record { riamax = ria; fimin = fi }) m

unfoldable pub loudest_to : List ℕ → List Float → List Float → ℕ → Loudest
loudest_to iek ria fi zero = record { riamax = +0; fimin = +0 }
loudest_to iek ria fi (suc k) = let i = slice_index_or iek (suc k) 0 in louder (loudest_to iek ria fi k) (at ria i) (at fi i)

unfoldable pub loudest : Active → List Float → List Float → Loudest
loudest a ria fi = loudest_to a.iek ria fi a.nat

-- `fi`: the phases taken from the largest current's
unfoldable pub relative_phases : Active → List Float → Float → List Float
relative_phases a fi fimin = over_active a.iek fi (λ i. at fi i ⊖ fimin) a.nat

-- `rim`: the currents by the largest, over the sine of the electrical length
unfoldable pub strengths : Active → List Float → Float → Float → List Float → List Float
strengths a ria riamax beta rl = over_active a.iek (replicate 36 +0) (λ i. at ria i ⊘ riamax ⊘ sine (beta ⊗ at rl i)) a.nat

-- the source's last loop
unfoldable pub normalised : Active → List Float → List Float → Loudest → Float → List Float → Feed
normalised a ria fi top beta rl = record { fi = relative_phases a fi top.fimin; rim = strengths a ria top.riamax beta rl }
