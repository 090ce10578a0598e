-- A record that set-up leaves: its counts are words, and its words are read back. Assumes nothing.
use mathlib.Core.Path.{◌≡◌, refl, sym, subst}
use mathlib.Core.Bool.{Bool, true, false, cond}
use mathlib.Core.List.{List, [], ◌∷◌}
use Prim.Native.Nat.{ℕ, zero, suc, ◌+◌, ◌≤◌}
use native.Mathlib.Omega.{arith}
use lib.ListN.{get_or, set, replicate}
use lib.Ieee.{Float}
use Rattle.floats.specs.Ops.{at}
use Rattle.floats.specs.Ranges.{between}
use Rattle.model.specs.Types.{jant_of, log_periodic}
use Rattle.model.specs.Limits.{slot}
use Rattle.model.specs.declared.record.Elements.{Elements}
use Rattle.logperiodic.specs.Active.{band, appended, active_to}
use Rattle.logperiodic.specs.Geometry.{boom, taper, layout}
use Rattle.logperiodic.specs.LogPeriodic.{elements, log_parm}
use Rattle.logperiodic.specs.declared.active.Active.{Active}
use Rattle.logperiodic.specs.declared.current.Band.{Band}
use Rattle.answers.specs.Outcome.{accepted}
use Rattle.parameters.specs.Limits.{nel_of, slots_ok}
use Rattle.parameters.specs.TypeConstants.{rlambda_of, beta_of}
use Rattle.antenna.specs.SetUp.{design_of, no_elements, elements_of, model_of, set_up_of}
use Rattle.antenna.specs.declared.record.Antenna.{Antenna}
use Rattle.antenna_laws.proofs.Outcomes.{accepted_only_when, accepted_model}
use Rattle.antenna.proofs.setup.Accepted.{accepted_limits, nel_bounds}
use Rattle.antenna_words.specs.Fields.{antenna_words}
use Rattle.antenna_words.specs.Reading.{antenna_in}
use Rattle.antenna_words.specs.Held.{Held, CountsAreWords}
use Rattle.antenna_words.proofs.RoundTrip.{antenna_in_words}

-- ---- numbers of at most m

abbrev UpTo : ℕ → List ℕ → Type 0
UpTo m l = (k : ℕ) → get_or l k 0 ≤ m

zeros-small : (n m : ℕ) → UpTo m (replicate n 0)
zeros-small zero m k = omega arith
zeros-small (suc n) m zero = omega arith
zeros-small (suc n) m (suc k) = zeros-small n m k

set-small : (l : List ℕ) (i x m : ℕ) → x ≤ m → UpTo m l → UpTo m (set l i x)
set-small [] i x m h f k = f k
set-small (y ∷ l) zero x m h f zero = h
set-small (y ∷ l) zero x m h f (suc k) = f (suc k)
set-small (y ∷ l) (suc i) x m h f zero = f 0
set-small (y ∷ l) (suc i) x m h f (suc k) = set-small l i x m h (λ j. f (suc j)) k

-- ---- the active elements

pub record Few (m : ℕ) (a : Active) : Type 0 where
  pub nat : a.nat ≤ m
  pub iek : UpTo m a.iek

one_more : (a : Active) (n : ℕ) (b : Bool) → Few n a → Few (suc n) (cond b (record { iek = set a.iek (a.nat + 1) (suc n); nat = a.nat + 1 }) a)
one_more a n true few = record { nat = omega (arith, few.nat); iek = set-small a.iek (a.nat + 1) (suc n) (suc n) (omega arith) (λ k. omega (arith, few.iek k)) }
one_more a n false few = record { nat = omega (arith, few.nat); iek = λ k. omega (arith, few.iek k) }

active_few : (s : Band) (rl : List Float) (n : ℕ) → Few n (active_to s rl n)
unfolding active_to appended
active_few s rl zero = record { nat = omega arith; iek = zeros-small 36 0 }
active_few s rl (suc n) = one_more (active_to s rl n) n (between (at rl (suc n)) s.rllow s.rlup) (active_few s rl n)

pub record FewElements (e : Elements) : Type 0 where
  pub nat : e.nat ≤ 30
  pub iek : UpTo 30 e.iek

by-type : (iant : ℕ) (p : List Float) (b : Bool) → log_periodic iant ≡ b → slots_ok iant p ≡ true
    → FewElements (cond b (log_parm iant (nel_of p) (design_of p) (rlambda_of p) (beta_of p)) no_elements).elements
unfolding log_parm elements no_elements
by-type iant p true e h =
    let tau = taper (design_of p) (nel_of p) in
    let t = layout iant (design_of p) (nel_of p) tau (boom (design_of p)) in
    let few = active_few (band (design_of p).z0 (rlambda_of p) t.sigma tau) t.rl (nel_of p) in
    let n = (nel_bounds iant p e h).1 in
    record { nat = omega (arith, few.nat, n); iek = λ k. omega (arith, few.iek k, n) }
by-type iant p false e h = record { nat = omega arith; iek = zeros-small 36 30 }

elements_few : (iant : ℕ) (p : List Float) → slots_ok iant p ≡ true → FewElements (elements_of iant p).elements
unfolding elements_of
elements_few iant p h = by-type iant p (log_periodic iant) refl h

pub set_up_counts : (p : List Float) (size : ℕ) {a : Antenna} {n : ℕ} → set_up_of p size ≡ accepted (a, n) → CountsAreWords a
unfolding model_of
set_up_counts p size {a} h =
    let iant = jant_of (slot p 1) in
    let limits = accepted_limits iant p size (accepted_only_when p size h).limits in
    let few : FewElements a.model.elements = subst (λ m. FewElements m.elements) (sym (accepted_model p size h)) (elements_few iant p limits.0) in
    record { nat = omega (arith, few.nat); iek = λ k. omega (arith, few.iek k) }

pub set_up_in_words : (p : List Float) (size : ℕ) {a : Antenna} {n : ℕ} → set_up_of p size ≡ accepted (a, n) → Held a → antenna_in (antenna_words a) ≡ a
set_up_in_words p size {a} h held = antenna_in_words a held (set_up_counts p size h)
