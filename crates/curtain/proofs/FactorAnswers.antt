-- A curtain asked with the factor that its integral finds answers what it answers with -99999.
use Prim.Native.Nat.{ℕ}
use mathlib.Core.Path.{◌≡◌, refl, sym, ◌∙◌}
use mathlib.Core.Bool.{Bool, true, false, cond}
use mathlib.Core.List.{List}
use native.Mathlib.Omega.{arith}
use lib.Dec.{ltb}
use lib.Ieee.{Float, neg, eq, of_bits}
use lib.Ieee.Scale.{finite}
use Rattle.answers.specs.Outcome.{refused, accepted}
use Rattle.answers.specs.Refusals.{LEVEL}
use Rattle.answers.proofs.Outcome.{passed, same}
use Rattle.floats.specs.Ops.{◌⊗◌, ◌⊘◌}
use Rattle.floats.specs.Literals.{four}
use Rattle.curtain_pattern.specs.Literals.{PI, n99999}
use Rattle.curtain_pattern.specs.Integral.{integral}
use Rattle.curtain.specs.Level.{factor_of, level_of}
use Rattle.curtain_parameters.specs.Pattrn0.{curtain_of}
use Rattle.curtain.specs.Answers.{station_finite, station_refusal_of, refusal_of, graded, curtain_gain}
use Rattle.curtain.specs.Factor.{factor_found}
use Rattle.curtain_pattern.specs.declared.pattern.Curtain.{Curtain}

-- an accepted number is the one asked for, and finite
graded-number : (x : Float) {y : Float} → graded x ≡ accepted y → (x ≡ y) × (finite x ≡ true)
unfolding graded
graded-number x {y} h = go (finite x) h
  where
    go : (b : Bool) → cond b (accepted x) (refused LEVEL) ≡ accepted y → (x ≡ y) × (b ≡ true)
    go true h = (same h, refl)
    go false h = let z : ◌≡◌ {A = ℕ} 0 1 = cc in absurd (omega arith)

asked_finite : finite (neg n99999) ≡ true
unfolding neg of_bits
asked_finite = refl

integrated : (ant : Curtain) → factor_of ant (neg n99999) ≡ four ⊗ PI ⊘ integral ant
unfolding factor_of neg of_bits eq
integrated ant = refl

-- the factor that the integral finds, asked with, is itself: also where it is -99999
kept : (ant : Curtain) → factor_of ant (four ⊗ PI ⊘ integral ant) ≡ four ⊗ PI ⊘ integral ant
unfolding factor_of
kept ant = either (eq (four ⊗ PI ⊘ integral ant) (neg n99999))
  where
    either : (b : Bool) {x : Float} → cond b x x ≡ x
    either true = refl
    either false = refl

module _ (p : List Float) {x : Float} (found : factor_found p ≡ accepted x) where
  factor-is : (factor_of (curtain_of p) (neg n99999) ≡ x) × (finite x ≡ true)
  unfolding factor_found
  factor-is = let g = graded-number _ (passed (ltb 0 (station_refusal_of p (neg n99999))) _ _ found).1 in (g.0, rw g.0 at g.1)

  same-factor : factor_of (curtain_of p) x ≡ factor_of (curtain_of p) (neg n99999)
  same-factor = let e = sym (integrated (curtain_of p)) ∙ factor-is.0 in rw (integrated, ← e) (kept (curtain_of p))

  pub factor_answers : (azimd elevd : Float) → curtain_gain p azimd elevd x ≡ curtain_gain p azimd elevd (neg n99999)
  unfolding curtain_gain refusal_of station_refusal_of station_finite level_of
  factor_answers azimd elevd = simp (factor-is.1, asked_finite, same-factor)
