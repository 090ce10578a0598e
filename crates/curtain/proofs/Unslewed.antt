-- Demand 3 for the curtain: one whose rounded slew is -3 to 3 answers alike at an azimuth and at its negative.
use mathlib.Core.Path.{◌≡◌, refl}
use mathlib.Core.Bool.{false}
use mathlib.Core.List.{List, [], ◌∷◌}
use Prim.Native.Nat.{ℕ, zero, suc, ◌≤◌}
use native.Mathlib.Omega.{arith}
use lib.IntN.{ℤ, pos, negsuc, nat_abs}
use lib.ListN.{get_or, set, replicate}
use lib.Ieee.{Float, nan, binary32, neg, of_bits, of_int}
use Rattle.floats.specs.Ops.{◌⊗◌, +0, +0_is}
use Rattle.floats.specs.Opposite.{Opposite, negated, zeros}
use Rattle.floats.proofs.Finite.{finite-neg}
use Rattle.floats.proofs.Negation.{mul-neg-left}
use Rattle.floats.proofs.Opposites.{mul_opposite_right}
use Rattle.curtain_pattern.specs.Literals.{D2R}
use Rattle.curtain_parameters.specs.Excitation.{phase_at, slew_step, signed, bayphs}
use Rattle.floats.specs.Filled.{filled_to}
use Rattle.curtain_parameters.specs.Pattrn0.{islew_of, nbs_of, odrat_of, bay_phases, curtain_of}
use Rattle.curtain.specs.Level.{level_at, level_of}
use Rattle.curtain.specs.Answers.{refusal_of, curtain_gain}
use Rattle.curtain_pattern.proofs.Mirror.{Unphased, f2-mirror, iaz-neg, folded-neg}

-- ---- the slew step is 0 just when the rounded slew is -3 to 3

pub step-zero : (islew : ℤ) → nat_abs islew ≤ 3 → slew_step islew ≡ 0
unfolding slew_step
step-zero islew h = omega arith

pub step-zero-only : (islew : ℤ) → slew_step islew ≡ 0 → nat_abs islew ≤ 3
unfolding slew_step
step-zero-only islew h = omega arith

-- ---- its bays have no phase

-- every entry of the table is its own opposite, and so is what is read past its end
abbrev Selves : List Float → Type 0
Selves xs = (i : ℕ) → Opposite (get_or xs i nan) (get_or xs i nan)

plus-zero : Opposite +0 +0
plus-zero = zeros false false +0_is +0_is

selves_replicate : (n : ℕ) → Selves (replicate n +0)
unfolding neg
selves_replicate zero i = negated refl
selves_replicate (suc n) zero = plus-zero
selves_replicate (suc n) (suc i) = selves_replicate n i

selves_set : (xs : List Float) (n : ℕ) (v : Float) → Opposite v v → Selves xs → Selves (set xs n v)
selves_set [] n v o s i = s i
selves_set (x ∷ xs) zero v o s zero = o
selves_set (x ∷ xs) zero v o s (suc i) = s (suc i)
selves_set (x ∷ xs) (suc n) v o s zero = s zero
selves_set (x ∷ xs) (suc n) v o s (suc i) = selves_set xs n v o (λ (j : ℕ). s (suc j)) i

zero_row : (n i : ℕ) → get_or (replicate n zero) i 0 ≡ 0
zero_row zero i = refl
zero_row (suc n) zero = refl
zero_row (suc n) (suc i) = zero_row n i

first-row : (i : ℕ) → phase_at 0 i ≡ 0
unfolding phase_at
first-row i = zero_row 14 i

no_phase : (islew : ℤ) → of_int binary32 (signed islew 0) ≡ +0
unfolding of_int of_bits
no_phase (pos n) = refl
no_phase (negsuc n) = refl

bayphs-zero : (islew : ℤ) (i : ℕ) → nat_abs islew ≤ 3 → bayphs islew i ≡ +0
unfolding bayphs
bayphs-zero islew i h = rw (step-zero islew h, first-row i) (no_phase islew)

filled_selves : (v : ℕ → Float) (size : ℕ) → ((i : ℕ) → Opposite (v i) (v i)) → (n : ℕ) → Selves (filled_to v size n)
unfolding filled_to
filled_selves v size o zero = selves_replicate size
filled_selves v size o (suc n) = selves_set (filled_to v size n) n (v n) (o n) (filled_selves v size o n)

module _ (parm : List Float) (h : nat_abs (islew_of parm) ≤ 3) where
  phase-zero : (i : ℕ) → let p = odrat_of parm ⊗ bayphs (islew_of parm) i in Opposite p p
  phase-zero i = rw (bayphs-zero (islew_of parm) i h) (mul_opposite_right binary32 (odrat_of parm) plus-zero)

  unphased : Unphased (curtain_of parm)
  unfolding curtain_of bay_phases
  unphased = filled_selves (λ (i : ℕ). odrat_of parm ⊗ bayphs (islew_of parm) i) 14 phase-zero (nbs_of parm)

-- ---- so it answers alike

module _ (parm : List Float) (h : nat_abs (islew_of parm) ≤ 3) (azimd elevd gnorm : Float) where
  level-mirror : level_of parm (neg azimd) elevd gnorm ≡ level_of parm azimd elevd gnorm
  unfolding level_of level_at
  level-mirror =
      rw (mul-neg-left, iaz-neg, ← f2-mirror (curtain_of parm) (unphased parm h) (elevd ⊗ D2R) (folded-neg (azimd ⊗ D2R)))

  refusal_mirror : refusal_of parm (neg azimd) elevd gnorm ≡ refusal_of parm azimd elevd gnorm
  unfolding refusal_of
  refusal_mirror = rw finite-neg

  -- refusals and levels alike, whatever the other slots, the factor and the elevation
  pub curtain-mirror : curtain_gain parm azimd elevd gnorm ≡ curtain_gain parm (neg azimd) elevd gnorm
  unfolding curtain_gain
  curtain-mirror = rw (refusal_mirror, level-mirror)
