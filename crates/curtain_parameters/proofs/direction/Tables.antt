-- What is worked out without tables is what the tables give.
use Prim.Native.Nat.{ℕ, zero, suc, ◌≤◌, ◌<◌}
use mathlib.Core.Path.{◌≡◌, refl, ◌∙◌}
use mathlib.Core.Bool.{false}
use native.Mathlib.Omega.{arith}
use borrow.Author.Tests.{ne_eqb}
use lib.Dec.{eqb}
use lib.ListN.{get_or, length}
use lib.Seq.{get_or-set_same, get_or-set_other}
use mathlib.Core.List.{List}
use lib.Ieee.{Float, nan}
use Rattle.sine.specs.Sine.{cosine}
use Rattle.floats.specs.Ops.{◌⊕◌, ◌⊗◌, ◌⊘◌, count, +0}
use Rattle.floats.specs.Literals.{one, two}
use Rattle.floats.specs.Filled.{filled_to}
use Rattle.floats.proofs.Filled.{filled-length, filled_at}
use Rattle.curtain_parameters.specs.Excitation.{stkrat, bayphs}
use Rattle.curtain_pattern.specs.Pattern.{arg, bay_cosines, bay_sines, bay_power, stack_sines}
use Rattle.curtain_parameters.specs.Pattrn0.{nostak_of, nbs_of, mode_of, islew_of, lengths_of, odrat_of, stack_ratios, stack_heights, bay_phases, bay_ratios, bay_places, curtain_of}
use Rattle.curtain_parameters.specs.DirectionSteps.{place_of, arg_of, bay_cosines_of, bay_sines_of, bay_power_of, stack_sines_of}

place_at : (xb : Float) (n i : ℕ) → n ≤ 14 → i < n → get_or (bay_places xb n) i nan ≡ place_of xb i
unfolding bay_places place_of
place_at xb n zero h l =
    let places = filled_to (λ (ib : ℕ). count ib ⊗ xb) 14 n in
    let inside : 0 < length places = rw (filled-length (λ (ib : ℕ). count ib ⊗ xb) 14 n) (omega arith) in
    get_or-set_same places 0 +0 nan inside
place_at xb n (suc i) h l =
    let away : eqb (suc i) 0 ≡ false = ne_eqb (suc i) 0 (λ (e : suc i ≡ 0). omega arith) in
    rw away
    (get_or-set_other (filled_to (λ (ib : ℕ). count ib ⊗ xb) 14 n) 0 (suc i) +0 nan (λ (e : suc i ≡ 0). omega arith)
    ∙ filled_at (λ (ib : ℕ). count ib ⊗ xb) 14 n (suc i) h l)

module _ (parm : List Float) where
  few_bays : nbs_of parm ≤ 14
  unfolding nbs_of
  few_bays = omega arith

  nbs_is : (curtain_of parm).nbs ≡ nbs_of parm
  unfolding curtain_of
  nbs_is = refl

  few_stacks : nostak_of parm ≤ 8
  unfolding nostak_of
  few_stacks = omega arith

  nostak_is : (curtain_of parm).nostak ≡ nostak_of parm
  unfolding curtain_of
  nostak_is = refl

  pub eil_is : (curtain_of parm).eil ≡ (lengths_of parm).el ⊘ two
  unfolding curtain_of
  eil_is = refl

  pub ceil_is : (curtain_of parm).ceil ≡ cosine (curtain_of parm).eil
  unfolding curtain_of
  ceil_is = refl

  pub xr_is : (curtain_of parm).xr ≡ (lengths_of parm).xr
  unfolding curtain_of
  xr_is = refl

  module _ (cpsi : Float) where
    arg-at : (i : ℕ) → i < nbs_of parm → arg (curtain_of parm) cpsi i ≡ arg_of (odrat_of parm) (islew_of parm) (lengths_of parm).xb cpsi i
    unfolding arg arg_of curtain_of bay_phases
    arg-at i l = rw (place_at (lengths_of parm).xb (nbs_of parm) i few_bays l, filled_at (λ (ib : ℕ). odrat_of parm ⊗ bayphs (islew_of parm) ib) 14 (nbs_of parm) i few_bays l)

    ratio-at : (i : ℕ) → i < nbs_of parm → get_or (curtain_of parm).r i nan ≡ one
    unfolding curtain_of bay_ratios
    ratio-at i l = filled_at (λ (ib : ℕ). one) 14 (nbs_of parm) i few_bays l

    cosines : (n : ℕ) → n ≤ nbs_of parm → bay_cosines_of (odrat_of parm) (islew_of parm) (lengths_of parm).xb cpsi n ≡ bay_cosines (curtain_of parm) cpsi n
    unfolding bay_cosines bay_cosines_of
    cosines zero h = refl
    cosines (suc n) h = rw (cosines n (omega arith), ratio-at n h, arg-at n h)

    sines : (n : ℕ) → n ≤ nbs_of parm → bay_sines_of (odrat_of parm) (islew_of parm) (lengths_of parm).xb cpsi n ≡ bay_sines (curtain_of parm) cpsi n
    unfolding bay_sines bay_sines_of
    sines zero h = refl
    sines (suc n) h = rw (sines n (omega arith), ratio-at n h, arg-at n h)

    pub bays_in_steps : bay_power_of (odrat_of parm) (islew_of parm) (lengths_of parm).xb cpsi (nbs_of parm) ≡ bay_power (curtain_of parm) cpsi
    unfolding bay_power bay_power_of
    bays_in_steps = rw (cosines (nbs_of parm) (omega arith), sines (nbs_of parm) (omega arith), ← nbs_is)

  module _ (stheta : Float) where
    stacks : (n : ℕ) → n ≤ nostak_of parm → stack_sines_of (mode_of parm) (lengths_of parm).xs (lengths_of parm).xh stheta n ≡ stack_sines (curtain_of parm) stheta n
    unfolding stack_sines stack_sines_of curtain_of stack_ratios stack_heights
    stacks zero h = refl
    stacks (suc n) h =
        rw (
          stacks n (omega arith),
          filled_at (stkrat (mode_of parm)) 8 (nostak_of parm) n few_stacks h,
          filled_at (λ (is : ℕ). (lengths_of parm).xs ⊗ count is ⊕ (lengths_of parm).xh) 8 (nostak_of parm) n few_stacks h,
        )

    pub stacks_in_steps : stack_sines_of (mode_of parm) (lengths_of parm).xs (lengths_of parm).xh stheta (nostak_of parm) ≡ stack_sines (curtain_of parm) stheta (curtain_of parm).nostak
    stacks_in_steps = rw (stacks (nostak_of parm) (omega arith), ← nostak_is)
