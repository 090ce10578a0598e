-- A pass over a list of directions is the code's loop, turn by turn.
use Rattle.std.proofs.Common.{◌≡◌, ℕ, zero, suc, ◌+◌, List, sym, refl, ap, ◌∙◌, add-zero, arith}
use lib.Ieee.{Float}
use Rattle.floats.specs.Ops.{◌⊖◌, ◌⊕◌, ◌⊘◌, +0}
use Rattle.floats.specs.Literals.{ten}
use Rattle.model.specs.declared.record.Model.{Model}
use Rattle.pattern.specs.Gainrel.{gain_rel}
use Rattle.search.specs.Literals.{west}
use Rattle.search.specs.Search.{untold, gain_at, read_over, azimuths_from, elevations_after, azmax_read, turns_in, azmax_directions, azmax_of, sweep_read, sweep_directions, sweep_of, elevation_read, elevation_directions, elevations_of}
use Rattle.search.specs.Turns.{turns, azmax_turn, sweep_turn, elevations_to}
use Rattle.search.specs.declared.gainorm.Azimuths.{Azimuths}
use Rattle.search.specs.declared.gainorm.Elevations.{Elevations}
use Rattle.search.specs.declared.gainorm.Tally.{Tally}
use Rattle.search.proofs.gainorm.Readings.{azmax_reads}

-- the first turn apart
turns-first : (f : Azimuths → Azimuths) (s : Azimuths) (n : ℕ) → turns f (f s) n ≡ turns f s (suc n)
unfolding turns
turns-first f s zero = refl
turns-first f s (suc n) = ap f (turns-first f s n)

module _ (m : Model) (t : List Float) where
  -- azimuths vm apart, by a rule that goes on by vm
  module _ (u vm : Float) (rule : Azimuths → Float → Azimuths) (on : (s : Azimuths) (z9 : Float) → (rule s z9).v ≡ s.v ⊕ vm) where
    abbrev turn : Azimuths → Azimuths
    turn s = rule s (gain_rel m t u s.v)

    turned : (n : ℕ) (s : Azimuths) → read_over (λ r d z9. rule r z9) (gain_at m t) s (azimuths_from u s.v vm n) ≡ turns turn s n
    unfolding read_over azimuths_from turns
    turned zero s = refl
    turned (suc n) s =
        ap (λ (v : Float). read_over (λ r d z9. rule r z9) (gain_at m t) (turn s) (azimuths_from u v vm n)) (sym (on s (gain_rel m t u s.v)))
        ∙ turned n (turn s)
        ∙ turns-first turn s n

  pub azmax_turned : (u vmin1 vmax1 vm rmax0 vmax0 : Float) (tally : Tally)
      → azmax_of m t u vmin1 vmax1 vm rmax0 vmax0 tally
      ≡ turns (azmax_turn m t u vm) (record { rmax = rmax0; vmax = vmax0; j = 0; v = vmin1; tally = tally }) (turns_in ((vmax1 ⊖ vmin1 ⊕ vm) ⊘ vm))
  unfolding azmax_of azmax_directions azmax_turn
  azmax_turned u vmin1 vmax1 vm rmax0 vmax0 tally = turned u vm (λ s z9. azmax_read s vm z9) (λ s z9. (azmax_reads s vm z9).next) _ _

  pub sweep_turned : (u vmax : Float)
      → sweep_of m t u vmax ≡ turns (sweep_turn m t u) (record { rmax = +0; vmax = vmax; j = 0; v = west; tally = untold }) 19
  unfolding sweep_of sweep_directions sweep_turn sweep_read
  sweep_turned u vmax = turned u ten sweep_read (λ s z9. refl) 19 _

  module _ (v : Float) (e : Elevations) where
    after : (n k : ℕ)
        → read_over (λ r d z9. elevation_read r d.0 z9) (gain_at m t) (elevations_to m t v e k) (elevations_after v k n) ≡ elevations_to m t v e (k + n)
    unfolding read_over elevations_after elevations_to
    after zero k = ap (λ (i : ℕ). elevations_to m t v e i) (sym (add-zero k))
    after (suc n) k = let one_on : suc k + n ≡ k + suc n = omega arith in after n (suc k) ∙ ap (λ (i : ℕ). elevations_to m t v e i) one_on

    pub elevations_turned : elevations_of m t v e ≡ elevations_to m t v e 90
    unfolding elevations_of elevation_directions elevations_to
    elevations_turned = after 90 0
