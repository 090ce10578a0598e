-- Document 02, card 1: many directions answer as the single call does at each of them, and what they cost.
use Prim.Native.Nat.{ℕ, zero, suc, ◌+◌, ◌*◌, ◌/◌, ◌≤◌, ◌<◌}
use mathlib.Core.Path.{◌≡◌, refl, sym, ap, ◌∙◌}
use mathlib.Core.Bool.{Bool, true, false, cond, not, ◌&&◌}
use mathlib.Core.List.{List, [], ◌∷◌}
use native.Mathlib.Omega.{arith}
use borrow.Author.Tests.{ltb-false}
use lib.Dec.{ltb}
use lib.IntN.{nat_abs}
use lib.ListN.{length}
use lib.Ieee.{Float, neg, eq}
use lib.Ieee.Scale.{finite}
use Rattle.floats.specs.Ops.{at}
use Rattle.answers.specs.Outcome.{Outcome, refused, accepted}
use Rattle.answers.specs.Refusals.{VALUE, SPACE}
use Rattle.answers.proofs.Outcome.{passed}
use Rattle.curtain_pattern.specs.Literals.{n99999}
use Rattle.curtain_parameters.specs.Pattrn0.{curtain_of, islew_of}
use Rattle.curtain.specs.Level.{factor_of, factor_readings, level_of}
use Rattle.curtain.specs.Answers.{station_refusal_of, refusal_of, curtain_gain}
use Rattle.curtain.specs.Levels.{Taken, azimuth_of, elevation_of, pair_of, pair_at, in_order, space_ok, levels_of, mirrored}
use Rattle.curtain.proofs.InOrder.{in_order_same, in_order_levels, in_order_refused}
use Rattle.curtain.proofs.FactorReadings.{factor-readings}
use Rattle.curtain.proofs.Unslewed.{curtain-mirror}

-- ---- pair by pair, the single call

-- the single call at pair k
abbrev pub gain_at : List Float → Float → List Float → ℕ → Outcome Float
gain_at parm gnorm directions k = curtain_gain parm (azimuth_of directions k) (elevation_of directions k) gnorm

module _ (parm : List Float) (gnorm : Float) where
  pair_gain : station_refusal_of parm gnorm ≡ 0 → (azimd elevd : Float)
      → pair_of (curtain_of parm) (factor_of (curtain_of parm) gnorm) azimd elevd ≡ curtain_gain parm azimd elevd gnorm
  unfolding pair_of curtain_gain refusal_of level_of
  pair_gain e azimd elevd = rw e (go (not (finite azimd && finite elevd)) _)
    where
      go : (b : Bool) (x : Outcome Float) → cond b (refused VALUE) x ≡ cond (ltb 0 (cond b VALUE 0)) (refused (cond b VALUE 0)) x
      go true x = refl
      go false x = refl

  -- the whole call, refusals included, is the single call's answers in order
  module _ (directions : List Float) (space : ℕ) where
    abbrev pub answers_by : (ℕ → Outcome Float) → Bool → Outcome Taken
    answers_by pair b =
        cond b (refused (station_refusal_of parm gnorm))
        (cond (not (space_ok (length directions) space)) (refused SPACE)
        (in_order pair (factor_readings (curtain_of parm) gnorm) (length directions / 2)))

    pub by_gains : levels_of parm gnorm directions space ≡ answers_by (gain_at parm gnorm directions) (ltb 0 (station_refusal_of parm gnorm))
    unfolding levels_of pair_at
    by_gains = go (ltb 0 (station_refusal_of parm gnorm)) refl
      where
        go : (b : Bool) → ltb 0 (station_refusal_of parm gnorm) ≡ b
            → answers_by (pair_at (curtain_of parm) (factor_of (curtain_of parm) gnorm) directions) b ≡ answers_by (gain_at parm gnorm directions) b
        go true e = refl
        go false e =
            let le = ltb-false 0 (station_refusal_of parm gnorm) e in
            let none : station_refusal_of parm gnorm ≡ 0 = omega arith in
            rw (in_order_same (λ k. pair_gain none (azimuth_of directions k) (elevation_of directions k)) (factor_readings (curtain_of parm) gnorm) (length directions / 2))

    -- ---- an accepted call

    module _ {t : Taken} (ok : levels_of parm gnorm directions space ≡ accepted t) where
      in_order_lem : in_order (gain_at parm gnorm directions) (factor_readings (curtain_of parm) gnorm) (length directions / 2) ≡ accepted t
      in_order_lem =
          (passed (not (space_ok (length directions) space)) SPACE _
          (passed (ltb 0 (station_refusal_of parm gnorm)) (station_refusal_of parm gnorm) _ (sym by_gains ∙ ok)).1).1

      -- a level for each pair, and each is the single call's there
      pub level-count : length t.0 ≡ length directions / 2
      level-count = (in_order_levels _ _ (length directions / 2) in_order_lem).0

      pub each_level : (k : ℕ) → k < length directions / 2 → curtain_gain parm (azimuth_of directions k) (elevation_of directions k) gnorm ≡ accepted (at t.0 k)
      each_level = (in_order_levels _ _ (length directions / 2) in_order_lem).2

      -- one reading a pair, and 16,471 more where the factor is asked for
      pub readings-taken : t.1 ≡ cond (eq gnorm (neg n99999)) 16471 0 + length directions / 2
      readings-taken = (in_order_levels _ _ (length directions / 2) in_order_lem).1 ∙ rw factor-readings

    -- ---- a refused pair

    -- of a station and a space that are right: the number is that of the single call at the first pair that it refuses
    pub first-refused : {n : ℕ} → station_refusal_of parm gnorm ≡ 0 → space_ok (length directions) space ≡ true → levels_of parm gnorm directions space ≡ refused n
        → (k : ℕ) × ((k < length directions / 2) × (gain_at parm gnorm directions k ≡ refused n)
        × ((j : ℕ) → j < k → (x : Float) × (gain_at parm gnorm directions j ≡ accepted x)))
    first-refused station room e =
        in_order_refused _ _ (length directions / 2) (rw (station, room) at (sym by_gains ∙ e))

-- ---- the mirror law carries over

mirrored-length : (directions : List Float) → length (mirrored directions) ≡ length directions
unfolding mirrored
mirrored-length [] = refl
mirrored-length (azimuth ∷ []) = refl
mirrored-length (azimuth ∷ elevation ∷ rest) = ap (λ (n : ℕ). suc (suc n)) (mirrored-length rest)

-- pair k of the rest is pair k + 1
twice : (k : ℕ) → 2 * suc k ≡ suc (suc (2 * k))
twice k = omega arith

twice-more : (k : ℕ) → 2 * suc k + 1 ≡ suc (suc (2 * k + 1))
twice-more k = omega arith

mirrored_azimuth : (directions : List Float) (k : ℕ) → azimuth_of (mirrored directions) k ≡ neg (azimuth_of directions k)
unfolding mirrored neg
mirrored_azimuth [] k = refl
mirrored_azimuth (azimuth ∷ []) zero = refl
mirrored_azimuth (azimuth ∷ []) (suc k) = rw twice
mirrored_azimuth (azimuth ∷ elevation ∷ rest) zero = refl
mirrored_azimuth (azimuth ∷ elevation ∷ rest) (suc k) = rw twice (mirrored_azimuth rest k)

mirrored-elevation : (directions : List Float) (k : ℕ) → elevation_of (mirrored directions) k ≡ elevation_of directions k
unfolding mirrored
mirrored-elevation [] k = refl
mirrored-elevation (azimuth ∷ []) zero = refl
mirrored-elevation (azimuth ∷ []) (suc k) = rw twice-more
mirrored-elevation (azimuth ∷ elevation ∷ rest) zero = refl
mirrored-elevation (azimuth ∷ elevation ∷ rest) (suc k) = rw twice-more (mirrored-elevation rest k)

-- a curtain whose rounded slew is -3 to 3 answers alike with every azimuth negated: levels, readings and refusals
pub levels_mirror : (parm : List Float) → nat_abs (islew_of parm) ≤ 3 → (gnorm : Float) (directions : List Float) (space : ℕ)
    → levels_of parm gnorm directions space ≡ levels_of parm gnorm (mirrored directions) space
levels_mirror parm h gnorm directions space =
    by_gains parm gnorm directions space
    ∙ (rw (in_order_same alike (factor_readings (curtain_of parm) gnorm) (length directions / 2), ← mirrored-length directions))
    ∙ sym (by_gains parm gnorm (mirrored directions) space)
  where
    alike : (k : ℕ) → gain_at parm gnorm directions k ≡ gain_at parm gnorm (mirrored directions) k
    alike k = rw (mirrored_azimuth, mirrored-elevation) (curtain-mirror parm h (azimuth_of directions k) (elevation_of directions k) gnorm)
