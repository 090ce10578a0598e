-- Each entry of a pass is `gainrel`'s answer in that direction.
use Prim.Native.Nat.{ℕ, suc, ◌≤◌, ◌<◌}
use mathlib.Core.Path.{◌≡◌}
use mathlib.Core.List.{List}
use native.Mathlib.Omega.{arith}
use lib.ListN.{get_or}
use lib.Ieee.{Float, nan}
use Rattle.floats.specs.Ops.{count}
use Rattle.floats.proofs.Filled.{filled_at}
use Rattle.model.specs.declared.record.Model.{Model}
use Rattle.pattern.specs.Gainrel.{gain_rel}
use Rattle.pattern.specs.Passes.{gains_around, gains_up}

module _ (m : Model) (t : List Float) where
  pub around_at : (u : Float) (n v : ℕ) → n ≤ 360 → v < n → get_or (gains_around m t u n) v nan ≡ gain_rel m t u (count v)
  around_at u n v h l = filled_at (λ (x : ℕ). gain_rel m t u (count x)) 360 n v h l

  pub up_at : (v : Float) (i : ℕ) → i < 90 → get_or (gains_up m t v 90) i nan ≡ gain_rel m t (count (suc i)) v
  up_at v i l = filled_at (λ (x : ℕ). gain_rel m t (count (suc x)) v) 90 90 i (omega arith) l
