-- Document 02, card 6: what the greatest of a row's entries is. Definitions only; proofs/Greatest.antt has the laws.
use Rattle.std.specs.Prelude.{ℕ, ◌≤◌, ◌≡◌, false, List, Float}
use Rattle.std.specs.Float.Ieee.{lt}
use Rattle.floats.specs.Ops.{at}

-- g is the entry at one of the azimuths `first` to `last`, and none of theirs is above it
pub record IsGreatest (row : List Float) (first last : ℕ) (g : Float) : Type 0 where
  pub place : ℕ
  pub from : first ≤ place
  pub to : place ≤ last
  pub there : g ≡ at row place
  pub none_above : (v : ℕ) → first ≤ v → v ≤ last → lt g (at row v) ≡ false
