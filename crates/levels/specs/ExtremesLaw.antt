-- Document 02, card 13: what the greatest and the least of a run's tail are, and which of two that tie stands.
-- Definitions only; proofs/ExtremesLaw.antt has the theorem.
use Rattle.std.specs.Prelude.{◌≡◌, Bool, true, false, List, [], ◌∷◌, ◌++◌, length, Some, Float}
use Rattle.std.specs.Float.Ieee.{lt}
use Rattle.levels.specs.declared.Levels.{Levels}
use Rattle.levels.specs.Shown.{screen_of}
use Rattle.levels.specs.Run.{counted, tail}

pub data Each (P : Float → Type 0) : List Float → Type 0 where
  none : Each P []
  also : {x : Float} {xs : List Float} → P x → Each P xs → Each P (x ∷ xs)

-- x is one of the levels: it beats each that was received earlier, and none that was received later beats it
pub record Stands (beats : Float → Float → Bool) (l : List Float) (x : Float) : Type 0 where
  pub earlier : List Float
  pub later : List Float
  pub among : l ≡ earlier ++ x ∷ later
  pub beaten : Each (λ y. beats x y ≡ true) earlier
  pub unbeaten : Each (λ y. beats y x ≡ false) later

abbrev pub above : Float → Float → Bool
above x y = lt y x

abbrev pub under : Float → Float → Bool
under x y = lt x y

pub record ExtremesLaw : Type 0 where
  -- what is shown of a run: how many its tail has, and the levels that stand in it
  pub shown : (xs : List Float) (l : Levels) → screen_of (tail (counted xs)) ≡ Some l
      → (l.held ≡ length (tail (counted xs))) × Stands above (tail (counted xs)) l.greatest × Stands under (tail (counted xs)) l.least
  -- and no other level stands
  pub only : (beats : Float → Float → Bool) (l : List Float) (x y : Float) → Stands beats l x → Stands beats l y → x ≡ y
