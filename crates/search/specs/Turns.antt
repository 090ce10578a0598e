-- The passes of `Search` turn by turn, as the code's loops go. Definitions only; proofs/gainorm/Turns.antt says that they are the same.
use Rattle.std.specs.Prelude.{ℕ, zero, suc, List, Float}
use Rattle.floats.specs.Ops.{count}
use Rattle.model.specs.declared.record.Model.{Model}
use Rattle.pattern.specs.Gainrel.{gain_rel}
use Rattle.search.specs.Search.{azmax_read, sweep_read, elevation_read}
use Rattle.search.specs.declared.gainorm.Azimuths.{Azimuths}
use Rattle.search.specs.declared.gainorm.Elevations.{Elevations}

-- n turns of a loop
unfoldable pub turns : (Azimuths → Azimuths) → Azimuths → ℕ → Azimuths
turns f s zero = s
turns f s (suc n) = f (turns f s n)

unfoldable pub azmax_turn : Model → List Float → Float → Float → Azimuths → Azimuths
azmax_turn m t u vm s = azmax_read s vm (gain_rel m t u s.v)

unfoldable pub sweep_turn : Model → List Float → Float → Azimuths → Azimuths
sweep_turn m t u s = sweep_read s (gain_rel m t u s.v)

-- elevations 1 to n at azimuth v
unfoldable pub elevations_to : Model → List Float → Float → Elevations → ℕ → Elevations
elevations_to m t v e zero = e
elevations_to m t v e (suc n) = let u = count (suc n) in elevation_read (elevations_to m t v e n) u (gain_rel m t u v)
