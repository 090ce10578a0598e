-- The code's steps on its way to the lowest bad kHz: a stretch of kHz that as many rows cover. Definitions only.
use Rattle.std.specs.Prelude.{ℕ, ◌≤◌, ◌<◌, ◌≡◌, List}
use Rattle.bandbook.specs.declared.rows.Row.{Row}
use Rattle.bandbook.specs.Coverage.{covering}

-- an end after the kHz that is no later than another, nor than an edge after the kHz
pub record Nearer (khz edge end nearer : ℕ) : Type 0 where
  pub after : khz < nearer
  pub within : nearer ≤ end
  pub before : khz < edge → nearer ≤ edge

-- from a kHz up to, not including, an end in the span: n rows cover each
pub record Even (rows : List Row) (khz n end : ℕ) : Type 0 where
  pub after : khz < end
  pub inside : end ≤ 30000
  pub same : (j : ℕ) → khz ≤ j → j < end → covering rows j ≡ n
