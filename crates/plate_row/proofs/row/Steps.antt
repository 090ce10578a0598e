-- What a row leaves of the lent floats.
use Prim.Native.Nat.{ℕ}
use mathlib.Core.Path.{◌≡◌}
use mathlib.Core.List.{List}
use lib.ListN.{length}
use lib.Ieee.{Float}
use Rattle.answers.specs.Outcome.{refused, accepted}
use Rattle.plate_row.specs.Row.{numbers_of, row_of, written_after, row_after}
use Rattle.antenna.specs.declared.record.Antenna.{Antenna}

module _ (a : Antenna) (t : List Float) (u giso : Float) (lent : List Float) where
  pub refused-row : (n : ℕ) → row_of a t u giso (length lent) ≡ refused n → lent ≡ row_after a t u giso lent
  unfolding row_after written_after
  refused-row n h = rw h

  pub accepted-row : (x : Float) → row_of a t u giso (length lent) ≡ accepted x → numbers_of a t u giso ≡ row_after a t u giso lent
  unfolding row_after written_after
  accepted-row x h = rw h
