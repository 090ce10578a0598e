-- Gain and row of the words that set-up leaves are document 01's of set-up's own record. Assumes nothing.
use mathlib.Core.Path.{◌≡◌}
use mathlib.Core.List.{List}
use Prim.Native.Nat.{ℕ}
use lib.ListN.{length}
use lib.Ieee.{Float}
use Rattle.answers.specs.Outcome.{accepted}
use Rattle.antenna.specs.Gain.{gain_of}
use Rattle.plate_row.specs.Row.{row_of, row_after}
use Rattle.antenna.specs.SetUp.{set_up_of}
use Rattle.antenna.specs.declared.record.Antenna.{Antenna}
use Rattle.antenna_words.specs.Fields.{antenna_words}
use Rattle.antenna_words.specs.Held.{Held}
use Rattle.antenna_words.proofs.RoundTrip.{words-length}
use Rattle.antenna_words.proofs.SetUpWords.{set_up_in_words}
use Rattle.antenna_calls.specs.Antennas.{gain_number, gain_call, row_number, row_call, row_call_after}

module _ (p : List Float) (size : ℕ) (a : Antenna) (n : ℕ) (h : set_up_of p size ≡ accepted (a, n)) (held : Held a) where
  pub gain-after-set-up : (t : List Float) (u v giso : Float) → gain_call (antenna_words a) t u v giso ≡ gain_number (gain_of a t u v giso)
  unfolding gain_call
  gain-after-set-up t u v giso = rw (words-length a held, set_up_in_words p size h held)

  pub row-after-set-up : (t : List Float) (u giso : Float) (lent : List Float)
      → (row_call (antenna_words a) t u giso (length lent) ≡ row_number (row_of a t u giso (length lent))) × (row_call_after (antenna_words a) t u giso lent ≡ row_after a t u giso lent)
  unfolding row_call row_call_after
  row-after-set-up t u giso lent = (rw (words-length a held, set_up_in_words p size h held), rw (words-length a held, set_up_in_words p size h held))
