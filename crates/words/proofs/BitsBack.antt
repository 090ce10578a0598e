-- Floats as words and back. Assumes nothing.
use mathlib.Core.Path.{◌≡◌, refl}
use mathlib.Core.List.{List, [], ◌∷◌}
use Prim.Native.Nat.{suc}
use lib.Ieee.{Float, binary32}
use lib.Ieee.Bits.{of_bits-to_bits}
use Rattle.words.specs.Patterns.{bits, floats, F32s}

pub bits_back : (xs : List Float) → F32s xs → floats (bits xs) ≡ xs
bits_back [] h = refl
bits_back (x ∷ xs) h = rw (of_bits-to_bits binary32 x (h 0), bits_back xs (λ i. h (suc i)))
