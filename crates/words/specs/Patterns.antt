-- Floats as words, by their bit patterns. Definitions only.
use Rattle.std.specs.Prelude.{ℕ, List, map, get_or, take, drop, T, Float}
use Rattle.std.specs.Float.{nan, binary32}
use Rattle.std.specs.Float.Ieee.{of_bits, to_bits, fits}

-- floats as words; `to_bits` writes a NaN as 7FC00000
abbrev pub bits : List Float → List ℕ
bits xs = map (to_bits binary32) xs

-- words as floats; `of_bits` reads each NaN pattern as the one NaN
abbrev pub floats : List ℕ → List Float
floats ws = map (of_bits binary32) ws

-- n elements of a list from `at` on
abbrev pub part : {A : Type 0} → List A → ℕ → ℕ → List A
part l at n = take n (drop at l)

-- each is a binary32
abbrev pub F32s : List Float → Type 0
F32s xs = (i : ℕ) → T (fits binary32 (get_or xs i nan))
