-- A count of stacks or bays has its float.
use Prim.Native.Nat.{ℕ, ◌^◌, ◌≤◌}
use native.Mathlib.Omega.{arith}
use lib.Dec.{T, le→leb}
use lib.IntN.{pos}
use lib.Ieee.{binary32, in_float}

pub few : (n : ℕ) → n ≤ 14 → T (in_float binary32 (pos n))
unfolding in_float
few n h = le→leb n (2 ^ 24) (omega arith)
