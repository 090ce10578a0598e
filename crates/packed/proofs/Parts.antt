-- A part of a list, element by element. Assumes nothing.
use mathlib.Core.Path.{◌≡◌, ◌∙◌}
use mathlib.Core.List.{List}
use Prim.Native.Nat.{ℕ, ◌+◌, ◌≤◌, ◌<◌}
use native.Mathlib.Omega.{arith}
use lib.ListN.{length, get_or, drop, length-drop}
use lib.Seq.{length-take-le, get_or-take, get_or-drop}
use Rattle.words.specs.Patterns.{part}

module _ {A : Type 0} (l : List A) (at n : ℕ) where
  pub part_length : at + n ≤ length l → length (part l at n) ≡ n
  part_length h = length-take-le n (drop at l) (omega (arith, length-drop at l))

  pub part_at : (k : ℕ) (d : A) → k < n → get_or (part l at n) k d ≡ get_or l (at + k) d
  part_at k d h = get_or-take n (drop at l) k d h ∙ get_or-drop at l k d
