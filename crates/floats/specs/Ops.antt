-- Binary32 arithmetic as the code writes it. Definitions only.
use Rattle.std.specs.Prelude.{ℕ, Bool, false, ◌≡◌, refl, List, get_or, pos, Float}
use Rattle.std.specs.Float.{nan, fin, binary32}
use Rattle.std.specs.Float.Ieee.{add, sub, mul, div, of_int, of_bits}

infixl 20 ◌⊕◌
infixl 20 ◌⊖◌
infixl 30 ◌⊗◌
infixl 30 ◌⊘◌
abbrev pub ◌⊕◌ : Float → Float → Float
◌⊕◌ x y = add binary32 x y

abbrev pub ◌⊖◌ : Float → Float → Float
◌⊖◌ x y = sub binary32 x y

abbrev pub ◌⊗◌ : Float → Float → Float
◌⊗◌ x y = mul binary32 x y

abbrev pub ◌⊘◌ : Float → Float → Float
◌⊘◌ x y = div binary32 x y

-- a count as a float
abbrev pub count : ℕ → Float
count n = of_int binary32 (pos n)

-- the zero with the sign s: +0 at false, -0 at true
abbrev pub zero± : Bool → Float
zero± s = fin s 0 (pos 0)

abbrev pub +0 : Float
+0 = of_bits binary32 0

pub +0_is : +0 ≡ zero± false
unfolding of_bits
+0_is = refl

-- an entry of an array
abbrev pub at : List Float → ℕ → Float
at l i = get_or l i nan
