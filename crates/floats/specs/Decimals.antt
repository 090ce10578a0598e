-- The literals of definitions with the decimals that the source writes for them: each is the binary32 number nearest to its decimal.
use Rattle.std.specs.Prelude.{ℕ, ◌^◌, Bool, true, false, ◌&&◌, ◌≡◌, refl, List, [], ◌∷◌, eqb, Float}
use Rattle.std.specs.Float.{binary32}
use Rattle.std.specs.Float.Ieee.{round, of_bits, to_bits}
use Rattle.floats.specs.Literals.{half, one, two, three, four, ten, twenty, thirty, thirty_one, sixty_four, ninety, n180, n1000, p1}

-- the decimal n / 10 ^ places, and the float that stands for it
pub record Literal : Type 0 where
  pub n : ℕ
  pub places : ℕ
  pub value : Float

abbrev pub written : ℕ → ℕ → Float → Literal
written n places value = record { n = n; places = places; value = value }

unfoldable pub nearest : Literal → Bool
nearest l = eqb (to_bits binary32 (round binary32 false l.n (10 ^ l.places))) (to_bits binary32 l.value)

unfoldable pub all_nearest : List Literal → Bool
all_nearest [] = true
all_nearest (l ∷ ls) = nearest l && all_nearest ls

pub literals_nearest :
    all_nearest
    (written 5 1 half ∷ written 1 0 one ∷ written 2 0 two ∷ written 3 0 three ∷ written 4 0 four ∷ written 10 0 ten ∷ written 20 0 twenty
    ∷ written 30 0 thirty ∷ written 31 0 thirty_one ∷ written 64 0 sixty_four ∷ written 90 0 ninety ∷ written 180 0 n180 ∷ written 1000 0 n1000
    ∷ written 31415927 7 p1 ∷ [])
    ≡ true
unfolding nearest all_nearest round of_bits to_bits
literals_nearest = refl
