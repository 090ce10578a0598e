-- What the stacks and the bays are fed with: the source's `IVMA` and `IPHASE`. Definitions only.
use Rattle.std.specs.Prelude.{ℕ, ◌-◌, ◌/◌, min, List, [], ◌∷◌, ℤ, pos, negsuc, neg_ℤ, nat_abs, get_or, Float}
use Rattle.std.specs.Float.{nan, binary32}
use Rattle.std.specs.Float.Ieee.{neg, of_int}
use Rattle.floats.specs.Ops.{+0}
use Rattle.floats.specs.Literals.{one}

-- a sign of `IVMA`, as the number that it stands for
abbrev p : Float
p = one

abbrev m : Float
m = neg one

abbrev o : Float
o = +0

-- `IVMA`: for each vertical excitation mode, from 1 on, a sign for each pair of stacks
abbrev pub IVMA : List (List Float)
IVMA =
    (p ∷ o ∷ o ∷ o ∷ [])
    ∷ (o ∷ p ∷ o ∷ o ∷ [])
    ∷ (o ∷ o ∷ p ∷ o ∷ [])
    ∷ (p ∷ p ∷ o ∷ o ∷ [])
    ∷ (p ∷ o ∷ p ∷ o ∷ [])
    ∷ (o ∷ p ∷ p ∷ o ∷ [])
    ∷ (p ∷ m ∷ o ∷ o ∷ [])
    ∷ (p ∷ o ∷ m ∷ o ∷ [])
    ∷ (o ∷ p ∷ m ∷ o ∷ [])
    ∷ (p ∷ p ∷ p ∷ o ∷ [])
    ∷ (p ∷ p ∷ m ∷ o ∷ [])
    ∷ (p ∷ m ∷ p ∷ o ∷ [])
    ∷ (p ∷ m ∷ m ∷ o ∷ [])
    ∷ (p ∷ p ∷ p ∷ p ∷ [])
    ∷ (p ∷ p ∷ m ∷ m ∷ [])
    ∷ []

-- `stkrat`, of stack i: two stacks to a pair
unfoldable pub stkrat : ℕ → ℕ → Float
stkrat mode i = get_or (get_or IVMA (mode - 1) []) (i / 2) nan

-- `IPHASE`: for each slew step the phases of the 14 bays, in degrees
abbrev pub IPHASE : List (List ℕ)
IPHASE =
    (0 ∷ 0 ∷ 0 ∷ 0 ∷ 0 ∷ 0 ∷ 0 ∷ 0 ∷ 0 ∷ 0 ∷ 0 ∷ 0 ∷ 0 ∷ 0 ∷ [])
    ∷ (0 ∷ 0 ∷ 31 ∷ 31 ∷ 0 ∷ 77 ∷ 77 ∷ 109 ∷ 109 ∷ 0 ∷ 155 ∷ 155 ∷ 186 ∷ 186 ∷ [])
    ∷ (0 ∷ 47 ∷ 56 ∷ 103 ∷ 0 ∷ 139 ∷ 185 ∷ 195 ∷ 242 ∷ 0 ∷ 278 ∷ 324 ∷ 334 ∷ 381 ∷ [])
    ∷ (0 ∷ 47 ∷ 81 ∷ 128 ∷ 0 ∷ 200 ∷ 246 ∷ 281 ∷ 327 ∷ 0 ∷ 399 ∷ 446 ∷ 480 ∷ 527 ∷ [])
    ∷ (0 ∷ 47 ∷ 105 ∷ 152 ∷ 0 ∷ 260 ∷ 306 ∷ 365 ∷ 411 ∷ 0 ∷ 519 ∷ 566 ∷ 624 ∷ 671 ∷ [])
    ∷ (0 ∷ 47 ∷ 129 ∷ 176 ∷ 0 ∷ 318 ∷ 365 ∷ 447 ∷ 494 ∷ 0 ∷ 636 ∷ 683 ∷ 765 ∷ 812 ∷ [])
    ∷ (0 ∷ 90 ∷ 152 ∷ 242 ∷ 0 ∷ 375 ∷ 465 ∷ 527 ∷ 617 ∷ 0 ∷ 750 ∷ 840 ∷ 903 ∷ 993 ∷ [])
    ∷ (0 ∷ 90 ∷ 180 ∷ 270 ∷ 0 ∷ 444 ∷ 534 ∷ 624 ∷ 714 ∷ 0 ∷ 888 ∷ 978 ∷ 1068 ∷ 1158 ∷ [])
    ∷ []

unfoldable pub phase_at : ℕ → ℕ → ℕ
phase_at step i = get_or (get_or IPHASE step []) i 0

-- the slew step, `kslew` - 1: one for each 4 degrees, at most 7
unfoldable pub slew_step : ℤ → ℕ
slew_step islew = min (nat_abs islew / 4) 7

-- a phase is positive for a slew below 0, and negated otherwise, as a whole number: 0 stays +0
abbrev pub signed : ℤ → ℕ → ℤ
signed (pos n) phase = neg_ℤ (pos phase)
signed (negsuc n) phase = pos phase

-- `bayphs`, of bay i
unfoldable pub bayphs : ℤ → ℕ → Float
bayphs islew i = of_int binary32 (signed islew (phase_at (slew_step islew) i))
