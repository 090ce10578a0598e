-- `gainterb`, `gainterp1` and `gainterp` of the source: maximum gains between those that an antenna file lists. Definitions only.
use Rattle.std.specs.Prelude.{ℕ, ◌+◌, ◌-◌, min, Bool, cond, not, List, [], ◌∷◌, ◌==◌, Float}
use Rattle.std.specs.Float.Ieee.{neg, lt, to_unsigned}
use Rattle.floats.specs.Ops.{◌⊕◌, ◌⊖◌, ◌⊗◌, ◌⊘◌, count, at}
use Rattle.floats.specs.Literals.{one, two, thirty}
use Rattle.floats.specs.Ranges.{between}
use Rattle.interpolation.specs.Literals.{n0·7, n1·4, n0·85, n1·2, n28}

-- the whole MHz below freq; 29 at 30
unfoldable pub lower_mhz : Float → ℕ
lower_mhz freq = let idx = to_unsigned 64 freq in cond (idx == 30) 29 idx

-- `gainterb`, by the gains at 1, 2 .. 30 MHz
unfoldable pub gain_ter_b : List Float → Float → Float
gain_ter_b gainab freq =
    let idx = lower_mhz freq in
    let fact = freq ⊖ count idx in
    let lo = at gainab (idx - 1) in
    let hi = at gainab (min idx 29) in
    lo ⊕ (hi ⊖ lo) ⊗ fact

-- `FRS`: the frequency ratios of three gains
unfoldable pub frs : ℕ → List Float
frs iant = cond (iant == 1) (n0·7 ∷ one ∷ n1·4 ∷ []) (n0·85 ∷ one ∷ n1·2 ∷ [])

-- the lower one of the two gains to interpolate between
unfoldable pub ratio_index : Float → ℕ
ratio_index fr = cond (lt fr one) 0 1

-- `gainterp1`, by three gains at one frequency
unfoldable pub gain_terp1 : List Float → Float → ℕ → Float
gain_terp1 gainaa fr iant =
    let idx = ratio_index fr in
    at gainaa idx
    ⊕ (at gainaa (idx + 1) ⊖ at gainaa idx) ⊗ (fr ⊖ at (frs iant) idx) ⊘ (at (frs iant) (idx + 1) ⊖ at (frs iant) idx)

-- the ratios that three gains cover
unfoldable pub ratio_ok : ℕ → Float → Bool
ratio_ok iant fr = cond (iant == 1) (between fr n0·7 n1·4) (between fr n0·85 n1·2)

-- three gains of `gainmax`, which has its two rows one after the other
abbrev pub row_from : List Float → ℕ → List Float
row_from gainmax i = at gainmax i ∷ at gainmax (i + 1) ∷ at gainmax (i + 2) ∷ []

-- `gainterp`, between the row at 2 MHz and the row at 30 MHz
unfoldable pub gain_terp : List Float → Float → Float → ℕ → Float
gain_terp gainmax foper fdesign iant =
    let fr = foper ⊘ fdesign in
    let g1 = gain_terp1 (row_from gainmax 0) fr iant in
    let g2 = gain_terp1 (row_from gainmax 3) fr iant in
    cond (not (ratio_ok iant fr)) (neg thirty) (g1 ⊕ (g2 ⊖ g1) ⊗ (foper ⊖ two) ⊘ n28)
