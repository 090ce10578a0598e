-- Levels that count: finite f32s, and their bits. Assumes nothing.
use mathlib.Core.Path.{◌≡◌, refl, ap}
use mathlib.Core.Bool.{Bool, true, false, not, cond, false≢true}
use mathlib.Core.List.{List, [], ◌∷◌, ◌++◌, map}
use Prim.Native.Nat.{ℕ, zero, suc}
use lib.ListN.{length, drop, replicate}
use lib.Dec.{T}
use lib.Ieee.{Float, nan, inf, fin, binary32, fits, is_nan, of_bits}
use lib.Ieee.Bits.{of_bits-to_bits, to_bits-of_bits, of_bits-fits}
use lib.Ieee.Scale.{finite}
use borrow.Author.Tests.{eqb-true}
use Rattle.std.specs.List.{list_all}
use Rattle.levels.specs.State.{is_level, is_zero}
use Rattle.levels.specs.Run.{counted}
use Rattle.levels.specs.RunLaw.{Run, none, more, Words}
use Rattle.levels.proofs.Acceptance.{both}
use Rattle.levels.proofs.Shapes.{bits}

pub data Counts : List Float → Type 0 where
  no_level : Counts []
  and_one : {x : Float} {xs : List Float} → finite x ≡ true → T (fits binary32 x) → Counts xs → Counts (x ∷ xs)

pub counts_append : {xs ys : List Float} → Counts xs → Counts ys → Counts (xs ++ ys)
counts_append no_level q = q
counts_append (and_one f h p) q = and_one f h (counts_append p q)

pub counts_drop : (k : ℕ) {xs : List Float} → Counts xs → Counts (drop k xs)
counts_drop zero p = p
counts_drop (suc k) no_level = no_level
counts_drop (suc k) (and_one f h p) = counts_drop k p

pub counts_parts : (xs : List Float) {ys : List Float} → Counts (xs ++ ys) → Counts xs × Counts ys
counts_parts [] p = (no_level, p)
counts_parts (x ∷ xs) (and_one f h p) = let q = counts_parts xs p in (and_one f h q.0, q.1)

-- of a run's levels those that are finite
pub counts_counted : {xs : List Float} → Run xs → Counts (counted xs)
unfolding counted
counts_counted none = no_level
counts_counted (more {x} {xs} h r) = by (finite x) refl (counts_counted r)
  where
    by : (b : Bool) → finite x ≡ b → Counts (counted xs) → Counts (cond b (x ∷ counted xs) (counted xs))
    by true e p = and_one e h p
    by false e p = p

-- their bits are read back
pub read_back : {xs : List Float} → Counts xs → map (of_bits binary32) (bits xs) ≡ xs
read_back no_level = refl
read_back (and_one {x} {xs} f h p) = rw (of_bits-to_bits binary32 x h, read_back p)

pub all_levels_lem : {xs : List Float} → Counts xs → list_all is_level (bits xs) ≡ true
all_levels_lem no_level = refl
all_levels_lem (and_one {x} {xs} f h p) = rw (of_bits-to_bits binary32 x h, f, all_levels_lem p)

pub all-zeros : (n : ℕ) → list_all is_zero (replicate n 0) ≡ true
all-zeros zero = refl
all-zeros (suc n) = all-zeros n

-- ---- and the other way: words that pass the tests

not-nan : (v : Float) → finite v ≡ true → T (not (is_nan v))
unfolding is_nan
not-nan nan h = absurd (false≢true h)
not-nan (inf s) h = tt
not-nan (fin s m e) h = tt

pub levels_of_lem : (ws : List ℕ) → Words ws → list_all is_level ws ≡ true → Counts (map (of_bits binary32) ws) × (bits (map (of_bits binary32) ws) ≡ ws)
levels_of_lem [] h a = (no_level, refl)
levels_of_lem (w ∷ ws) h a =
    let p = both (is_level w) (list_all is_level ws) a in
    let q = levels_of_lem ws (λ i. h (suc i)) p.1 in
    (and_one p.0 (of_bits-fits binary32 w) q.0, rw (to_bits-of_bits binary32 w (h 0) (not-nan (of_bits binary32 w) p.0), q.1))

pub zeros_of : (ws : List ℕ) → list_all is_zero ws ≡ true → ws ≡ replicate (length ws) 0
zeros_of [] a = refl
zeros_of (w ∷ ws) a =
    let p = both (is_zero w) (list_all is_zero ws) a in
    rw (eqb-true w 0 p.0) (ap (λ (l : List ℕ). 0 ∷ l) (zeros_of ws p.1))

pub run_of : {xs : List Float} → Counts xs → Run xs
run_of no_level = none
run_of (and_one f h p) = more h (run_of p)
