-- Between the edges of the rows as many rows cover every kHz. Assumes nothing.
use mathlib.Core.Path.{◌≡◌, ◌∙◌}
use Prim.Native.Nat.{ℕ, ◌+◌, ◌≤◌, ◌<◌}
use native.Mathlib.Omega.{arith}
use native.Mathlib.Decide.{dec_le}
use mathlib.Core.Bool.{Bool, true, false, cond, ◌&&◌}
use mathlib.Core.List.{List, [], ◌∷◌}
use borrow.Author.Tests.{lt-ltb, le-ltb, le-leb, lt-leb}
use lib.Dec.{ltb, leb}
use Rattle.bandbook.specs.declared.rows.Row.{Row}
use Rattle.bandbook.specs.Coverage.{covers, one, covering}

pub one-le : (khz : ℕ) (r : Row) → one khz r ≤ 1
unfolding one
one-le khz r = go (covers khz r)
  where
    go : (b : Bool) → cond b 1 0 ≤ 1
    go true = omega arith
    go false = omega arith

-- a row covers a later kHz as it covers this one, where no edge of it lies between
module _ (r : Row) (khz j : ℕ) (le : khz ≤ j) (low : khz < r.low → j < r.low) (high : khz < r.high → j < r.high) where
  covers-same : covers j r ≡ covers khz r
  unfolding covers
  covers-same = go (dec_le r.low khz) (dec_le r.high khz)
    where
      go : Dec (r.low ≤ khz) → Dec (r.high ≤ khz) → (leb r.low j && ltb j r.high) ≡ (leb r.low khz && ltb khz r.high)
      go (no n) q =
          let h : khz < r.low = omega arith in
          rw (lt-leb r.low j (low h), lt-leb r.low khz h)
      go (yes p) (no n) =
          let h : khz < r.high = omega arith in
          rw (le-leb r.low j (omega arith), le-leb r.low khz p, lt-ltb j r.high (high h), lt-ltb khz r.high h)
      go (yes p) (yes q) = rw (le-leb r.low j (omega arith), le-leb r.low khz p, le-ltb j r.high (omega arith), le-ltb khz r.high q)

  pub one_same : one j r ≡ one khz r
  unfolding one
  one_same = rw covers-same

-- ---- the first rows passed: n of them cover each kHz from khz up to an end

abbrev pub Passed : List Row → ℕ → List Row → ℕ → ℕ → Type 0
Passed rows khz rest n end = (j : ℕ) → khz ≤ j → j < end → covering rows j ≡ n + covering rest j

-- one row more, with an end that is no later than its edges
pub pass : (rows : List Row) (khz : ℕ) (r : Row) (rest : List Row) (n end : ℕ) → Passed rows khz (r ∷ rest) n end
    → (nearer : ℕ) → nearer ≤ end → (khz < r.low → nearer ≤ r.low) → (khz < r.high → nearer ≤ r.high)
    → Passed rows khz rest (n + one khz r) nearer
unfolding covering
pass rows khz r rest n end passed nearer within low high j l u =
    let same = one_same r khz j l (λ k. omega (arith, low k)) (λ k. omega (arith, high k)) in
    omega (arith, passed j l (omega arith), same)

pub all_passed : (rows : List Row) (khz n end : ℕ) → Passed rows khz [] n end → (j : ℕ) → khz ≤ j → j < end → covering rows j ≡ n
unfolding covering
all_passed rows khz n end passed j l u = passed j l u ∙ omega arith
