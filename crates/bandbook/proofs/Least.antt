-- `least`: what it finds is the first number that passes the test, and it finds nothing only where there is none. Assumes nothing.
use mathlib.Core.Path.{◌≡◌, refl}
use Prim.Native.Nat.{ℕ, zero, suc, ◌+◌, ◌≤◌, ◌<◌}
use native.Mathlib.Nat.{eq-or-lt_of_le}
use native.Mathlib.Decide.{dec_le}
use native.Mathlib.Omega.{arith}
use mathlib.Core.Bool.{Bool, true, false, cond}
use mathlib.Core.Logic.{⊎_elim}
use Rattle.std.proofs.Common.{Some, None}
use Rattle.bandbook.specs.Least.{least}

-- what `cc` proves of two constructors that aren't equal
pub apart : ◌≡◌ {A = ℕ} 0 1 → ⊥
apart z = omega arith

-- none of the numbers from k up to, not including, j passes the test
abbrev pub NoneTo : (ℕ → Bool) → ℕ → ℕ → Type 0
NoneTo test k j = (i : ℕ) → k ≤ i → i < j → test i ≡ false

-- j is the first of the n numbers from k on that passes the test
pub record First (test : ℕ → Bool) (n k j : ℕ) : Type 0 where
  pub from : k ≤ j
  pub up_to : j < k + n
  pub passes : test j ≡ true
  pub none : NoneTo test k j

module _ (test : ℕ → Bool) where
  pub first_found : (n k : ℕ) {j : ℕ} → First test n k j → least test n k ≡ Some j
  unfolding least
  first_found zero k f = absurd (omega arith)
  first_found (suc n) k {j} f =
      ⊎_elim
      (λ (e : k ≡ j). rw (e, f.passes))
      (λ (h : k < j). rw (f.none k (omega arith) h) (first_found n (suc k) (record { from = h; up_to = omega arith; passes = f.passes; none = λ i l u. f.none i (omega arith) u })))
      (eq-or-lt_of_le f.from)

  pub none_found : (n k : ℕ) → NoneTo test k (k + n) → least test n k ≡ None
  unfolding least
  none_found zero k none = refl
  none_found (suc n) k none = rw (none k (omega arith) (omega arith)) (none_found n (suc k) (λ i l u. none i (omega arith) (omega arith)))

  -- one stretch of numbers and the next
  pub join : {k m j : ℕ} → NoneTo test k m → NoneTo test m j → NoneTo test k j
  join {m = m} before after i l u = go (dec_le m i)
    where
      go : Dec (m ≤ i) → test i ≡ false
      go (yes h) = after i h u
      go (no n) = before i l (omega arith)

  -- a stretch of one number
  pub single : {k j : ℕ} → j ≤ k + 1 → test k ≡ false → NoneTo test k j
  single {k} h e i l u = let s : k ≡ i = omega arith in rw s at e

  pub found_first : (n k : ℕ) {j : ℕ} → least test n k ≡ Some j → First test n k j
  unfolding least
  found_first zero k e = absurd (apart (cc))
  found_first (suc n) k {j} e = go (test k) refl (found_first n (suc k)) e
    where
      go : (b : Bool) → test k ≡ b → (least test n (suc k) ≡ Some j → First test n (suc k) j) → cond b (Some k) (least test n (suc k)) ≡ Some j → First test (suc n) k j
      go true t later e =
          let s : k ≡ j = cc in
          record { from = omega arith; up_to = omega arith; passes = rw s at t; none = λ i l u. absurd (omega arith) }
      go false t later e =
          let f = later e in
          record { from = omega arith; up_to = omega arith; passes = f.passes; none = join (single (omega arith) t) f.none }

  pub found_none : (n k : ℕ) → least test n k ≡ None → NoneTo test k (k + n)
  unfolding least
  found_none zero k e = λ i l u. absurd (omega arith)
  found_none (suc n) k e = go (test k) refl (found_none n (suc k)) e
    where
      go : (b : Bool) → test k ≡ b → (least test n (suc k) ≡ None → NoneTo test (suc k) (suc k + n)) → cond b (Some k) (least test n (suc k)) ≡ None → NoneTo test k (k + suc n)
      go true t later e = absurd (apart (cc))
      go false t later e = join (single (omega arith) t) (λ i l u. later e i l (omega arith))
