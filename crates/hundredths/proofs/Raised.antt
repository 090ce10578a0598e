-- Raised hundredths stand for hundredths: in span they are from 0 to 200,000, their order is the hundredths' and so is a difference. Assumes nothing.
use mathlib.Core.Path.{◌≡◌, refl, sym, ap, ◌∙◌}
use Prim.Native.Nat.{ℕ, zero, suc, ◌+◌, ◌-◌, ◌≤◌, ◌<◌}
use native.Mathlib.Nat.{add_comm}
use native.Mathlib.Omega.{arith}
use mathlib.Core.Bool.{Bool, true, false, cond}
use borrow.Author.Tests.{lt-ltb, ltb-true, ltb-false, leb-true, leb-false, le-leb, lt-leb}
use lib.Dec.{leb, ltb}
use lib.IntN.{ℤ, pos, negsuc, nat_abs, ◌+ℤ◌, ◌-ℤ◌, +ℤ-neg_ℤ_cancel}
use lib.Signed.{le_z}
use lib.Ieee.{Float}
use Rattle.numeric.specs.Float.{sign_bit}
use Rattle.hundredths.specs.Hundredths.{in_span, size_of, signed, hundredths_of}
use Rattle.hundredths.specs.Raised.{raised_of, lowered}
use Rattle.hundredths.proofs.Integers.{sub-pos, shifted_difference}
use Rattle.hundredths.proofs.Span.{size-le}

-- ---- what lowering gives
pub lowered_below : (r : ℕ) → r < 100000 → lowered r ≡ negsuc (99999 - r)
unfolding lowered
lowered_below r h = rw (lt-ltb r 100000 h) (ap negsuc (omega arith))

pub lowered_from : (r : ℕ) → 100000 ≤ r → lowered r ≡ pos (r - 100000)
unfolding lowered
lowered_from r h = sub-pos r 100000 h

pub lowered-difference : (a b : ℕ) → b ≤ a → lowered a -ℤ lowered b ≡ pos (a - b)
unfolding lowered
lowered-difference a b h = shifted_difference a b (pos 100000) h

same-leb : (a b c d : ℕ) → (c ≤ d → a ≤ b) → (d < c → b < a) → leb a b ≡ leb c d
same-leb a b c d f g = go (leb c d) (leb-true c d) (leb-false c d)
  where
    go : (t : Bool) → (t ≡ true → c ≤ d) → (t ≡ false → d < c) → leb a b ≡ t
    go true h k = le-leb a b (f (h refl))
    go false h k = lt-leb a b (g (k refl))

pub lowered_order : (a b : ℕ) → le_z (lowered a) (lowered b) ≡ leb a b
lowered_order a b = go (ltb a 100000) (ltb b 100000) refl refl
  where
    go : (s t : Bool) → ltb a 100000 ≡ s → ltb b 100000 ≡ t → le_z (lowered a) (lowered b) ≡ leb a b
    go true true p q =
        let k = ltb-true a 100000 p in
        let l = ltb-true b 100000 q in
        rw (lowered_below a k, lowered_below b l) (same-leb (99999 - b) (99999 - a) a b (λ h. omega arith) (λ h. omega arith))
    go true false p q =
        let k = ltb-true a 100000 p in
        let l = ltb-false b 100000 q in
        rw (lowered_below a k, lowered_from b l) (sym (le-leb a b (omega arith)))
    go false true p q =
        let k = ltb-false a 100000 p in
        let l = ltb-true b 100000 q in
        rw (lowered_from a k, lowered_below b l) (sym (lt-leb a b (omega arith)))
    go false false p q =
        let k = ltb-false a 100000 p in
        let l = ltb-false b 100000 q in
        rw (lowered_from a k, lowered_from b l) (same-leb (a - 100000) (b - 100000) a b (λ h. omega arith) (λ h. omega arith))

-- ---- what raising gives, by the sign
abbrev raised_by : Bool → ℕ → ℕ
raised_by negative n = cond negative (100000 - n) (100000 + n)

raised_by_lem : (s : Bool) (n : ℕ) → n ≤ 100000 → signed s n +ℤ pos 100000 ≡ pos (raised_by s n)
raised_by_lem true zero h = refl
raised_by_lem true (suc n) h = sub-pos 100000 (suc n) h
raised_by_lem false n h = ap pos (add_comm n 100000)

module _ (x : Float) (h : in_span x ≡ true) where
  raised-whole : hundredths_of x +ℤ pos 100000 ≡ pos (raised_by (sign_bit x) (size_of x))
  unfolding hundredths_of
  raised-whole = raised_by_lem (sign_bit x) (size_of x) (size-le x h)

  pub raised_is : raised_of x ≡ raised_by (sign_bit x) (size_of x)
  unfolding raised_of
  raised_is = ap nat_abs raised-whole

  pub raised-le : raised_of x ≤ 200000
  raised-le = rw raised_is (go (sign_bit x))
    where
      go : (s : Bool) → raised_by s (size_of x) ≤ 200000
      go true = omega arith
      go false = omega (arith, size-le x h)

  pub lowered-raised : lowered (raised_of x) ≡ hundredths_of x
  unfolding lowered
  lowered-raised =
      ap (λ (z : ℤ). z -ℤ pos 100000) (ap pos raised_is ∙ sym raised-whole) ∙ +ℤ-neg_ℤ_cancel (hundredths_of x) (pos 100000)
