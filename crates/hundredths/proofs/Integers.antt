-- Of integers: products and differences of numbers with one sign, and the order of those with two. Assumes nothing.
use mathlib.Core.Path.{◌≡◌, refl, sym, ap, ◌∙◌}
use Prim.Native.Nat.{ℕ, zero, suc, ◌+◌, ◌-◌, ◌*◌, ◌≤◌, ◌<◌, zero-le}
use native.Mathlib.Nat.{mul-zero, mul_comm, sub-add_cancel}
use native.Mathlib.Omega.{arith}
use mathlib.Core.Bool.{Bool, true, false, cond}
use borrow.Author.Tests.{ltb-true, ltb-false, le-ltb}
use lib.Dec.{ltb, le→leb}
use lib.IntN.{ℤ, pos, negsuc, neg_ℤ, nat_abs, sub_ℕ, ◌+ℤ◌, ◌-ℤ◌, ◌*ℤ◌, *ℤ_comm, neg_ℤ-+ℤ, +ℤ_assoc, +ℤ-neg_ℤ_cancel}
use lib.Signed.{◌≤ℤ◌}
use Rattle.hundredths.specs.Hundredths.{signed}

-- ---- one sign
pub times : (s : Bool) (a n : ℕ) → pos a *ℤ signed s n ≡ signed s (a * n)
times false a n = refl
times true a zero = rw (mul-zero a)
times true a (suc n) = refl

pub times-right : (s : Bool) (n a : ℕ) → signed s n *ℤ pos a ≡ signed s (n * a)
times-right s n a = *ℤ_comm (signed s n) (pos a) ∙ times s a n ∙ ap (signed s) (mul_comm a n)

unsigned_abs_neg : (z : ℤ) → nat_abs (neg_ℤ z) ≡ nat_abs z
unsigned_abs_neg (pos zero) = refl
unsigned_abs_neg (pos (suc n)) = refl
unsigned_abs_neg (negsuc n) = refl

sub_within : (a b d : ℕ) → a ≤ b + d → b ≤ a + d → nat_abs (sub_ℕ a b) ≤ d
sub_within a b d h k = go (ltb a b) (ltb-true a b) (ltb-false a b)
  where
    go : (t : Bool) → (t ≡ true → a < b) → (t ≡ false → b ≤ a) → nat_abs (cond t (negsuc (b - suc a)) (pos (a - b))) ≤ d
    go true l g = let m : a < b = l refl in omega arith
    go false l g = let m : b ≤ a = g refl in omega arith

pos-within : (a b d : ℕ) → a ≤ b + d → b ≤ a + d → nat_abs (pos a -ℤ pos b) ≤ d
pos-within a zero d h k = omega arith
pos-within a (suc b) d h k = sub_within a (suc b) d h k

-- two numbers with one sign are as far apart as their sizes
pub within : (s : Bool) (a b d : ℕ) → a ≤ b + d → b ≤ a + d → nat_abs (signed s a -ℤ signed s b) ≤ d
within false a b d h k = pos-within a b d h k
within true a b d h k = rw (← neg_ℤ-+ℤ (pos a) (neg_ℤ (pos b)), unsigned_abs_neg (pos a -ℤ pos b)) (pos-within a b d h k)

-- ---- a difference that isn't below 0
pub sub-pos : (a b : ℕ) → b ≤ a → sub_ℕ a b ≡ pos (a - b)
sub-pos a b h = rw (le-ltb a b h)

-- both are moved by c, which leaves their difference
pub shifted_difference : (a b : ℕ) (c : ℤ) → b ≤ a → (pos a -ℤ c) -ℤ (pos b -ℤ c) ≡ pos (a - b)
shifted_difference a b c h =
    let e : pos (a - b) +ℤ (pos b -ℤ c) ≡ pos a -ℤ c = sym (+ℤ_assoc (pos (a - b)) (pos b) (neg_ℤ c)) ∙ ap (λ (z : ℕ). pos z -ℤ c) (sub-add_cancel h) in
    ap (λ (z : ℤ). z -ℤ (pos b -ℤ c)) (sym e) ∙ +ℤ-neg_ℤ_cancel (pos (a - b)) (pos b -ℤ c)

-- ---- the order
pub up : (a b : ℕ) → a ≤ b → pos a ≤ℤ pos b
up a b h = record { le = le→leb a b h }

pub across : (a b : ℕ) → neg_ℤ (pos a) ≤ℤ pos b
across zero b = up 0 b zero-le
across (suc a) b = record { le = tt }

pub down : (a b : ℕ) → b ≤ a → neg_ℤ (pos a) ≤ℤ neg_ℤ (pos b)
down a zero h = across a 0
down zero (suc b) h = let n : ⊥ = omega arith in absurd n
down (suc a) (suc b) h = record { le = le→leb b a (omega arith) }
