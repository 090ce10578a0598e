-- Numbers from -1 to 1: their products are such, and 1 less a square of one is its own magnitude.
use mathlib.Core.Path.{◌≡◌, refl, ap, ◌∙◌}
use mathlib.Core.Bool.{Bool, true, false, ◌&&◌, ◌||◌, cond}
use Prim.Native.Nat.{ℕ, zero, suc, ◌+◌, ◌-◌, ◌*◌, ◌^◌, ◌≤◌, ◌<◌}
use native.Mathlib.Nat.{le_of_lt, le_of_eq, mul-pos, mul-le-mul}
use native.Mathlib.Omega.{arith}
use borrow.Author.Tests.{le-ltb}
use lib.Dec.{T, ltb, eqb, ltb→lt, eqb→eq}
use lib.IntN.{ℤ}
use lib.Ieee.{Float, nan, inf, fin, Format, binary32, low, emax, prec, up, down, unlike, odd, units, round, sum, sub, mul, le, of_bits}
use lib.Ieee.Fits.{down_pos, and_l}
use lib.Ieee.Order.{round_mono}
use Rattle.std.specs.Float.{float_with_sign}
use Rattle.numeric.specs.Float.{mag}
use Rattle.numeric.proofs.Laws.{mag-neg}
use Rattle.floats.specs.Ops.{◌⊖◌, ◌⊗◌}
use Rattle.floats.specs.Literals.{one}
use Rattle.floats.proofs.Negation.{round-neg}

abbrev pub InUnit : Float → Type 0
InUnit x = T (le (mag x) one)

-- ---- roundings without a sign

mag-odd : (d q k l : ℕ) → mag (odd d false q k l) ≡ odd d false q k l
unfolding odd float_with_sign
mag-odd d zero k l = refl
mag-odd d (suc q) k l = refl

mag-cond : (b : Bool) (x y : Float) → mag x ≡ x → mag y ≡ y → mag (cond b x y) ≡ cond b x y
mag-cond true x y p q = p
mag-cond false x y p q = q

mag-units : (f : Format) (q k : ℕ) → mag (units f false q k) ≡ units f false q k
unfolding units float_with_sign
mag-units f q k = mag-cond (ltb (q * 2 ^ k) (2 ^ (low f + suc (emax f)))) (odd (suc (prec f)) false q k (low f)) (inf false) (mag-odd (suc (prec f)) q k (low f)) refl

mag-round : (f : Format) (n d : ℕ) → mag (round f false n d) ≡ round f false n d
unfolding round
mag-round f n d = mag-units f _ _

unsigned : (f : Format) (s : Bool) (n d : ℕ) → mag (round f s n d) ≡ round f false n d
unsigned f true n d = ap mag (round-neg f false n d) ∙ mag-neg (round f false n d) ∙ mag-round f n d
unsigned f false n d = mag-round f n d

-- ---- the order with 1

one-is : round binary32 false 1 1 ≡ one
unfolding round of_bits
one-is = refl

le_or : (a b : ℕ) → T (ltb a b || (eqb a b && true)) → a ≤ b
le_or a b = go (ltb a b) (ltb→lt a b)
  where
    go : (t : Bool) → (T t → suc a ≤ b) → T (t || (eqb a b && true)) → a ≤ b
    go true l h = le_of_lt (l tt)
    go false l h = le_of_eq (eqb→eq a b (and_l (eqb a b) true h))

within : (s : Bool) (m : ℕ) (e : ℤ) → InUnit (fin s m e) → m * up e ≤ down e
unfolding le of_bits float_with_sign
within s m e h = omega (arith, le_or (m * up e * 1) (1 * 1 * down e) h)

unit_round : (s : Bool) (n d : ℕ) → 0 < d → n ≤ d → InUnit (round binary32 s n d)
unit_round s n d p h = rw (unsigned, ← one-is) (round_mono binary32 n d 1 1 p (omega arith) (omega arith))

-- ---- products

pub unit_mul : (x y : Float) → InUnit x → InUnit y → InUnit (x ⊗ y)
unfolding mul le of_bits float_with_sign
unit_mul nan y p q = absurd p
unit_mul (inf s) y p q = absurd p
unit_mul (fin s m e) nan p q = absurd q
unit_mul (fin s m e) (inf t) p q = absurd q
unit_mul (fin s m e) (fin t n d) p q =
    unit_round (unlike s t) (m * up e * (n * up d)) (down e * down d) (mul-pos (down_pos e) (down_pos d)) (mul-le-mul (within s m e p) (within t n d q))

-- ---- 1 less a square

unlike_itself : (s : Bool) → unlike s s ≡ false
unlike_itself true = refl
unlike_itself false = refl

mag-square : (x : Float) → mag (x ⊗ x) ≡ x ⊗ x
unfolding mul float_with_sign
mag-square nan = refl
mag-square (inf true) = refl
mag-square (inf false) = refl
mag-square (fin s m e) = rw unlike_itself (mag-round binary32 (m * up e * (m * up e)) (down e * down e))

mag-from-one : (x : Float) → InUnit x → mag (one ⊖ mag x) ≡ one ⊖ mag x
unfolding sub sum le of_bits float_with_sign
mag-from-one nan h = absurd h
mag-from-one (inf s) h = absurd h
mag-from-one (fin s m e) h =
    let inside : m * up e * 1 ≤ 1 * down e = omega (arith, within s m e h) in
    rw (le-ltb (1 * down e) (m * up e * 1) inside) (mag-round binary32 (1 * down e - m * up e * 1) (1 * down e))

pub mag_less_square : (x : Float) → InUnit x → mag (one ⊖ x ⊗ x) ≡ one ⊖ x ⊗ x
mag_less_square x h = rw mag-square at (mag-from-one (x ⊗ x) (unit_mul x x h h))
