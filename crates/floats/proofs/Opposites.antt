-- Sums keep `Opposite`, also where they cancel; so do products with a common factor, and the sine. A square and a cosine are the
-- same of both. Nothing is asked of the operands.
use mathlib.Core.Path.{◌≡◌, refl, sym, ap, ◌∙◌}
use mathlib.Core.Bool.{Bool, true, false, not, ◌&&◌, cond}
use Prim.Native.Nat.{ℕ, zero, suc, ◌+◌, ◌-◌, ◌*◌, ◌<◌}
use native.Mathlib.Nat.{zero-mul, mul-zero, zero-add, add-zero, sub-zero, mul-pos}
use native.Mathlib.Omega.{arith}
use borrow.Author.Tests.{lt-ltb, le-ltb, ltb-false}
use lib.IntN.{ℤ, pos}
use lib.Dec.{ltb}
use lib.Ieee.{Float, nan, inf, fin, Format, binary32, binary64, unlike, up, down, round, neg, sum, add, sub, mul}
use lib.Ieee.Fits.{up_pos, down_pos}
use lib.Ieee.Scale.{round_same}
use Rattle.floats.specs.Ops.{zero±, +0, +0_is}
use Rattle.floats.specs.Opposite.{Opposite, negated, zeros}
use Rattle.floats.proofs.Negation.{round-neg, mul-neg-left, mul-neg-right, mul-neg-neg}

-- ---- products as `lib.Ieee` makes them of a significand and its scale

zero_product : (c d : ℕ) → 0 * c * d ≡ 0
zero_product c d = simp zero-mul

some_product : (m : ℕ) (e : ℤ) → 0 < suc m * up e * 1
some_product m e = mul-pos (mul-pos (omega arith) (up_pos e)) (omega arith)

-- ---- sums with a zero

round-zero-one : (f : Format) (s : Bool) → round f s 0 1 ≡ zero± s
unfolding round
round-zero-one binary32 s = refl
round-zero-one binary64 s = refl

pub round-zero : (f : Format) (s : Bool) (n c : ℕ) → n ≡ 0 → 0 < c → round f s n c ≡ zero± s
round-zero f s n c e h = round_same f s n c 0 1 h (omega arith) (simp (e, zero-mul)) ∙ round-zero-one f s

sum-left-zero : (f : Format) (s t : Bool) (a b c : ℕ) → a ≡ 0 → 0 < b → sum f s a t b c ≡ round f t b c
unfolding sum
sum-left-zero f true true a b c e h = rw (e, zero-add)
sum-left-zero f true false a b c e h = rw (e, lt-ltb 0 b h, sub-zero)
sum-left-zero f false true a b c e h = rw (e, lt-ltb 0 b h, sub-zero)
sum-left-zero f false false a b c e h = rw (e, zero-add)

sum-right-zero : (f : Format) (s t : Bool) (a b c : ℕ) → b ≡ 0 → 0 < a → sum f s a t b c ≡ round f s a c
unfolding sum
sum-right-zero f true true a b c e h = rw (e, add-zero)
sum-right-zero f true false a b c e h = simp (e, le-ltb a 0 (omega arith), lt-ltb 0 a h, sub-zero)
sum-right-zero f false true a b c e h = simp (e, le-ltb a 0 (omega arith), sub-zero)
sum-right-zero f false false a b c e h = rw (e, add-zero)

sum_zeros : (f : Format) (s t : Bool) (a b c : ℕ) → a ≡ 0 → b ≡ 0 → 0 < c → sum f s a t b c ≡ zero± (s && t)
unfolding sum
sum_zeros f true true a b c e g h = rw (e, g) (round-zero f true 0 c refl h)
sum_zeros f true false a b c e g h = rw (e, g) (round-zero f false 0 c refl h)
sum_zeros f false true a b c e g h = rw (e, g) (round-zero f false 0 c refl h)
sum_zeros f false false a b c e g h = rw (e, g) (round-zero f false 0 c refl h)

-- ---- a sum of negated terms

-- the difference of unlike signs: negated, or a zero both ways where it cancels
cancel : (f : Format) (a b c : ℕ) → 0 < c → (s p q : Bool) → ltb a b ≡ p → ltb b a ≡ q
    → Opposite (cond p (round f (not s) (b - a) c) (round f (s && q) (a - b) c)) (cond p (round f s (b - a) c) (round f (not s && q) (a - b) c))
cancel f a b c h true true q _ _ = negated (round-neg f false (b - a) c)
cancel f a b c h false true q _ _ = negated (round-neg f true (b - a) c)
cancel f a b c h true false true _ _ = negated (round-neg f true (a - b) c)
cancel f a b c h false false true _ _ = negated (round-neg f false (a - b) c)
cancel f a b c h true false false e g = let z : a - b ≡ 0 = omega (arith, ltb-false a b e, ltb-false b a g) in zeros false false (round-zero f false (a - b) c z h) (round-zero f false (a - b) c z h)
cancel f a b c h false false false e g = let z : a - b ≡ 0 = omega (arith, ltb-false a b e, ltb-false b a g) in zeros false false (round-zero f false (a - b) c z h) (round-zero f false (a - b) c z h)

sum-negated : (f : Format) (s t : Bool) (a b c : ℕ) → 0 < c → Opposite (sum f s a t b c) (sum f (not s) a (not t) b c)
unfolding sum
sum-negated f true true a b c h = negated (round-neg f true (a + b) c)
sum-negated f true false a b c h = cancel f a b c h true _ _ refl refl
sum-negated f false true a b c h = cancel f a b c h false _ _ refl refl
sum-negated f false false a b c h = negated (round-neg f false (a + b) c)

-- ---- addition keeps `Opposite`

den_pos : (e d : ℤ) → 0 < down e * down d
den_pos e d = mul-pos (down_pos e) (down_pos d)

add-negated : (f : Format) (x y : Float) → Opposite (add f x y) (add f (neg x) (neg y))
unfolding add neg
add-negated f nan y = negated refl
add-negated f (inf s) nan = negated refl
add-negated f (inf true) (inf true) = negated refl
add-negated f (inf true) (inf false) = negated refl
add-negated f (inf false) (inf true) = negated refl
add-negated f (inf false) (inf false) = negated refl
add-negated f (inf s) (fin t n d) = negated refl
add-negated f (fin s m e) nan = negated refl
add-negated f (fin s m e) (inf t) = negated refl
add-negated f (fin s m e) (fin t n d) = sum-negated f s t _ _ _ (den_pos e d)

zero-plus-fin : (f : Format) (s t : Bool) (n : ℕ) (d : ℤ) → add f (zero± s) (fin t (suc n) d) ≡ round f t (suc n * up d * 1) (1 * down d)
unfolding add
zero-plus-fin f s t n d = sum-left-zero f s t _ _ _ (zero_product 1 (down d)) (some_product n d)

pub plus-zero-fin : (f : Format) (s t : Bool) (n : ℕ) (d : ℤ) → add f (fin s (suc n) d) (zero± t) ≡ round f s (suc n * up d * 1) (down d * 1)
unfolding add
plus-zero-fin f s t n d = sum-right-zero f s t _ _ _ (zero_product 1 (down d)) (some_product n d)

zero-plus : (f : Format) (s s' : Bool) (y : Float) → Opposite (add f (zero± s) y) (add f (zero± s') (neg y))
unfolding add neg
zero-plus f s s' nan = negated refl
zero-plus f s s' (inf t) = negated refl
zero-plus f s s' (fin t zero d) =
    let z = sum_zeros f in
    zeros (s && t) (s' && not t) (z s t _ _ _ (zero_product 1 (down d)) (zero_product (up d) 1) (den_pos (pos 0) d)) (z s' (not t) _ _ _ (zero_product 1 (down d)) (zero_product (up d) 1) (den_pos (pos 0) d))
zero-plus f s s' (fin t (suc n) d) =
    negated (zero-plus-fin f s' (not t) n d ∙ round-neg f t _ _ ∙ ap neg (sym (zero-plus-fin f s t n d)))

plus-zero : (f : Format) (s s' : Bool) (x : Float) → Opposite (add f x (zero± s)) (add f (neg x) (zero± s'))
unfolding add neg
plus-zero f s s' nan = negated refl
plus-zero f s s' (inf t) = negated refl
plus-zero f s s' (fin t zero d) =
    let z = sum_zeros f in
    zeros (t && s) (not t && s') (z t s _ _ _ (zero_product (up d) 1) (zero_product 1 (down d)) (den_pos d (pos 0))) (z (not t) s' _ _ _ (zero_product (up d) 1) (zero_product 1 (down d)) (den_pos d (pos 0)))
plus-zero f s s' (fin t (suc n) d) =
    negated (plus-zero-fin f (not t) s' n d ∙ round-neg f t _ _ ∙ ap neg (sym (plus-zero-fin f t s n d)))

pub zero-plus-zero : (f : Format) (s t : Bool) → add f (zero± s) (zero± t) ≡ zero± (s && t)
unfolding add
zero-plus-zero f s t = sum_zeros f s t _ _ _ refl refl (den_pos (pos 0) (pos 0))

pub add_opposite : (f : Format) {x x' y y' : Float} → Opposite x x' → Opposite y y' → Opposite (add f x y) (add f x' y')
add_opposite f {x} {x'} {y} {y'} (negated p) (negated q) = rw (p, q) (add-negated f x y)
add_opposite f {x} {x'} {y} {y'} (negated p) (zeros s t q r) = rw (p, q, r) (plus-zero f s t x)
add_opposite f {x} {x'} {y} {y'} (zeros s t q r) (negated p) = rw (p, q, r) (zero-plus f s t y)
add_opposite f {x} {x'} {y} {y'} (zeros s t p q) (zeros u v g h) = rw (p, q, g, h) (zeros (s && u) (t && v) (zero-plus-zero f s u) (zero-plus-zero f t v))

neg-zero : (s : Bool) → neg (zero± s) ≡ zero± (not s)
unfolding neg
neg-zero s = refl

pub with_neg : (x : Float) → Opposite x (neg x)
with_neg x = negated refl

pub neg_opposite : {x y : Float} → Opposite x y → Opposite (neg x) (neg y)
neg_opposite (negated p) = negated (ap neg p)
neg_opposite (zeros s t p q) = zeros (not s) (not t) (ap neg p ∙ neg-zero s) (ap neg q ∙ neg-zero t)

pub sub_opposite : (f : Format) {x x' y y' : Float} → Opposite x x' → Opposite y y' → Opposite (sub f x y) (sub f x' y')
unfolding sub
sub_opposite f p q = add_opposite f p (neg_opposite q)

-- ---- what else keeps `Opposite`, and what is the same at both ends

times_zero : (f : Format) (s s' : Bool) (x : Float) → Opposite (mul f x (zero± s)) (mul f x (zero± s'))
unfolding mul neg
times_zero f s s' nan = negated refl
times_zero f s s' (inf t) = negated refl
times_zero f s s' (fin t n d) =
    zeros (unlike t s) (unlike t s') (round-zero f _ _ _ (mul-zero (n * up d)) (den_pos d (pos 0))) (round-zero f _ _ _ (mul-zero (n * up d)) (den_pos d (pos 0)))

pub mul_opposite_right : (f : Format) {y y' : Float} (x : Float) → Opposite y y' → Opposite (mul f x y) (mul f x y')
mul_opposite_right f {y} x (negated p) = rw p (negated (mul-neg-right f x y))
mul_opposite_right f x (zeros s t p q) = rw (p, q) (times_zero f s t x)

zero-times : (f : Format) (s s' : Bool) (y : Float) → Opposite (mul f (zero± s) y) (mul f (zero± s') y)
unfolding mul neg
zero-times f s s' nan = negated refl
zero-times f s s' (inf t) = negated refl
zero-times f s s' (fin t n d) =
    zeros (unlike s t) (unlike s' t) (round-zero f _ _ _ (zero_product 1 (n * up d)) (den_pos (pos 0) d)) (round-zero f _ _ _ (zero_product 1 (n * up d)) (den_pos (pos 0) d))

pub mul_opposite_left : (f : Format) {x x' : Float} (y : Float) → Opposite x x' → Opposite (mul f x y) (mul f x' y)
mul_opposite_left f {x} y (negated p) = rw p (negated (mul-neg-left f x y))
mul_opposite_left f y (zeros s t p q) = rw (p, q) (zero-times f s t y)

-- a function that takes x and -x to one value takes opposite values to one
pub even_same : (g : Float → Float) → ((x : Float) → g (neg x) ≡ g x) → {x y : Float} → Opposite x y → g x ≡ g y
even_same g even {x} (negated p) = sym (ap g p ∙ even x)
even_same g even (zeros true true p q) = ap g (p ∙ sym q)
even_same g even (zeros true false p q) = ap g p ∙ sym (ap g (q ∙ sym (neg-zero true)) ∙ even (zero± true))
even_same g even (zeros false true p q) = ap g p ∙ sym (ap g (q ∙ sym (neg-zero false)) ∙ even (zero± false))
even_same g even (zeros false false p q) = ap g (p ∙ sym q)

-- an odd function that is 0 at +0 keeps opposite values opposite
odd-at-zero : (g : Float → Float) → ((x : Float) → g (neg x) ≡ neg (g x)) → g (zero± false) ≡ zero± false → (s : Bool) → g (zero± s) ≡ zero± s
odd-at-zero g odd z false = z
odd-at-zero g odd z true = ap g (sym (neg-zero false)) ∙ odd (zero± false) ∙ ap neg z ∙ neg-zero false

pub odd_opposite : (g : Float → Float) → ((x : Float) → g (neg x) ≡ neg (g x)) → g (zero± false) ≡ zero± false → {x y : Float} → Opposite x y → Opposite (g x) (g y)
odd_opposite g odd z {x} (negated p) = rw p (negated (odd x))
odd_opposite g odd z (zeros s t p q) = zeros s t (ap g p ∙ odd-at-zero g odd z s) (ap g q ∙ odd-at-zero g odd z t)

pub square-same : (f : Format) {x y : Float} → Opposite x y → mul f x x ≡ mul f y y
square-same f = even_same (λ (x : Float). mul f x x) (λ (x : Float). mul-neg-neg f x x)

-- ---- taking +0 away changes no sign, not even a zero's

plus-minus-zero : (f : Format) (x : Float) → add f (neg x) (zero± true) ≡ neg (add f x (zero± true))
unfolding add neg
plus-minus-zero f nan = refl
plus-minus-zero f (inf s) = refl
plus-minus-zero f (fin true zero e) =
    sum_zeros f false true _ _ _ (zero_product (up e) 1) (zero_product 1 (down e)) (den_pos e (pos 0)) ∙ ap neg (sym (sum_zeros f true true _ _ _ (zero_product (up e) 1) (zero_product 1 (down e)) (den_pos e (pos 0))))
plus-minus-zero f (fin false zero e) =
    sum_zeros f true true _ _ _ (zero_product (up e) 1) (zero_product 1 (down e)) (den_pos e (pos 0)) ∙ ap neg (sym (sum_zeros f false true _ _ _ (zero_product (up e) 1) (zero_product 1 (down e)) (den_pos e (pos 0))))
plus-minus-zero f (fin s (suc m) e) = plus-zero-fin f (not s) true m e ∙ round-neg f s _ _ ∙ ap neg (sym (plus-zero-fin f s true m e))

pub minus-zero-odd : (f : Format) (x : Float) → sub f (neg x) +0 ≡ neg (sub f x +0)
unfolding sub neg
minus-zero-odd f x = rw +0_is (plus-minus-zero f x)
