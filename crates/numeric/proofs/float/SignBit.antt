-- The sign bit in a number's bits: it is the highest (`bit_set`), and set or cleared it gives the number with that sign (`sign_set`).
use Rattle.std.proofs.Common.{◌≡◌, ℕ, zero, suc, ◌+◌, ◌/◌, ◌%◌, ◌^◌, ◌<◌, Bool, true, false, cond, not, T, eqb, leb, sym, refl, ap, ◌∙◌, subst, mod-lt, le-add_left, arith, pow_pos, le-leb}
use Rattle.std.specs.Float.{float_with_sign}
use borrow.Author.Tests.{lt-leb}
use lib.Ieee.{Float, nan, inf, fin, Format, binary32, prec, low, hid, ones, top, odd, neg, fits, is_nan, of_fields, of_bits, to_bits}
use lib.Ieee.Bits.{of_bits-to_bits}
use Rattle.numeric.specs.Float.{sign_bit, mag, with_sign}
use Rattle.numeric.proofs.Signs.{neg-odd}

-- ---- it is the highest of a number's bits
odd_sign_bit : (d : ℕ) (s : Bool) (q k l : ℕ) → sign_bit (odd d s q k l) ≡ s
unfolding odd
odd_sign_bit d s zero k l = refl
odd_sign_bit d s (suc q) k l = refl

fields_sign_bit : (f : Format) (s : Bool) (x t : ℕ) → T (not (is_nan (of_fields f s x t))) → sign_bit (of_fields f s x t) ≡ s
unfolding of_fields is_nan
fields_sign_bit f s zero t n = odd_sign_bit (prec f) s t 0 (low f)
fields_sign_bit f s (suc x) t n = go (eqb (suc x) (ones f)) (eqb t 0) n
  where
    go : (b c : Bool) → T (not (is_nan (cond b (cond c (inf s) nan) (odd (prec f) s (hid f + t) x (low f)))))
        → sign_bit (cond b (cond c (inf s) nan) (odd (prec f) s (hid f + t) x (low f))) ≡ s
    go true true n = refl
    go true false n = absurd n
    go false c n = odd_sign_bit (prec f) s (hid f + t) x (low f)

pub bit_set : (f : Format) (x : Float) → T (fits f x) → T (not (is_nan x)) → leb (top f) (to_bits f x) ≡ sign_bit x
unfolding of_bits
bit_set f x h n =
    let b = to_bits f x in
    let e : of_bits f b ≡ x = of_bits-to_bits f x h in
    sym (fields_sign_bit f (leb (top f) b) (b % top f / hid f) (b % hid f) (subst (λ (z : Float). T (not (is_nan z))) (sym e) n)) ∙ ap sign_bit e

-- ---- cleared and set
mag-odd : (d : ℕ) (s : Bool) (q k l : ℕ) → mag (odd d s q k l) ≡ odd d false q k l
unfolding odd float_with_sign
mag-odd d s zero k l = refl
mag-odd d s (suc q) k l = refl

mag-fields : (f : Format) (s : Bool) (x t : ℕ) → mag (of_fields f s x t) ≡ of_fields f false x t
unfolding of_fields float_with_sign
mag-fields f s zero t = mag-odd (prec f) s t 0 (low f)
mag-fields f s (suc x) t = go (eqb (suc x) (ones f)) (eqb t 0)
  where
    go : (b c : Bool) → mag (cond b (cond c (inf s) nan) (odd (prec f) s (hid f + t) x (low f))) ≡ cond b (cond c (inf false) nan) (odd (prec f) false (hid f + t) x (low f))
    go true true = refl
    go true false = refl
    go false c = mag-odd (prec f) s (hid f + t) x (low f)

neg-fields : (f : Format) (x t : ℕ) → of_fields f true x t ≡ neg (of_fields f false x t)
unfolding of_fields neg
neg-fields f zero t = neg-odd (prec f) t 0 (low f)
neg-fields f (suc x) t = go (eqb (suc x) (ones f)) (eqb t 0)
  where
    go : (b c : Bool) → cond b (cond c (inf true) nan) (odd (prec f) true (hid f + t) x (low f)) ≡ neg (cond b (cond c (inf false) nan) (odd (prec f) false (hid f + t) x (low f)))
    go true true = refl
    go true false = refl
    go false c = neg-odd (prec f) (hid f + t) x (low f)

-- the fields of a pattern below the sign bit, with a sign
placed : (r : ℕ) (s : Bool) → r < 2 ^ 31 → of_bits binary32 (r + cond s (2 ^ 31) 0) ≡ of_fields binary32 s (r / 2 ^ 23) (r % 2 ^ 23)
unfolding of_bits
placed r true h =
    let b = r + 2 ^ 31 in
    let x : b % 2 ^ 31 / 2 ^ 23 ≡ r / 2 ^ 23 = omega arith in
    let t : b % 2 ^ 23 ≡ r % 2 ^ 23 = omega arith in
    (λ i. of_fields binary32 (le-leb (2 ^ 31) b (le-add_left (2 ^ 31) r) i) (x i) (t i))
placed r false h =
    let b = r + 0 in
    let x : b % 2 ^ 31 / 2 ^ 23 ≡ r / 2 ^ 23 = omega arith in
    let t : b % 2 ^ 23 ≡ r % 2 ^ 23 = omega arith in
    (λ i. of_fields binary32 (lt-leb (2 ^ 31) b (omega arith) i) (x i) (t i))

-- the magnitude, by its fields
mag-bits : (x : Float) → T (fits binary32 x) → mag x ≡ of_fields binary32 false (to_bits binary32 x % 2 ^ 31 / 2 ^ 23) (to_bits binary32 x % 2 ^ 31 % 2 ^ 23)
unfolding of_bits
mag-bits x h =
    let b = to_bits binary32 x in
    let t : b % 2 ^ 23 ≡ b % 2 ^ 31 % 2 ^ 23 = omega arith in
    sym (ap mag (of_bits-to_bits binary32 x h)) ∙ mag-fields binary32 (leb (2 ^ 31) b) (b % 2 ^ 31 / 2 ^ 23) (b % 2 ^ 23) ∙ ap (of_fields binary32 false (b % 2 ^ 31 / 2 ^ 23)) t

pub sign_set : (x : Float) (s : Bool) → T (fits binary32 x) → of_bits binary32 (to_bits binary32 x % 2 ^ 31 + cond s (2 ^ 31) 0) ≡ with_sign x s
sign_set x true h =
    let r = to_bits binary32 x % 2 ^ 31 in
    placed r true (mod-lt (to_bits binary32 x) (pow_pos 31)) ∙ neg-fields binary32 (r / 2 ^ 23) (r % 2 ^ 23) ∙ ap neg (sym (mag-bits x h))
sign_set x false h = placed (to_bits binary32 x % 2 ^ 31) false (mod-lt (to_bits binary32 x) (pow_pos 31)) ∙ sym (mag-bits x h)

pub with_sign_number : (x : Float) (s : Bool) → T (not (is_nan x)) → T (not (is_nan (with_sign x s)))
unfolding is_nan neg float_with_sign
with_sign_number nan s n = absurd n
with_sign_number (inf t) true n = tt
with_sign_number (inf t) false n = tt
with_sign_number (fin t m e) true n = tt
with_sign_number (fin t m e) false n = tt
