-- Laws of `after` and `digits`, over the base. Assumes nothing.
use mathlib.Core.Path.{◌≡◌, refl, sym, ap, ◌∙◌}
use Prim.Native.Nat.{ℕ, zero, suc, ◌+◌, ◌*◌, ◌/◌, ◌%◌, ◌^◌, ◌<◌}
use native.Mathlib.Nat.{add-zero, zero-add, add-suc, suc-add, add-mul-div_right, add-mul-mod_self_right, add_comm, mul_comm, mul_assoc, mul-one, div-eq_of_lt, div-div-eq-div-mul, div-add-mod', mod-lt, pow-succ', pow-zero, div-one}
use native.Mathlib.Numerals.{add-one}
use mathlib.Core.List.{List, [], ◌∷◌, ◌++◌, append_assoc, append-nil}
use lib.ListN.{length, drop, get_or, length-append}
use lib.Arith.{digits_div, digits_mod, digits_lt}
use lib.Seq.{get_or_at}
use native.Mathlib.Omega.{arith}
use Rattle.std.specs.Int.{w32, to_be_bytes}
use Rattle.words.specs.Digits.{after, digits, Below, none, more}

pub after_append : (B n : ℕ) (xs ys : List ℕ) → after B n (xs ++ ys) ≡ after B (after B n xs) ys
unfolding after
after_append B n [] ys = refl
after_append B n (x ∷ xs) ys = after_append B (n * B + x) xs ys

pub length_digits : (B k n : ℕ) → length (digits B k n) ≡ k
unfolding digits
length_digits B zero n = refl
length_digits B (suc k) n = length-append (digits B k (n / B)) (n % B ∷ []) ∙ ap (λ (m : ℕ). m + 1) (length_digits B k (n / B)) ∙ add-one k

-- the digits after n are read back, with n's own before them
pub digits-after : (B : ℕ) {xs : List ℕ} → Below B xs → (j n : ℕ) → digits B (j + length xs) (after B n xs) ≡ digits B j n ++ xs
unfolding after digits
digits-after B none j n = rw add-zero (sym (append-nil (digits B j n)))
digits-after B (more {x} {xs} h r) j n =
    ap (λ (k : ℕ). digits B k (after B (n * B + x) xs)) (add-suc j (length xs) ∙ sym (suc-add j (length xs)))
    ∙ digits-after B r (suc j) (n * B + x)
    ∙ rw (digits_div n h, digits_mod n h) (append_assoc (digits B j n) (x ∷ []) xs)

-- one digit at a time, where the count is a numeral that must not be unrolled
pub digits_last : (B k n : ℕ) → digits B (suc k) n ≡ digits B k (n / B) ++ (n % B ∷ [])
unfolding digits
digits_last B k n = refl

-- n is its last k digits after what stands before them
pub after-digits : (B k n : ℕ) → after B (n / B ^ k) (digits B k n) ≡ n
unfolding after digits
after-digits B zero n = rw pow-zero (div-one n)
after-digits B (suc k) n =
    after_append B (n / B ^ suc k) (digits B k (n / B)) (n % B ∷ [])
    ∙ ap (λ (q : ℕ). after B q (digits B k (n / B)) * B + n % B) (ap (λ (d : ℕ). n / d) (pow-succ' B k) ∙ sym (div-div-eq-div-mul n B (B ^ k)))
    ∙ ap (λ (q : ℕ). q * B + n % B) (after-digits B k (n / B))
    ∙ div-add-mod' n B

-- what stands before the digits xs
pub after-div : (B : ℕ) {xs : List ℕ} → Below B xs → (n : ℕ) → after B n xs / B ^ length xs ≡ n
unfolding after
after-div B none n = rw pow-zero (div-one n)
after-div B (more {x} {xs} h r) n =
    ap (λ (d : ℕ). after B (n * B + x) xs / d) (pow-succ' B (length xs) ∙ mul_comm B (B ^ length xs))
    ∙ sym (div-div-eq-div-mul (after B (n * B + x) xs) (B ^ length xs) B)
    ∙ ap (λ (q : ℕ). q / B) (after-div B r (n * B + x))
    ∙ digits_div n h

pub after-lt : (B c : ℕ) {xs : List ℕ} → Below B xs → (n : ℕ) → n < c → after B n xs < c * B ^ length xs
unfolding after
after-lt B c none n h = rw (pow-zero, mul-one) h
after-lt B c (more {x} {xs} b r) n h =
    rw (pow-succ', ← mul_assoc) (after-lt B (c * B) r (n * B + x) (digits_lt h b))

-- the digits before the last k
pub digits-add : (B j k n : ℕ) → digits B (j + k) n ≡ digits B j (n / B ^ k) ++ digits B k n
unfolding digits
digits-add B j zero n = simp (add-zero, pow-zero, div-one, append-nil)
digits-add B j (suc k) n =
    ap (λ (m : ℕ). digits B m n) (add-suc j k)
    ∙ ap (λ (l : List ℕ). l ++ (n % B ∷ [])) (digits-add B j k (n / B))
    ∙ append_assoc (digits B j (n / B / B ^ k)) (digits B k (n / B)) (n % B ∷ [])
    ∙ ap (λ (q : ℕ). digits B j q ++ digits B (suc k) n) (div-div-eq-div-mul n B (B ^ k) ∙ ap (λ (d : ℕ). n / d) (sym (pow-succ' B k)))

-- only the remainder counts
pub digits_mod_pow : (B k n m : ℕ) → 0 < B → digits B k (n * B ^ k + m) ≡ digits B k m
unfolding digits
digits_mod_pow B zero n m p = refl
digits_mod_pow B (suc k) n m p =
    let e : n * B ^ suc k + m ≡ m + n * B ^ k * B = rw (pow-succ', add_comm) (ap (λ (x : ℕ). m + x) (ap (λ (x : ℕ). n * x) (mul_comm B (B ^ k)) ∙ sym (mul_assoc n (B ^ k) B))) in
    rw (e, add-mul-div_right, add-mul-mod_self_right)
    (rw (add_comm (m / B) (n * B ^ k), digits_mod_pow B k n (m / B) p))

-- the digit that has k digits before it and r after it
pub digit_at : (B k r n : ℕ) → get_or (digits B (suc k + r) n) k 0 ≡ n / B ^ r % B
unfolding digits
digit_at B k r n =
    let q = n / B ^ r in
    ap (λ (l : List ℕ). get_or l k 0) (digits-add B (suc k) r n ∙ append_assoc (digits B k (q / B)) (q % B ∷ []) (digits B r n))
    ∙ get_or_at (digits B k (q / B)) (q % B) (digits B r n) 0 k (length_digits B k (q / B))

pub digits_none : (B n : ℕ) → digits B 0 n ≡ []
unfolding digits
digits_none B n = refl

below_append : {B : ℕ} {xs ys : List ℕ} → Below B xs → Below B ys → Below B (xs ++ ys)
below_append none q = q
below_append (more h p) q = more h (below_append p q)

pub below-digits : (B k n : ℕ) → 0 < B → Below B (digits B k n)
unfolding digits
below-digits B zero n p = none
below-digits B (suc k) n p = below_append (below-digits B k (n / B) p) (more (mod-lt n p) none)

-- bytes that are each below the base, index by index
pub below_all : (B : ℕ) (l : List ℕ) → ((i : ℕ) → get_or l i 0 < B) → Below B l
below_all B [] f = none
below_all B (x ∷ xs) f = more (f 0) (below_all B xs (λ i. f (suc i)))

pub below-drop : {B : ℕ} (k : ℕ) {l : List ℕ} → Below B l → Below B (drop k l)
below-drop zero r = r
below-drop (suc k) none = none
below-drop (suc k) (more h r) = below-drop k r

-- the two round trips between a number and its digits
pub read-digits : (B k : ℕ) {xs : List ℕ} → Below B xs → length xs ≡ k → (n : ℕ) → digits B k (after B n xs) ≡ xs
read-digits B k {xs} r e n =
    ap (λ (i : ℕ). digits B i (after B n xs)) (sym e ∙ sym (zero-add (length xs))) ∙ digits-after B r 0 n ∙ ap (λ (l : List ℕ). l ++ xs) (digits_none B n)

pub write_digits : (B k n : ℕ) → n < B ^ k → after B 0 (digits B k n) ≡ n
write_digits B k n h = ap (λ (q : ℕ). after B q (digits B k n)) (sym (div-eq_of_lt h)) ∙ after-digits B k n

-- four bytes, as the code gets them
pub be_bytes : (n : ℕ) → to_be_bytes w32 n ≡ digits 256 4 n
unfolding digits
be_bytes n =
    let a : n / 16777216 % 256 ≡ n / 256 / 256 / 256 % 256 = omega arith in
    let b : n / 65536 % 256 ≡ n / 256 / 256 % 256 = omega arith in
    cc (a, b)
