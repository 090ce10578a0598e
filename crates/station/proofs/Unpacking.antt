-- The words of a record's bytes, over the header's width h: word k lies in the five bytes from byte 4 * k on. Assumes nothing.
use mathlib.Core.Path.{◌≡◌, refl, sym, ap, ◌∙◌}
use Prim.Native.Nat.{ℕ, zero, suc, ◌+◌, ◌-◌, ◌*◌, ◌/◌, ◌%◌, ◌^◌, ◌≤◌, ◌<◌}
use native.Mathlib.Nat.{add-zero, zero-add, mul-suc, add_comm, mul_comm, mul_assoc, add-mul-div_right, add-mul-mod_self_right, div-div-eq-div-mul, pow-succ', add-sub_of_le}
use native.Mathlib.Omega.{arith}
use mathlib.Core.List.{List, [], ◌∷◌}
use lib.ListN.{length, take, drop, get_or, length-drop, take-append-drop, length-map, get_or-map}
use lib.Seq.{take-add, take-suc, take_all}
use lib.Ieee.{nan, binary32, of_bits}
use lib.Pow.{pow-add, pow_pos}
use Rattle.words.specs.Digits.{after, number, digits, Below}
use Rattle.station.specs.Record.{words_in, word_in, header_in, spare_in, floats_in}
use Rattle.words.proofs.Elements.{take-elements}
use Rattle.words.proofs.Digits.{below-drop, after_append, after-div, digit_at, length_digits}

-- four bytes are a word
pub word_bytes : (r : ℕ) → 256 ^ (4 * r) ≡ (2 ^ 32) ^ r
word_bytes zero = refl
word_bytes (suc r) =
    ap (λ (k : ℕ). 256 ^ k) (mul-suc 4 r ∙ add_comm (4 * r) 4)
    ∙ pow-add 256 4 (4 * r)
    ∙ ap (λ (k : ℕ). 2 ^ 32 * k) (word_bytes r)
    ∙ sym (pow-succ' (2 ^ 32) r)

-- the header and the spare bits share a byte
pub unit : (h : ℕ) → h ≤ 8 → 2 ^ h * 2 ^ (8 - h) ≡ 256
unit h l = sym (pow-add 2 h (8 - h)) ∙ ap (λ (k : ℕ). 2 ^ k) (add-sub_of_le l)

pub div_swap : (n a b : ℕ) → n / a / b ≡ n / b / a
div_swap n a b = div-div-eq-div-mul n a b ∙ ap (λ (d : ℕ). n / d) (mul_comm a b) ∙ sym (div-div-eq-div-mul n b a)

-- what stands before five bytes does not count in the word that they hold
word-alone : (h n a b c d e : ℕ) → h ≤ 8
    → after 256 n (a ∷ b ∷ c ∷ d ∷ e ∷ []) / 2 ^ (8 - h) % 2 ^ 32 ≡ word_in h (a ∷ b ∷ c ∷ d ∷ e ∷ [])
unfolding after word_in
word-alone h n a b c d e l =
    let w = after 256 0 (a ∷ b ∷ c ∷ d ∷ e ∷ []) in
    let u = 2 ^ (8 - h) in
    let s : (((((n * 256 + a) * 256 + b) * 256 + c) * 256 + d) * 256 + e) ≡ w + n * 2 ^ 32 * 256 = omega arith in
    let t : n * 2 ^ 32 * 256 ≡ n * 2 ^ 32 * 2 ^ h * u = rw (← unit h l) (sym (mul_assoc (n * 2 ^ 32) (2 ^ h) u)) in
    ap (λ (x : ℕ). x / u % 2 ^ 32) (s ∙ ap (λ (x : ℕ). w + x) t)
    ∙ ap (λ (x : ℕ). x % 2 ^ 32) (add-mul-div_right w (n * 2 ^ 32 * 2 ^ h) (pow_pos (8 - h)))
    ∙ ap (λ (x : ℕ). (w / u + x) % 2 ^ 32) (mul_assoc n (2 ^ 32) (2 ^ h) ∙ ap (λ (x : ℕ). n * x) (mul_comm (2 ^ 32) (2 ^ h)) ∙ sym (mul_assoc n (2 ^ h) (2 ^ 32)))
    ∙ add-mul-mod_self_right (w / u) (n * 2 ^ h) (2 ^ 32)

pub five : (l : List ℕ) (at : ℕ) → at + 5 ≤ length l
    → take 5 (drop at l) ≡ get_or l at 0 ∷ get_or l (at + 1) 0 ∷ get_or l (at + 2) 0 ∷ get_or l (at + 3) 0 ∷ get_or l (at + 4) 0 ∷ []
five l at h = rw add-zero at (take-elements l at 0 5 (omega arith))

-- a record's number without its last bytes
front : (b : List ℕ) (m : ℕ) → Below 256 b → number 256 b / 256 ^ length (drop m b) ≡ number 256 (take m b)
front b m bytes =
    ap (λ (xs : List ℕ). number 256 xs / 256 ^ length (drop m b)) (sym (take-append-drop m b))
    ∙ ap (λ (n : ℕ). n / 256 ^ length (drop m b)) (after_append 256 0 (take m b) (drop m b))
    ∙ after-div 256 (below-drop m bytes) (number 256 (take m b))

-- with r words after the byte before m
front_words : (b : List ℕ) (m r : ℕ) → Below 256 b → m + 4 * r ≡ length b → number 256 b / (2 ^ 32) ^ r ≡ number 256 (take m b)
front_words b m r bytes e =
    let rest : length (drop m b) ≡ 4 * r = length-drop m b ∙ omega arith in
    ap (λ (d : ℕ). number 256 b / d) (sym (ap (λ (i : ℕ). 256 ^ i) rest ∙ word_bytes r)) ∙ front b m bytes

module _ (h : ℕ) (l : h ≤ 8) (b : List ℕ) (bytes : Below 256 b) (len : length b ≡ 225) where
  pub header_at : header_in h b ≡ get_or b 0 0 / 2 ^ (8 - h)
  unfolding header_in after
  header_at =
      div_swap (number 256 b) (2 ^ (8 - h)) ((2 ^ 32) ^ 56)
      ∙ ap (λ (n : ℕ). n / 2 ^ (8 - h)) (front_words b 1 56 bytes (omega arith) ∙ ap (number 256) (take-suc b 0 0 (omega arith)) ∙ zero-add (get_or b 0 0))

  pub spare_at : spare_in h b ≡ get_or b 224 0 % 2 ^ (8 - h)
  unfolding spare_in after
  spare_at =
      let n = number 256 (take 224 b) in
      let u = 2 ^ (8 - h) in
      ap (λ (xs : List ℕ). number 256 xs % u) (sym (take_all 225 b (omega arith)) ∙ take-suc b 224 0 (omega arith))
      ∙ ap (λ (m : ℕ). m % u) (after_append 256 0 (take 224 b) (get_or b 224 0 ∷ []) ∙ add_comm (n * 256) (get_or b 224 0) ∙ ap (λ (m : ℕ). get_or b 224 0 + m) (ap (λ (m : ℕ). n * m) (sym (unit h l)) ∙ sym (mul_assoc n (2 ^ h) u)))
      ∙ add-mul-mod_self_right (get_or b 224 0) (n * 2 ^ h) u

module _ (h : ℕ) (l : h ≤ 8) (b : List ℕ) (bytes : Below 256 b) (len : length b ≡ 225) (k : ℕ) (in-range : k < 56) where
  pub word_at : get_or (words_in h b) k 0 ≡ word_in h (get_or b (4 * k) 0 ∷ get_or b (4 * k + 1) 0 ∷ get_or b (4 * k + 2) 0 ∷ get_or b (4 * k + 3) 0 ∷ get_or b (4 * k + 4) 0 ∷ [])
  unfolding words_in
  word_at =
      let N = number 256 b in
      let u = 2 ^ (8 - h) in
      let n = number 256 (take (4 * k) b) in
      let e : 56 ≡ suc k + (55 - k) = omega arith in
      ap (λ (m : ℕ). get_or (digits (2 ^ 32) m (N / u)) k 0) e
      ∙ digit_at (2 ^ 32) k (55 - k) (N / u)
      ∙ ap (λ (m : ℕ). m % 2 ^ 32) (div_swap N u ((2 ^ 32) ^ (55 - k)) ∙ ap (λ (m : ℕ). m / u) (front_words b (4 * k + 5) (55 - k) bytes (omega arith) ∙ ap (number 256) (take-add (4 * k) 5 b) ∙ after_append 256 0 (take (4 * k) b) (take 5 (drop (4 * k) b))))
      ∙ ap (λ (xs : List ℕ). after 256 n xs / u % 2 ^ 32) (five b (4 * k) (omega arith))
      ∙ word-alone h n (get_or b (4 * k) 0) (get_or b (4 * k + 1) 0) (get_or b (4 * k + 2) 0) (get_or b (4 * k + 3) 0) (get_or b (4 * k + 4) 0) l

pub floats_in_length : (h : ℕ) (b : List ℕ) → length (floats_in h b) ≡ 56
unfolding floats_in words_in
floats_in_length h b = length-map (words_in h b) (of_bits binary32) ∙ length_digits (2 ^ 32) 56 (number 256 b / 2 ^ (8 - h))

-- inside a list the default does not count
get_d_any : {A : Type 0} (l : List A) (k : ℕ) (d e : A) → k < length l → get_or l k d ≡ get_or l k e
get_d_any [] k d e h = absurd (omega arith)
get_d_any (x ∷ xs) zero d e h = refl
get_d_any (x ∷ xs) (suc k) d e h = get_d_any xs k d e (omega arith)

pub float_in : (h : ℕ) (b : List ℕ) (k : ℕ) → k < 56 → get_or (floats_in h b) k nan ≡ of_bits binary32 (get_or (words_in h b) k 0)
unfolding floats_in
float_in h b k l =
    get_d_any (floats_in h b) k nan (of_bits binary32 0) (omega (arith, floats_in_length h b)) ∙ get_or-map (of_bits binary32) (words_in h b) k 0
