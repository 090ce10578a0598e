-- A record is written word by word: four bytes at a time, with the h bits that are left carried to the next word. Assumes nothing.
use mathlib.Core.Path.{◌≡◌, refl, sym, ap, ◌∙◌}
use Prim.Native.Nat.{ℕ, suc, ◌+◌, ◌-◌, ◌*◌, ◌/◌, ◌%◌, ◌^◌, ◌≤◌, ◌<◌}
use native.Mathlib.Nat.{add_comm, mul_comm, mul_assoc, add-mul, add-mul-div_right, add-mul-mod_self_right, div-add-mod', mod-lt, mod-eq_of_lt, mul-div-mul_right, div-lt_iff_lt-mul, mul-div_cancel, mul-mod_left, add-zero}
use native.Mathlib.Omega.{arith}
use mathlib.Core.List.{List, [], ◌∷◌, ◌++◌}
use lib.ListN.{length, take, set, get_or, drop_of_length-le}
use lib.Seq.{set_split, take-suc, take_all}
use lib.Arith.{digits_lt, digits_div, mod-mul}
use lib.Pow.{pow_pos}
use Rattle.words.specs.Digits.{after, digits}
use Rattle.words.specs.Laid.{laid}
use Rattle.words.proofs.Laid.{take_laid, laid-length}
use Rattle.station.specs.Record.{packed}
use Rattle.words.proofs.Digits.{after_append, digits-add, digits_mod_pow, length_digits, digits_last}
use Rattle.station.proofs.Unpacking.{unit}

-- the bits that are carried and a word, without the last h bits, fit a word
pub joined_small : (h carry w : ℕ) → carry < 2 ^ h → w < 2 ^ 32 → (carry * 2 ^ 32 + w) / 2 ^ h < 2 ^ 32
joined_small h carry w c l = (div-lt_iff_lt-mul (pow_pos h)).1 (rw (mul_comm (2 ^ 32) (2 ^ h)) (digits_lt c l))

-- after the bits of X, a word w: the h bits that were left of X stand before it
module _ (h X w : ℕ) where
  joined : ℕ
  joined = X % 2 ^ h * 2 ^ 32 + w

  split : X * 2 ^ 32 + w ≡ joined + X / 2 ^ h * 2 ^ 32 * 2 ^ h
  unfolding joined
  split =
      let q = X / 2 ^ h in
      let r = X % 2 ^ h in
      let e : X * 2 ^ 32 ≡ q * 2 ^ 32 * 2 ^ h + r * 2 ^ 32 =
      ap (λ (x : ℕ). x * 2 ^ 32) (sym (div-add-mod' X (2 ^ h)))
      ∙ add-mul (q * 2 ^ h) r (2 ^ 32)
      ∙ ap (λ (x : ℕ). x + r * 2 ^ 32) (mul_assoc q (2 ^ h) (2 ^ 32) ∙ ap (λ (x : ℕ). q * x) (mul_comm (2 ^ h) (2 ^ 32)) ∙ sym (mul_assoc q (2 ^ 32) (2 ^ h))) in
      omega (arith, e)

  pub left_over : (X * 2 ^ 32 + w) % 2 ^ h ≡ (X % 2 ^ h * 2 ^ 32 + w) % 2 ^ h
  unfolding joined
  left_over = ap (λ (x : ℕ). x % 2 ^ h) split ∙ add-mul-mod_self_right joined (X / 2 ^ h * 2 ^ 32) (2 ^ h)

  quotient : (X * 2 ^ 32 + w) / 2 ^ h ≡ X / 2 ^ h * 2 ^ 32 + joined / 2 ^ h
  quotient =
      ap (λ (x : ℕ). x / 2 ^ h) split
      ∙ add-mul-div_right joined (X / 2 ^ h * 2 ^ 32) (pow_pos h)
      ∙ add_comm (joined / 2 ^ h) (X / 2 ^ h * 2 ^ 32)

  small : w < 2 ^ 32 → joined / 2 ^ h < 2 ^ 32
  unfolding joined
  small l = joined_small h (X % 2 ^ h) w (mod-lt X (pow_pos h)) l

  -- the digits of X's whole bytes, and then those of the four bytes that the word completes
  pub bytes-more : (m : ℕ) → w < 2 ^ 32 → digits 256 (m + 4) ((X * 2 ^ 32 + w) / 2 ^ h) ≡ digits 256 m (X / 2 ^ h) ++ digits 256 4 ((X % 2 ^ h * 2 ^ 32 + w) / 2 ^ h)
  unfolding joined
  bytes-more m l =
      let q = X / 2 ^ h in
      let v = joined / 2 ^ h in
      ap (digits 256 (m + 4)) quotient
      ∙ digits-add 256 m 4 (q * 2 ^ 32 + v)
      ∙ ap (λ (x : ℕ). digits 256 m x ++ digits 256 4 (q * 2 ^ 32 + v)) (digits_div q (small l))
      ∙ ap (λ (xs : List ℕ). digits 256 m q ++ xs) (digits_mod_pow 256 4 q v (omega arith))

  -- the same of a buffer whose first m bytes are X's
  pub packed_more : (out : List ℕ) (m : ℕ) → w < 2 ^ 32 → m + 4 ≤ length out → take m out ≡ digits 256 m (X / 2 ^ h)
      → take (m + 4) (laid out m (digits 256 4 ((X % 2 ^ h * 2 ^ 32 + w) / 2 ^ h))) ≡ digits 256 (m + 4) ((X * 2 ^ 32 + w) / 2 ^ h)
  packed_more out m l room e =
      let vs = digits 256 4 ((X % 2 ^ h * 2 ^ 32 + w) / 2 ^ h) in
      let n : length vs ≡ 4 = length_digits 256 4 ((X % 2 ^ h * 2 ^ 32 + w) / 2 ^ h) in
      take_laid out m vs (m + 4) (omega arith) (omega arith)
      ∙ ap (λ (xs : List ℕ). xs ++ vs) e
      ∙ sym (bytes-more m l)

-- the last byte: the h bits that are left, then the spare bits
pub packed-last : (h : ℕ) → h ≤ 8 → (header : ℕ) (words out : List ℕ) → length out ≡ 225
    → take 224 out ≡ digits 256 224 (after (2 ^ 32) header words / 2 ^ h)
    → set out 224 (after (2 ^ 32) header words % 2 ^ h * 2 ^ (8 - h)) ≡ packed h header words
unfolding packed
packed-last h l header words out len e =
    let X = after (2 ^ 32) header words in
    let u = 2 ^ (8 - h) in
    let q : X * u / 256 ≡ X / 2 ^ h = rw (← unit h l) (mul-div-mul_right X (2 ^ h) (pow_pos (8 - h))) in
    let r : X * u % 256 ≡ X % 2 ^ h * u =
    rw (← unit h l)
    (mod-mul (X * u) (pow_pos h) (pow_pos (8 - h))
    ∙ ap (λ (x : ℕ). x % 2 ^ h * u + X * u % u) (mul-div_cancel X (pow_pos (8 - h)))
    ∙ ap (λ (x : ℕ). X % 2 ^ h * u + x) (mul-mod_left X u)
    ∙ add-zero (X % 2 ^ h * u)) in
    set_split out 224 (X % 2 ^ h * u) (omega arith)
    ∙ ap (λ (xs : List ℕ). take 224 out ++ X % 2 ^ h * u ∷ xs) (drop_of_length-le out {i = 225} (omega arith))
    ∙ ap (λ (xs : List ℕ). xs ++ X % 2 ^ h * u ∷ []) e
    ∙ sym (digits_last 256 224 (X * u) ∙ ap (λ (x : ℕ). digits 256 224 x ++ (X * u % 256 ∷ [])) q ∙ ap (λ (x : ℕ). digits 256 224 (X / 2 ^ h) ++ (x ∷ [])) r)

-- ---- the loop that writes a record: k words are written, over a buffer of a record's length

pub record Written (h header : ℕ) (words out : List ℕ) (carry k : ℕ) : Type 0 where
  pub room : length out ≡ 225
  pub left : carry ≡ after (2 ^ 32) header (take k words) % 2 ^ h
  pub bytes : take (4 * k) out ≡ digits 256 (4 * k) (after (2 ^ 32) header (take k words) / 2 ^ h)

after_take : (B n : ℕ) (ws : List ℕ) (k d : ℕ) → k < length ws → after B n (take (suc k) ws) ≡ after B n (take k ws) * B + get_or ws k d
unfolding after
after_take B n ws k d l = ap (after B n) (take-suc ws k d l) ∙ after_append B n (take k ws) (get_or ws k d ∷ [])

pub written_carry : (h header : ℕ) (words out : List ℕ) (carry k : ℕ) → Written h header words out carry k → carry < 2 ^ h
written_carry h header words out carry k r = rw r.left (mod-lt (after (2 ^ 32) header (take k words)) (pow_pos h))

pub written_none : (h header : ℕ) (words out : List ℕ) → length out ≡ 225 → header < 2 ^ h → Written h header words out header 0
unfolding after digits
written_none h header words out len small = record { room = len; left = sym (mod-eq_of_lt small); bytes = refl }

pub written-more : (h header : ℕ) (words out : List ℕ) (carry k w d : ℕ) → Written h header words out carry k
    → length words ≡ 56 → k < 56 → w ≡ get_or words k d → w < 2 ^ 32
    → Written h header words (laid out (4 * k) (digits 256 4 ((carry * 2 ^ 32 + w) / 2 ^ h))) ((carry * 2 ^ 32 + w) % 2 ^ h) (suc k)
written-more h header words out carry k w d r len l e small =
    let X = after (2 ^ 32) header (take k words) in
    let s : after (2 ^ 32) header (take (suc k) words) ≡ X * 2 ^ 32 + w = after_take (2 ^ 32) header words k d (omega arith) ∙ ap (λ (x : ℕ). X * 2 ^ 32 + x) (sym e) in
    let m : 4 * suc k ≡ 4 * k + 4 = omega arith in
    record {
      room = laid-length out (4 * k) (digits 256 4 ((carry * 2 ^ 32 + w) / 2 ^ h)) (omega (arith, r.room, length_digits 256 4 ((carry * 2 ^ 32 + w) / 2 ^ h))) ∙ r.room;
      left = ap (λ (x : ℕ). (x * 2 ^ 32 + w) % 2 ^ h) r.left ∙ sym (ap (λ (x : ℕ). x % 2 ^ h) s ∙ left_over h X w);
      bytes =
          ap (λ (x : ℕ). take (4 * suc k) (laid out (4 * k) (digits 256 4 ((x * 2 ^ 32 + w) / 2 ^ h)))) r.left
          ∙ ap (λ (i : ℕ). take i (laid out (4 * k) (digits 256 4 ((X % 2 ^ h * 2 ^ 32 + w) / 2 ^ h)))) m
          ∙ packed_more h X w out (4 * k) small (omega (arith, r.room)) r.bytes
          ∙ ap (λ (i : ℕ). digits 256 i ((X * 2 ^ 32 + w) / 2 ^ h)) (sym m)
          ∙ ap (λ (x : ℕ). digits 256 (4 * suc k) (x / 2 ^ h)) (sym s);
    }

pub written_all : (h : ℕ) → h ≤ 8 → (header : ℕ) (words out : List ℕ) (carry : ℕ) → Written h header words out carry 56 → length words ≡ 56
    → set out 224 (carry * 2 ^ (8 - h)) ≡ packed h header words
written_all h l header words out carry r len =
    let e : take 56 words ≡ words = take_all 56 words (omega arith) in
    ap (λ (x : ℕ). set out 224 (x * 2 ^ (8 - h))) (r.left ∙ ap (λ (ws : List ℕ). after (2 ^ 32) header ws % 2 ^ h) e)
    ∙ packed-last h l header words out r.room (r.bytes ∙ ap (λ (ws : List ℕ). digits 256 224 (after (2 ^ 32) header ws / 2 ^ h)) e)
