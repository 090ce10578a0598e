-- A record's fields to bytes and back, over the header's width h. Assumes nothing.
use mathlib.Core.Path.{◌≡◌, sym, ap, ◌∙◌, subst}
use Prim.Native.Nat.{ℕ, ◌+◌, ◌-◌, ◌*◌, ◌/◌, ◌%◌, ◌^◌, ◌≤◌, ◌<◌}
use native.Mathlib.Nat.{mul_comm, mul_assoc, mul-div_cancel, mul-mod_left, div-add-mod', add-zero, mul-lt-mul_of_pos_right}
use mathlib.Core.List.{List}
use lib.ListN.{length}
use lib.Pow.{pow_pos}
use Rattle.words.specs.Digits.{after, number, digits, Below}
use Rattle.station.specs.Record.{packed, header_in, words_in, spare_in}
use Rattle.words.proofs.Digits.{after-lt, after-div, after-digits, length_digits, read-digits, write_digits}
use Rattle.station.proofs.Unpacking.{unit}

-- fields to bytes and back
module _ (h : ℕ) (l : h ≤ 8) (header : ℕ) (words : List ℕ) (hh : header < 2 ^ h) (hw : Below (2 ^ 32) words) (len : length words ≡ 56) where
  fields : ℕ
  fields = after (2 ^ 32) header words

  small : fields * 2 ^ (8 - h) < 256 ^ 225
  unfolding fields
  small =
      let a : fields < 2 ^ h * (2 ^ 32) ^ 56 = subst (λ (k : ℕ). fields < 2 ^ h * (2 ^ 32) ^ k) len (after-lt (2 ^ 32) (2 ^ h) hw header hh) in
      let e : 2 ^ h * (2 ^ 32) ^ 56 * 2 ^ (8 - h) ≡ 256 ^ 225 =
      ap (λ (x : ℕ). x * 2 ^ (8 - h)) (mul_comm (2 ^ h) ((2 ^ 32) ^ 56))
      ∙ mul_assoc ((2 ^ 32) ^ 56) (2 ^ h) (2 ^ (8 - h))
      ∙ ap (λ (x : ℕ). (2 ^ 32) ^ 56 * x) (unit h l) in
      subst (λ (x : ℕ). fields * 2 ^ (8 - h) < x) e (mul-lt-mul_of_pos_right a (pow_pos (8 - h)))

  value : number 256 (packed h header words) ≡ fields * 2 ^ (8 - h)
  unfolding packed fields
  value = write_digits 256 225 (fields * 2 ^ (8 - h)) small

  above : number 256 (packed h header words) / 2 ^ (8 - h) ≡ fields
  above = ap (λ (n : ℕ). n / 2 ^ (8 - h)) value ∙ mul-div_cancel fields (pow_pos (8 - h))

  pub packed-length : length (packed h header words) ≡ 225
  unfolding packed
  packed-length = length_digits 256 225 (after (2 ^ 32) header words * 2 ^ (8 - h))

  pub packed-words : words_in h (packed h header words) ≡ words
  unfolding words_in fields
  packed-words = ap (digits (2 ^ 32) 56) above ∙ read-digits (2 ^ 32) 56 hw len header

  pub packed-header : header_in h (packed h header words) ≡ header
  unfolding header_in fields
  packed-header = ap (λ (n : ℕ). n / (2 ^ 32) ^ 56) above ∙ subst (λ (k : ℕ). fields / (2 ^ 32) ^ k ≡ header) len (after-div (2 ^ 32) hw header)

  pub packed_spare : spare_in h (packed h header words) ≡ 0
  unfolding spare_in
  packed_spare = ap (λ (n : ℕ). n % 2 ^ (8 - h)) value ∙ mul-mod_left fields (2 ^ (8 - h))

-- bytes to fields and back
pub packed_again : (h : ℕ) (b : List ℕ) → Below 256 b → length b ≡ 225 → spare_in h b ≡ 0 → packed h (header_in h b) (words_in h b) ≡ b
unfolding packed header_in words_in spare_in
packed_again h b bytes len spare =
    let N = number 256 b in
    let u = 2 ^ (8 - h) in
    let e : N / u * u ≡ N = sym (add-zero (N / u * u)) ∙ ap (λ (x : ℕ). N / u * u + x) (sym spare) ∙ div-add-mod' N u in
    ap (λ (x : ℕ). digits 256 225 (x * u)) (after-digits (2 ^ 32) 56 (N / u))
    ∙ ap (digits 256 225) e
    ∙ read-digits 256 225 bytes len 0
