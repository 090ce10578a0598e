-- Where a field stands among lists one after the other. Assumes nothing.
use mathlib.Core.Path.{◌≡◌, refl, sym, ap, ◌∙◌}
use mathlib.Core.List.{List, [], ◌∷◌, map}
use Prim.Native.Nat.{ℕ, zero, suc, ◌+◌}
use lib.ListN.{length, get_or, take, drop, length-append, length-map}
use native.Mathlib.Nat.{add-zero}
use native.Mathlib.Omega.{arith}
use lib.Seq.{take_all, take_at, drop-append-add, get_or-drop}
use lib.Ieee.{Float, binary32, of_bits}
use Rattle.words.specs.Patterns.{bits, floats, part, F32s}
use Rattle.words.proofs.BitsBack.{bits_back}
use Rattle.antenna_words.specs.Fields.{joined}

-- how many words the first k fields take
abbrev pub place : List ℕ → ℕ → ℕ
place [] k = 0
place (n ∷ ns) zero = 0
place (n ∷ ns) (suc k) = n + place ns k

abbrev pub total : List ℕ → ℕ
total [] = 0
total (n ∷ ns) = n + total ns

pub joined_length : (ss : List (List ℕ)) → length (joined ss) ≡ total (map length ss)
unfolding joined
joined_length [] = refl
joined_length (s ∷ ss) = length-append s (joined ss) ∙ ap (λ (n : ℕ). length s + n) (joined_length ss)

field_at : (ss : List (List ℕ)) (k : ℕ) → part (joined ss) (place (map length ss) k) (get_or (map length ss) k 0) ≡ get_or ss k []
unfolding joined
field_at [] k = refl
field_at (s ∷ ss) zero = take_at s (joined ss) (length s) refl
field_at (s ∷ ss) (suc k) = ap (take (get_or (map length ss) k 0)) (drop-append-add s (joined ss) (place (map length ss) k)) ∙ field_at ss k

pub field : (ss : List (List ℕ)) {sizes : List ℕ} → map length ss ≡ sizes → (k : ℕ) → part (joined ss) (place sizes k) (get_or sizes k 0) ≡ get_or ss k []
field ss e k = ap (λ (ns : List ℕ). part (joined ss) (place ns k) (get_or ns k 0)) (sym e) ∙ field_at ss k

drop-floats : (ws : List ℕ) (at : ℕ) → drop at (floats ws) ≡ floats (drop at ws)
drop-floats ws zero = refl
drop-floats [] (suc at) = refl
drop-floats (w ∷ ws) (suc at) = drop-floats ws at

take-floats : (ws : List ℕ) (n : ℕ) → take n (floats ws) ≡ floats (take n ws)
take-floats ws zero = refl
take-floats [] (suc n) = refl
take-floats (w ∷ ws) (suc n) = ap (λ (l : List Float). of_bits binary32 w ∷ l) (take-floats ws n)

-- a field of floats is read back
pub floats_field : (ss : List (List ℕ)) {sizes : List ℕ} → map length ss ≡ sizes → (k : ℕ) (xs : List Float) → get_or ss k [] ≡ bits xs → F32s xs
    → part (floats (joined ss)) (place sizes k) (get_or sizes k 0) ≡ xs
floats_field ss {sizes} e k xs b h =
    ap (take (get_or sizes k 0)) (drop-floats (joined ss) (place sizes k))
    ∙ take-floats (drop (place sizes k) (joined ss)) (get_or sizes k 0)
    ∙ ap floats (field ss e k ∙ b)
    ∙ bits_back xs h

-- a field of one word
pub word_field : (ss : List (List ℕ)) {sizes : List ℕ} → map length ss ≡ sizes → (k : ℕ) → get_or sizes k 0 ≡ 1 → get_or (joined ss) (place sizes k) 0 ≡ get_or (get_or ss k []) 0 0
word_field ss {sizes} e k one =
    ap (λ (i : ℕ). get_or (joined ss) i 0) (sym (add-zero (place sizes k)))
    ∙ sym (get_or-drop (place sizes k) (joined ss) 0 0)
    ∙ first (drop (place sizes k) (joined ss))
    ∙ ap (λ (n : ℕ). get_or (take n (drop (place sizes k) (joined ss))) 0 0) (sym one)
    ∙ ap (λ (l : List ℕ). get_or l 0 0) (field ss e k)
  where
    first : (l : List ℕ) → get_or l 0 0 ≡ get_or (take 1 l) 0 0
    first [] = refl
    first (x ∷ l) = refl

-- as many floats as there are words
pub whole : (ws : List ℕ) → length ws ≡ 998 → take 998 (floats ws) ≡ floats ws
whole ws e = take_all 998 (floats ws) (omega (arith, length-map ws (of_bits binary32)))
