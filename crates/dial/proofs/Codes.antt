-- A row's codes at an azimuth: 0 is a level, 1 a floor, any more a silence. Assumes nothing.
use Prim.Native.Nat.{ℕ, zero, suc}
use mathlib.Core.Path.{◌≡◌, refl, sym, ap, ◌∙◌}
use mathlib.Core.Bool.{false}
use mathlib.Core.List.{List, map}
use native.Mathlib.Omega.{arith}
use borrow.Author.Tests.{ne_eqb, lt-ltb}
use lib.Dec.{eqb, ltb}
use lib.ListN.{get_or, get_or-map}
use Rattle.answers.specs.declared.Kind.TheVariants as kind
use Rattle.dial.specs.Kinds.{is_level, is_floor, is_silence, coded}

module _ (n : ℕ) where
  not_0 : eqb (suc (suc n)) 0 ≡ false
  not_0 = ne_eqb (suc (suc n)) 0 (λ (e : suc (suc n) ≡ 0). omega arith)

  not_1 : eqb (suc (suc n)) 1 ≡ false
  not_1 = ne_eqb (suc (suc n)) 1 (λ (e : suc (suc n) ≡ 1). omega arith)

  more : coded (suc (suc n)) ≡ kind.Silence
  unfolding coded
  more = rw (not_0, not_1) refl

level-of : (code : ℕ) → is_level (coded code) ≡ eqb code 0
unfolding coded
level-of zero = refl
level-of (suc zero) = refl
level-of (suc (suc n)) = ap is_level (more n) ∙ sym (not_0 n)

floor-of : (code : ℕ) → is_floor (coded code) ≡ eqb code 1
unfolding coded
floor-of zero = refl
floor-of (suc zero) = refl
floor-of (suc (suc n)) = ap is_floor (more n) ∙ sym (not_1 n)

silence-of : (code : ℕ) → is_silence (coded code) ≡ ltb 1 code
unfolding coded
silence-of zero = refl
silence-of (suc zero) = refl
silence-of (suc (suc n)) = ap is_silence (more n) ∙ sym (lt-ltb 1 (suc (suc n)) (omega arith))

module _ (codes : List ℕ) (v : ℕ) where
  entry : get_or (map coded codes) v kind.Level ≡ coded (get_or codes v 0)
  unfolding coded
  entry = get_or-map coded codes v 0

  pub level-coded : is_level (get_or (map coded codes) v kind.Level) ≡ eqb (get_or codes v 0) 0
  level-coded = ap is_level entry ∙ level-of (get_or codes v 0)

  pub floor-coded : is_floor (get_or (map coded codes) v kind.Level) ≡ eqb (get_or codes v 0) 1
  floor-coded = ap is_floor entry ∙ floor-of (get_or codes v 0)

  pub silence-coded : is_silence (get_or (map coded codes) v kind.Level) ≡ ltb 1 (get_or codes v 0)
  silence-coded = ap is_silence entry ∙ silence-of (get_or codes v 0)
