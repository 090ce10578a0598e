-- The header over the edition: what stands in the type's bits, and the fields of the whole. Assumes nothing.
use mathlib.Core.Path.{◌≡◌, refl, sym, ap, ◌∙◌, subst}
use mathlib.Core.Bool.{Bool, true, false, not, ◌&&◌, cond, false≢true}
use Prim.Native.Nat.{ℕ, zero, suc, ◌+◌, ◌-◌, ◌*◌, ◌/◌, ◌%◌, ◌^◌, ◌≤◌, ◌<◌}
use native.Mathlib.Nat.{div-div-eq-div-mul}
use native.Mathlib.Omega.{arith}
use mathlib.Core.List.{List}
use lib.Dec.{eqb, leb, lit≤, lit<}
use lib.Arith.{digits_lt, digits_div, digits_mod}
use lib.Pow.{pow-add}
use lib.Ieee.{Float}
use borrow.Author.Tests.{eq-eqb, eqb-true, leb-true}
use Rattle.floats.proofs.Tests.{both}
use Rattle.model.specs.Types.{jant_of, type_ok}
use Rattle.words.specs.Digits.{number}
use Rattle.station.specs.Header.{type_bits, width_of, type_of, type_field, header_of, type_agrees, typeless}
use Rattle.station.specs.Record.{header_in}
use Rattle.station.proofs.Unpacking.{div_swap}

-- ---- the type's bits: edition 0 has none, and all that differs between the editions stands here

pub type-bits : (edition : ℕ) → type_bits edition ≤ 4
unfolding type_bits
type-bits edition = go (eqb edition 0)
  where
    go : (b : Bool) → cond b 0 4 ≤ 4
    go true = lit≤ tt
    go false = lit≤ tt

pub width_small : (edition : ℕ) → width_of edition ≤ 8
unfolding width_of
width_small edition = omega (arith, type-bits edition)

has_type : (m k : Bool) → (m && not k) ≡ false → m ≡ true → k ≡ true
has_type true true e f = refl
has_type true false e f = absurd (false≢true (sym e))
has_type false k e f = absurd (false≢true f)

module _ (mode : ℕ) (slot1 : Float) where
  -- a station that the edition has a form of: its type fits the bits, and the reader's test finds that it agrees
  pub field_small : (edition : ℕ) → edition ≤ 1 → typeless edition mode slot1 ≡ false → type_field edition mode slot1 < 2 ^ type_bits edition
  unfolding typeless type_field type_of type_bits type_ok
  field_small zero l e = lit< tt
  field_small (suc zero) l e = go (leb mode 2) (has_type (leb mode 2) (type_ok (jant_of slot1)) e)
    where
      go : (b : Bool) → (b ≡ true → type_ok (jant_of slot1) ≡ true) → cond b (jant_of slot1) 10 < 16
      go true h = let p = both (leb 1 (jant_of slot1)) (leb (jant_of slot1) 9) (h refl) in omega (arith, leb-true (jant_of slot1) 9 p.1)
      go false h = lit< tt
  field_small (suc (suc n)) l e = absurd (omega arith)

  pub own_agrees : (edition : ℕ) → edition ≤ 1 → typeless edition mode slot1 ≡ false → type_agrees edition (type_field edition mode slot1) mode slot1 ≡ true
  unfolding typeless type_agrees type_field type_of
  own_agrees zero l e = refl
  own_agrees (suc zero) l e = go (leb mode 2) (has_type (leb mode 2) (type_ok (jant_of slot1)) e)
    where
      j : ℕ
      j = jant_of slot1

      go : (b : Bool) → (b ≡ true → type_ok j ≡ true) → cond b (type_ok (cond b j 10) && eqb (cond b j 10) j) (eqb (cond b j 10) 10) ≡ true
      go true h = rw (h refl, eq-eqb j j refl)
      go false h = refl
  own_agrees (suc (suc n)) l e = absurd (omega arith)

  -- what agrees is the type of a station that the edition has a form of
  pub agreed : (edition field : ℕ) → edition ≤ 1 → field < 2 ^ type_bits edition → type_agrees edition field mode slot1 ≡ true
      → (field ≡ type_field edition mode slot1) × (typeless edition mode slot1 ≡ false)
  unfolding typeless type_agrees type_field type_of type_bits
  agreed zero field l s e = (omega arith, refl)
  agreed (suc zero) field l s e = go (leb mode 2) e
    where
      j : ℕ
      j = jant_of slot1

      go : (b : Bool) → cond b (type_ok field && eqb field j) (eqb field 10) ≡ true → (field ≡ cond b j 10) × ((b && not (type_ok j)) ≡ false)
      go true h =
          let p = both (type_ok field) (eqb field j) h in
          let q : field ≡ j = eqb-true field j p.1 in
          (q, ap not (subst (λ (i : ℕ). type_ok i ≡ true) q p.0))
      go false h = (eqb-true field 10 h, refl)
  agreed (suc (suc n)) field l s e = absurd (omega arith)

-- ---- the whole header, over its width

module _ (edition mode : ℕ) (slot1 : Float) (l : edition ≤ 1) (m : mode ≤ 3) (e : typeless edition mode slot1 ≡ false) where
  pub header-small : header_of edition mode slot1 < 2 ^ width_of edition
  unfolding header_of width_of
  header-small =
      let front : edition * 4 + mode < 2 ^ 4 = omega arith in
      rw (pow-add 2 4 (type_bits edition)) (digits_lt front (field_small mode slot1 edition l e))

  pub header_front : header_of edition mode slot1 / 2 ^ type_bits edition ≡ edition * 4 + mode
  unfolding header_of
  header_front = digits_div (edition * 4 + mode) (field_small mode slot1 edition l e)

  pub header-type : header_of edition mode slot1 % 2 ^ type_bits edition ≡ type_field edition mode slot1
  unfolding header_of
  header-type = digits_mod (edition * 4 + mode) (field_small mode slot1 edition l e)

-- a record's first four bits are the front of its header
pub first-four : (edition : ℕ) (b : List ℕ) → header_in 4 b ≡ header_in (width_of edition) b / 2 ^ type_bits edition
unfolding header_in width_of
first-four edition b =
    let t = type_bits edition in
    let N = number 256 b in
    let W = (2 ^ 32) ^ 56 in
    let s : 8 - (4 + t) + t ≡ 4 = omega (arith, type-bits edition) in
    let u : 2 ^ (8 - (4 + t)) * 2 ^ t ≡ 2 ^ 4 = sym (pow-add 2 (8 - (4 + t)) t) ∙ ap (λ (i : ℕ). 2 ^ i) s in
    sym (div_swap (N / 2 ^ (8 - (4 + t))) W (2 ^ t) ∙ ap (λ (x : ℕ). x / W) (div-div-eq-div-mul N (2 ^ (8 - (4 + t))) (2 ^ t) ∙ ap (λ (x : ℕ). N / x) u))
