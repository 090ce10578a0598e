-- A finite number's bits: how they are told, and that they are the number's own. Assumes nothing.
use mathlib.Core.Path.{◌≡◌, refl, sym, ap, subst, ◌∙◌}
use mathlib.Core.Logic.{⊎_elim}
use mathlib.Core.Bool.{Bool, true, false, not, cond}
use Prim.Native.Nat.{ℕ, zero, suc, ◌+◌, ◌*◌, ◌/◌, ◌%◌, ◌^◌, ◌≤◌, ◌<◌}
use native.Mathlib.Nat.{div-lt_iff_lt-mul, mod-lt, eq-or-lt_of_le}
use native.Mathlib.Omega.{arith}
use lib.Dec.{T, ltb, leb, eqb, lit<}
use lib.Ieee.{Float, nan, inf, fin, binary32, odd, of_fields, of_bits, to_bits, is_nan, top, hid}
use lib.Ieee.Bits.{to_bits-of_bits}
use lib.Ieee.Scale.{finite}
use borrow.Author.Tests.{lt-ltb, le-ltb, eq-eqb, ne_eqb}

odd-finite : (d : ℕ) (s : Bool) (q k l : ℕ) → finite (odd d s q k l) ≡ true
unfolding odd
odd-finite d s zero k l = refl
odd-finite d s (suc q) k l = refl

-- an exponent's field that isn't all ones
fields-finite : (s : Bool) (x t : ℕ) → finite (of_fields binary32 s x t) ≡ not (eqb x 255)
unfolding of_fields
fields-finite s zero t = odd-finite 24 s t 0 149
fields-finite s (suc x) t = go (eqb (suc x) 255) (eqb t 0)
  where
    go : (b c : Bool) → finite (cond b (cond c (inf s) nan) (odd 24 s (2 ^ 23 + t) x 149)) ≡ not b
    go true true = refl
    go true false = refl
    go false c = odd-finite 24 s (2 ^ 23 + t) x 149

field_below : (r : ℕ) → r < 256 * 2 ^ 23 → ltb r (255 * 2 ^ 23) ≡ not (eqb (r / 2 ^ 23) 255)
field_below r h =
    let field : r / 2 ^ 23 < 256 = (div-lt_iff_lt-mul {k = 2 ^ 23} {x = r} {y = 256} (lit< tt)).1 h in
    let least : r / 2 ^ 23 ≤ 255 = omega arith in
    ⊎_elim
    (λ (e : r / 2 ^ 23 ≡ 255). le-ltb r (255 * 2 ^ 23) (high e) ∙ ap not (sym (eq-eqb (r / 2 ^ 23) 255 e)))
    (λ (l : r / 2 ^ 23 < 255). lt-ltb r (255 * 2 ^ 23) ((div-lt_iff_lt-mul {k = 2 ^ 23} {x = r} {y = 255} (lit< tt)).0 l) ∙ ap not (sym (ne_eqb (r / 2 ^ 23) 255 (λ e. omega arith))))
    (eq-or-lt_of_le least)
  where
    high : r / 2 ^ 23 ≡ 255 → 255 * 2 ^ 23 ≤ r
    high e = omega arith

-- without the sign the bits are below those of an infinity
pub finite_bits : (w : ℕ) → ltb (w % 0x80000000) 0x7F800000 ≡ finite (of_bits binary32 w)
unfolding of_bits
finite_bits w =
    field_below (w % 0x80000000) (mod-lt w (lit< tt))
    ∙ sym (fields-finite (leb (top binary32) w) (w % top binary32 / hid binary32) (w % hid binary32))

finite_number : (x : Float) → finite x ≡ true → T (not (is_nan x))
unfolding is_nan
finite_number nan h = subst T (sym h) tt
finite_number (inf s) h = tt
finite_number (fin s m e) h = tt

pub bits_back : (w : ℕ) → w < 2 ^ 32 → finite (of_bits binary32 w) ≡ true → to_bits binary32 (of_bits binary32 w) ≡ w
bits_back w h f = to_bits-of_bits binary32 w h (finite_number (of_bits binary32 w) f)
