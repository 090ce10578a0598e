-- What is read in a board's words. Assumes nothing.
use mathlib.Core.Path.{◌≡◌, refl, sym, ap, ◌∙◌}
use mathlib.Core.Bool.{Bool, true, false, ◌&&◌}
use mathlib.Core.List.{List, [], ◌∷◌, map}
use Prim.Native.Nat.{ℕ, zero, suc, ◌+◌, ◌≤◌, ◌<◌}
use native.Mathlib.Nat.{le_of_suc-le-suc, le_refl}
use native.Mathlib.Numerals.{add-one}
use native.Mathlib.Omega.{arith}
use lib.ListN.{length, get_or, take, drop, length-map, length-take, length-drop, get_or-map}
use lib.Seq.{take-length, get_or-take, get_or-drop}
use lib.Dec.{lit<}
use lib.Ieee.{Float, nan, binary32, of_bits}
use lib.Ieee.Scale.{finite}
use Rattle.std.specs.List.{list_all, range_with_len}
use Rattle.std.proofs.lemmas.List.Folds.{list_all_more, list_all-append, list_all-map}
use Rattle.std.proofs.lemmas.List.FromFn.{map-range_with_len_more}
use Rattle.floats.specs.Ranges.{finite_to, all_finite}
use Rattle.board_air.specs.Runs.{on}
use Rattle.board_air.specs.Words.{air_size, air_in, count_in, row_in, station_at, stations_to, stations_on, stations_in, station_ok, stations_ok}

-- within a list no default is read
pub in_list : {A : Type 0} (l : List A) (i : ℕ) (d e : A) → i < length l → get_or l i d ≡ get_or l i e
in_list [] i d e h = absurd (omega arith)
in_list (x ∷ l) zero d e h = refl
in_list (x ∷ l) (suc i) d e h = in_list l i d e (le_of_suc-le-suc h)

module _ (words : List ℕ) (at : ℕ) (room : at + 360 ≤ length words) where
  pub row-length : length (row_in words at) ≡ 360
  row-length = length-map (take 360 (drop at words)) (of_bits binary32) ∙ simp (length-take, length-drop) (omega arith)

  pub number_read : (v : ℕ) → v < 360 → get_or (row_in words at) v nan ≡ of_bits binary32 (get_or words (at + v) 0)
  number_read v h =
      in_list (row_in words at) v nan (of_bits binary32 0) (omega (arith, row-length))
      ∙ get_or-map (of_bits binary32) (take 360 (drop at words)) v 0
      ∙ ap (of_bits binary32) (get_or-take 360 (drop at words) v 0 h ∙ get_or-drop at words v 0)

-- finite ones, one by one
finite-to : (l : List Float) (n : ℕ) → n ≤ length l → finite_to l n ≡ list_all finite (take n l)
unfolding finite_to
finite-to l zero h = refl
finite-to l (suc n) h = rw (finite-to l n (omega arith), ← add-one, list_all_more finite l n nan (omega arith))

pub finite-all : (l : List Float) → all_finite l ≡ list_all finite l
unfolding all_finite
finite-all l = finite-to l (length l) (le_refl _) ∙ ap (list_all finite) (take-length l)

pub stations_length : (words : List ℕ) (n : ℕ) → length (stations_to words n) ≡ n
unfolding stations_to
stations_length words zero = refl
stations_length words (suc n) = ap suc (stations_length words n)

-- how many are on, read in the board or in its air
pub count_in_lem : (words : List ℕ) → count_in (air_in words) ≡ count_in words
count_in_lem words = get_or-take air_size words 0 0 (lit< tt)

pub on_read : (words : List ℕ) (id : ℕ) → on id (stations_to (air_in words) (count_in words)) ≡ on id (stations_in words)
unfolding stations_on
on_read words id = ap (λ (n : ℕ). on id (stations_to (air_in words) n)) (sym (count_in_lem words))

pub length-read : (words : List ℕ) → length (stations_in words) ≡ count_in words
unfolding stations_on
length-read words = stations_length (air_in words) (count_in (air_in words)) ∙ count_in_lem words

-- each station in its place
pub stations_all : (air : List ℕ) (n : ℕ) → list_all (λ (k : ℕ). station_ok (station_at air k) (stations_to air k)) (range_with_len 0 n) ≡ stations_ok (stations_to air n)
unfolding stations_ok stations_to
stations_all air n = sym (list_all-map (λ (b : Bool). b) test (range_with_len 0 n)) ∙ go n
  where
    test : ℕ → Bool
    test k = station_ok (station_at air k) (stations_to air k)

    and_true : (a b : Bool) → (a && (b && true)) ≡ (a && b)
    and_true true true = refl
    and_true true false = refl
    and_true false b = refl

    go : (n : ℕ) → list_all (λ (b : Bool). b) (map test (range_with_len 0 n)) ≡ stations_ok (stations_to air n)
    go zero = refl
    go (suc n) =
        ap (λ (m : ℕ). list_all (λ (b : Bool). b) (map test (range_with_len 0 m))) (sym (add-one n))
        ∙ ap (list_all (λ (b : Bool). b)) (map-range_with_len_more test 0 n n (omega arith))
        ∙ list_all-append (λ (b : Bool). b) (map test (range_with_len 0 n)) (test n ∷ [])
        ∙ ap (λ (b : Bool). b && (test n && true)) (go n)
        ∙ and_true (stations_ok (stations_to air n)) (test n)
