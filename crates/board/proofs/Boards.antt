-- A board's words and its stations are one another's. Assumes nothing.
use mathlib.Core.Path.{◌≡◌, refl, sym, ap, ◌∙◌}
use mathlib.Core.Bool.{true, ◌&&◌, false≢true}
use mathlib.Core.List.{List, [], ◌∷◌, ◌++◌}
use Prim.Native.Nat.{ℕ, zero, suc, ◌≤◌}
use native.Mathlib.Omega.{arith}
use lib.ListN.{length, take, length-append, take-append-drop}
use lib.Seq.{drop_at, take_at}
use lib.Dec.{eqb, lit<}
use borrow.Author.Tests.{eqb-true, eq-eqb}
use Rattle.floats.proofs.Tests.{both}
use Rattle.board_air.specs.Stations.{Station}
use Rattle.board_air.specs.Words.{U32s, air_size, board_size, air_of, kept_of, words_of, air_in, kept_in, count_in, stations_on, stations_in, air_ok, same_words, board_ok}
use Rattle.board_air.proofs.Reading.{count_in_lem}
use Rattle.board_air.proofs.Good.{good}
use Rattle.board_air.proofs.Airs.{OnAir, air_size_lem, air_of_lem, air_back, on_air}
use Rattle.board_kept.proofs.Writing.{kept-length}

-- ---- the whole board

same_true : (a b : List ℕ) → same_words a b ≡ true → a ≡ b
unfolding same_words
same_true [] [] h = refl
same_true [] (y ∷ ys) h = absurd (false≢true h)
same_true (x ∷ xs) [] h = absurd (false≢true h)
same_true (x ∷ xs) (y ∷ ys) h = let p = both (eqb x y) (same_words xs ys) h in rw (eqb-true x y p.0, same_true xs ys p.1)

same_self : (a : List ℕ) → same_words a a ≡ true
unfolding same_words
same_self [] = refl
same_self (x ∷ xs) = rw (eq-eqb x x refl) (same_self xs)

pub words_take : (n : ℕ) (l : List ℕ) → U32s l → U32s (take n l)
words_take zero l u i = lit< tt
words_take (suc n) [] u i = lit< tt
words_take (suc n) (w ∷ l) u zero = u 0
words_take (suc n) (w ∷ l) u (suc i) = words_take n l (λ j. u (suc j)) i

pub record Whole (words : List ℕ) : Type 0 where
  pub size : length words ≡ board_size
  pub air : air_ok (air_in words) ≡ true
  pub kept : kept_in words ≡ kept_of (stations_in words)

pub whole : (words : List ℕ) → board_ok words ≡ true → Whole words
unfolding board_ok
whole words h =
    let kept = kept_of (stations_in words) in
    let p = both (eqb (length words) board_size && air_ok (air_in words)) (same_words (kept_in words) kept) h in
    let q = both (eqb (length words) board_size) (air_ok (air_in words)) p.0 in
    record { size = eqb-true (length words) board_size q.0; air = q.1; kept = same_true (kept_in words) kept p.1 }

pub whole-few : (words : List ℕ) → Whole words → count_in words ≤ 16
whole-few words w = rw (count_in_lem words) at (good (air_in words) w.air).few

pub stations_on_air : (words : List ℕ) → U32s words → Whole words → OnAir (stations_in words)
stations_on_air words u w = on_air (air_in words) (words_take air_size words u) (good (air_in words) w.air)

-- words that stations give are a board's, with these stations
pub words_of_lem : {ss : List Station} → OnAir ss → (board_ok (words_of ss) ≡ true) × (stations_in (words_of ss) ≡ ss)
unfolding board_ok words_of
words_of_lem {ss} k =
    let air = air_of_lem k in
    let size = air_size_lem k.rows k.few in
    let front = take_at (air_of ss) (kept_of ss) air_size size in
    let rest = drop_at (air_of ss) (kept_of ss) air_size size in
    let all : length (air_of ss ++ kept_of ss) ≡ board_size = length-append (air_of ss) (kept_of ss) ∙ omega (arith, size, kept-length ss) in
    let back = ap stations_on front ∙ air.1 in
    (rw (eq-eqb (length (air_of ss ++ kept_of ss)) board_size all, front, rest, air.0, air.1) (same_self (kept_of ss)), back)

-- a board's words are those that its stations give
pub words_back : (words : List ℕ) → U32s words → Whole words → words_of (stations_in words) ≡ words
unfolding words_of
words_back words u w =
    ap (λ (l : List ℕ). l ++ kept_of (stations_in words)) (air_back (air_in words) (words_take air_size words u) (good (air_in words) w.air))
    ∙ ap (λ (l : List ℕ). air_in words ++ l) (sym w.kept)
    ∙ take-append-drop air_size words
