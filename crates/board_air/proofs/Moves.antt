-- What a join and a leave do to a board's words. Assumes nothing.
use mathlib.Core.Path.{◌≡◌, refl, sym, ap, ◌∙◌}
use mathlib.Core.Bool.{Bool, true, false, cond, false≢true}
use mathlib.Core.List.{List, [], ◌∷◌, ◌++◌, append_assoc, append-nil}
use Prim.Native.Nat.{ℕ, zero, suc, ◌+◌, ◌-◌, ◌*◌, ◌≤◌, ◌<◌}
use native.Mathlib.Nat.{zero-sub, sub-zero, suc-sub-suc, suc-add}
use native.Mathlib.Numerals.{add-one}
use native.Mathlib.Omega.{arith}
use lib.ListN.{length, take, drop, set, replicate, length-append, length-drop, length-replicate, replicate-append-replicate, drop_of_length-le}
use lib.Seq.{take_at, drop_at, drop-drop, take-append-le, drop-append-le}
use lib.Dec.{eqb}
use borrow.Author.Tests.{eqb-true}
use Rattle.words.specs.Laid.{laid}
use Rattle.words.proofs.Laid.{take_laid, laid-length}
use Rattle.board_air.specs.Stations.{Station}
use Rattle.board_air.specs.Runs.{on, without}
use Rattle.board_air.specs.Words.{air_size, place_of, places_of, air_of, stations_ok}
use Rattle.board_air.specs.Steps.{slot_of}
use Rattle.std.proofs.Common.{Option, Some, None}
use Rattle.std.specs.Option.{is_some}
use Rattle.board_air.proofs.Slots.{slot_some}
use Rattle.board_air.proofs.Tests.{neither}
use Rattle.board_air.proofs.Each.{Each, none, more}
use Rattle.board_air.proofs.Good.{own}
use Rattle.board_air.proofs.Airs.{Row, OnAir, place-length, places-length, air_size_lem}

drop-zeros : (m n : ℕ) → drop m (replicate {A = ℕ} n 0) ≡ replicate (n - m) 0
drop-zeros zero n = rw (sub-zero n)
drop-zeros (suc m) zero = rw (zero-sub (suc m))
drop-zeros (suc m) (suc n) = drop-zeros m n ∙ ap (λ (k : ℕ). replicate k 0) (sym (suc-sub-suc n m))

-- ---- one more

pub joined : {ss : List Station} (s : Station) → Each Row ss → length ss < 16 → length s.row ≡ 360
    → set (laid (air_of ss) (1 + 361 * length ss) (place_of s)) 0 (length ss + 1) ≡ air_of (s ∷ ss)
unfolding laid air_of places_of
joined {ss} s rows few whole =
    let n = length ss in
    let zeros = replicate {A = ℕ} (361 * (16 - n)) 0 in
    let words = n ∷ places_of ss ++ zeros in
    let front : length (n ∷ places_of ss) ≡ 1 + 361 * n = ap suc (places-length rows) ∙ omega arith in
    let rest : drop (1 + 361 * n + length (place_of s)) words ≡ replicate (361 * (16 - suc n)) 0 =
    ap (λ (j : ℕ). drop j words) (ap (λ (k : ℕ). 1 + 361 * n + k) (place-length s whole))
    ∙ sym (drop-drop 361 (1 + 361 * n) words)
    ∙ ap (drop 361) (drop_at (n ∷ places_of ss) zeros (1 + 361 * n) front)
    ∙ drop-zeros 361 (361 * (16 - n))
    ∙ ap (λ (j : ℕ). replicate j 0) (fewer n few) in
    rw (take_at (n ∷ places_of ss) zeros (1 + 361 * n) front, rest, add-one n)
  where
    fewer : (n : ℕ) → n < 16 → 361 * (16 - n) - 361 ≡ 361 * (16 - suc n)
    fewer n h = omega arith

-- ---- one fewer

abbrev cut : List ℕ → ℕ → List ℕ
cut l p = take p l ++ drop (p + 361) l

cut_append : (l r : List ℕ) (p : ℕ) → p + 361 ≤ length l → cut (l ++ r) p ≡ cut l p ++ r
cut_append l r p h =
    rw (take-append-le p l r (omega arith), drop-append-le (p + 361) l r h) (sym (append_assoc (take p l) (drop (p + 361) l) r))

without-none : (id : ℕ) (ss : List Station) → on id ss ≡ false → without id ss ≡ ss
unfolding on without
without-none id [] h = refl
without-none id (s ∷ ss) h = let p = neither (eqb s.id id) (on id ss) h in rw (p.0, without-none id ss p.1)

-- of those on, the one in this place gone and the rest left
record Parted (ss : List Station) (slot : ℕ) (rest : List Station) : Type 0 where
  inside : slot < length ss
  fewer : suc (length rest) ≡ length ss
  places : cut (places_of ss) (361 * slot) ≡ places_of rest

parted : (id : ℕ) {ss : List Station} → Each Row ss → stations_ok ss ≡ true → {slot : ℕ} → slot_of id ss ≡ Some slot → Parted ss slot (without id ss)
unfolding on without slot_of places_of
parted id none ok {slot} h = absurd (no-slot h)
  where
    no-slot : ◌≡◌ {A = Option ℕ} None (Some slot) → ⊥
    no-slot e = false≢true (ap is_some e)
parted id (more {s} {ss} r rs) ok {slot} h = go (eqb s.id id) (on id ss) refl refl (parted id rs (own s ss ok).0) h
  where
    size : length (places_of ss) ≡ 361 * length ss
    size = places-length rs

    go : (t u : Bool) → eqb s.id id ≡ t → on id ss ≡ u → (slot_of id ss ≡ Some slot → Parted ss slot (without id ss))
        → cond u (slot_of id ss) (cond t (Some (length ss)) None) ≡ Some slot
        → Parted (s ∷ ss) slot (cond t (without id ss) (s ∷ without id ss))
    go true true e f below h = absurd (false≢true (sym (ap (λ (i : ℕ). on i ss) (sym (eqb-true s.id id e)) ∙ (own s ss ok).1.new) ∙ f))
    go true false here f below h =
        let same = without-none id ss f in
        let end : length (places_of ss ++ place_of s) ≤ 361 * length ss + 361 = rw length-append (omega (arith, size, place-length s r.whole)) in
        let last : Parted (s ∷ ss) (length ss) (without id ss) =
        record {
          inside = omega arith;
          fewer = ap (λ (l : List Station). suc (length l)) same;
          places = rw (take_at (places_of ss) (place_of s) (361 * length ss) size, drop_of_length-le (places_of ss ++ place_of s) {i = 361 * length ss + 361} end, append-nil, same);
        } in
        let e : length ss ≡ slot = cc in
        rw e at last
    go false false e f below h = absurd (false≢true (ap is_some h))
    go false true e f below h =
        let p = below h in
        let room : 361 * slot + 361 ≤ length (places_of ss) = omega (arith, size, p.inside) in
        record {
          inside = omega (arith, p.inside);
          fewer = ap suc p.fewer;
          places = cut_append (places_of ss) (place_of s) (361 * slot) room ∙ ap (λ (l : List ℕ). l ++ place_of s) p.places;
        }

pub slot-inside : (id : ℕ) {ss : List Station} → Each Row ss → stations_ok ss ≡ true → {slot : ℕ} → slot_of id ss ≡ Some slot → slot < length ss
slot-inside id rows ok h = (parted id rows ok h).inside

pub one_gone : (id : ℕ) {ss : List Station} → Each Row ss → stations_ok ss ≡ true → on id ss ≡ true → suc (length (without id ss)) ≡ length ss
one_gone id {ss} rows ok h = (parted id rows ok (slot_some id ss h).1).fewer

cut_cons : (n : ℕ) (l : List ℕ) (p : ℕ) → cut (n ∷ l) (suc p) ≡ n ∷ cut l p
cut_cons n l p = rw (suc-add p 361)

laid_end : (l : List ℕ) (k : ℕ) (s : List ℕ) → k + length s ≡ length l → laid l k s ≡ take k l ++ s
unfolding laid
laid_end l k s e = rw (drop_of_length-le l {i = k + length s} (omega arith), append-nil)

-- the words after a place move up over it, and the last m are cleared
closed : (words : List ℕ) (at m : ℕ) → length words ≡ air_size → at + 361 ≤ length words → m ≡ 361
    → laid (laid words at (drop (at + 361) words)) 5416 (replicate m 0) ≡ cut words at ++ replicate m 0
closed words at m size h e =
    let moved = drop (at + 361) words in
    let n = length-drop (at + 361) words in
    let room : at + length moved ≤ length words = omega (arith, n) in
    laid_end (laid words at moved) 5416 (replicate m 0) (omega (arith, laid-length words at moved room, length-replicate {A = ℕ} m 0))
    ∙ ap (λ (r : List ℕ). r ++ replicate m 0) (take_laid words at moved 5416 (omega (arith, n)) (omega arith))

pub left : (id m : ℕ) {ss : List Station} → OnAir ss → {slot : ℕ} → slot_of id ss ≡ Some slot → m ≡ 361
    → let at = 1 + 361 * slot in
    set (laid (laid (air_of ss) at (drop (at + 361) (air_of ss))) 5416 (replicate m 0)) 0 (length ss - 1) ≡ air_of (without id ss)
unfolding air_of
left id m {ss} k {slot} h e =
    let n = length ss in
    let rest = without id ss in
    let zeros = replicate {A = ℕ} (361 * (16 - n)) 0 in
    let p = parted id k.rows k.ok h in
    let at : 1 + 361 * slot ≡ suc (361 * slot) = omega arith in
    let size = air_size_lem k.rows k.few in
    let front : suc (361 * slot) + 361 ≤ length (n ∷ places_of ss) = omega (arith, places-length k.rows, p.inside) in
    let one : n - 1 ≡ length rest = omega (arith, p.fewer) in
    let more-zeros : 361 * (16 - n) + m ≡ 361 * (16 - length rest) = omega (arith, p.fewer, k.few) in
    let whole = closed (air_of ss) (1 + 361 * slot) m size (omega (arith, size, p.inside, k.few)) e in
    ap (λ (l : List ℕ). set l 0 (n - 1))
    (whole
    ∙ ap (λ (j : ℕ). cut (air_of ss) j ++ replicate m 0) at
    ∙ ap (λ (l : List ℕ). l ++ replicate m 0) (cut_append (n ∷ places_of ss) zeros (suc (361 * slot)) front ∙ ap (λ (l : List ℕ). l ++ zeros) (cut_cons n (places_of ss) (361 * slot) ∙ ap (λ (l : List ℕ). n ∷ l) p.places))
    ∙ append_assoc (n ∷ places_of rest) zeros (replicate m 0)
    ∙ ap (λ (l : List ℕ). n ∷ places_of rest ++ l) (replicate-append-replicate (361 * (16 - n)) m 0))
    ∙ rw (one, more-zeros)
