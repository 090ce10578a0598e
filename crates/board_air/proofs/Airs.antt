-- An air's words and its stations are one another's. Assumes nothing.
use mathlib.Core.Path.{◌≡◌, refl, sym, ap, ◌∙◌}
use mathlib.Core.Bool.{true}
use mathlib.Core.List.{List, [], ◌∷◌, ◌++◌, map, append_assoc}
use Prim.Native.Nat.{ℕ, zero, suc, ◌+◌, ◌-◌, ◌*◌, ◌≤◌, ◌<◌}
use native.Mathlib.Omega.{arith}
use lib.ListN.{length, get_or, take, drop, replicate, length-append, length-map, length-drop, length-replicate, get_or-map, take-append-drop}
use lib.Seq.{get_or_at, drop_at, take_at, append_snoc, ext_get_or, get_or-take, get_or-drop, drop-cons, drop-drop, take-add}
use lib.Ieee.{Float, nan, binary32, of_bits, to_bits}
use lib.Ieee.Bits.{of_bits-to_bits, of_bits-fits}
use lib.Ieee.Fits.{nan-fits}
use lib.Ieee.Scale.{finite}
use lib.Dec.{eqb}
use borrow.Author.Tests.{eqb-true, eq-eqb, le-leb}
use Rattle.floats.specs.Ranges.{all_finite}
use Rattle.floats.proofs.Tests.{both, finite-at}
use Rattle.board_air.specs.Stations.{Station}
use Rattle.board_air.specs.Runs.{F32s}
use Rattle.board_air.specs.Words.{U32s, air_size, place_of, places_of, air_of, count_in, row_in, station_at, stations_to, stations_on, stations_ok, blank, air_ok}
use Rattle.board_air.proofs.Each.{Each, none, more}
use Rattle.board_air.proofs.Bits.{bits_back}
use Rattle.board_air.proofs.Reading.{in_list, row-length, number_read, stations_length}
use Rattle.board_air.proofs.Good.{Good, own}

-- 360 numbers of an f32 each
pub record Row (s : Station) : Type 0 where
  pub whole : length s.row ≡ 360
  pub held : F32s s.row

pub place-length : (s : Station) → length s.row ≡ 360 → length (place_of s) ≡ 361
place-length s h = ap suc (length-map s.row (to_bits binary32) ∙ h)

pub places-length : {ss : List Station} → Each Row ss → length (places_of ss) ≡ 361 * length ss
unfolding places_of
places-length none = refl
places-length (more {s} {ss} r rs) =
    length-append (places_of ss) (place_of s) ∙ omega (arith, places-length rs, place-length s r.whole)

-- ---- from stations to words and back

row_back : (row : List Float) → F32s row → map (of_bits binary32) (map (to_bits binary32) row) ≡ row
row_back [] h = refl
row_back (x ∷ row) h = rw (of_bits-to_bits binary32 x (h 0), row_back row (λ v. h (suc v)))

-- the place of s stands from word 1 + 361 * k on
station-back : (front rest : List ℕ) (s : Station) (k : ℕ) → Row s → length front ≡ 1 + 361 * k → station_at (front ++ (place_of s ++ rest)) k ≡ s
unfolding station_at
station-back front rest s k r n =
    let bits = map (to_bits binary32) s.row in
    let words = front ++ (place_of s ++ rest) in
    let id : get_or words (1 + 361 * k) 0 ≡ s.id = get_or_at front s.id (bits ++ rest) 0 (1 + 361 * k) n in
    let before = front ++ (s.id ∷ []) in
    let m : length before ≡ 2 + 361 * k = length-append front (s.id ∷ []) ∙ omega arith in
    let numbers : take 360 (drop (2 + 361 * k) words) ≡ bits =
    ap (λ (l : List ℕ). take 360 (drop (2 + 361 * k) l)) (sym (append_snoc front s.id (bits ++ rest)))
    ∙ ap (take 360) (drop_at before (bits ++ rest) (2 + 361 * k) m)
    ∙ take_at bits rest 360 (length-map s.row (to_bits binary32) ∙ r.whole) in
    rw (id, numbers, row_back s.row r.held)

stations_back : (n : ℕ) {ss : List Station} (rest : List ℕ) → Each Row ss → stations_to (n ∷ places_of ss ++ rest) (length ss) ≡ ss
unfolding stations_to places_of
stations_back n rest none = refl
stations_back n rest (more {s} {ss} r rs) =
    ap (λ (l : List ℕ). stations_to (n ∷ l) (suc (length ss))) (append_assoc (places_of ss) (place_of s) rest)
    ∙ rw (stations_back n (place_of s ++ rest) rs, station-back (n ∷ places_of ss) rest s (length ss) r (ap suc (places-length rs) ∙ omega arith))

-- zeros
blank-zeros : (n : ℕ) → blank (replicate n 0) ≡ true
unfolding blank
blank-zeros zero = refl
blank-zeros (suc n) = blank-zeros n

zeros-blank : (ws : List ℕ) → blank ws ≡ true → ws ≡ replicate (length ws) 0
unfolding blank
zeros-blank [] h = refl
zeros-blank (w ∷ ws) h = let p = both (eqb w 0) (blank ws) h in rw (eqb-true w 0 p.0, ← zeros-blank ws p.1)

-- a board's stations
pub record OnAir (ss : List Station) : Type 0 where
  pub rows : Each Row ss
  pub few : length ss ≤ 16
  pub ok : stations_ok ss ≡ true

pub air_size_lem : {ss : List Station} → Each Row ss → length ss ≤ 16 → length (air_of ss) ≡ air_size
unfolding air_of
air_size_lem {ss} rows few =
    let n = length ss in
    ap suc (length-append (places_of ss) (replicate (361 * (16 - n)) 0)) ∙ omega (arith, places-length rows, length-replicate {A = ℕ} (361 * (16 - n)) 0)

-- words that stations give are an air's, with these stations
pub air_of_lem : {ss : List Station} → OnAir ss → (air_ok (air_of ss) ≡ true) × (stations_on (air_of ss) ≡ ss)
unfolding air_ok stations_on air_of
air_of_lem {ss} k =
    let n = length ss in
    let zeros = replicate {A = ℕ} (361 * (16 - n)) 0 in
    let words = n ∷ places_of ss ++ zeros in
    let back = stations_back n zeros k.rows in
    let front : length (n ∷ places_of ss) ≡ 1 + 361 * n = ap suc (places-length k.rows) ∙ omega arith in
    let rest : blank (drop (1 + 361 * n) words) ≡ true = ap blank (drop_at (n ∷ places_of ss) zeros (1 + 361 * n) front) ∙ blank-zeros (361 * (16 - n)) in
    (rw (eq-eqb (length words) air_size (air_size_lem k.rows k.few), le-leb n 16 k.few, back, k.ok, rest), back)

-- ---- from words to stations and back

held_bits : (ws : List ℕ) → F32s (map (of_bits binary32) ws)
held_bits [] v = nan-fits binary32
held_bits (w ∷ ws) zero = of_bits-fits binary32 w
held_bits (w ∷ ws) (suc v) = held_bits ws v

module _ (air : List ℕ) (u : U32s air) (size : length air ≡ air_size) where
  pub bits-read : (at : ℕ) → at + 360 ≤ length air → all_finite (row_in air at) ≡ true → map (to_bits binary32) (row_in air at) ≡ take 360 (drop at air)
  bits-read at room h =
      let row = row_in air at in
      let part = take 360 (drop at air) in
      let d = to_bits binary32 nan in
      ext_get_or d (map (to_bits binary32) row) part (length-map row (to_bits binary32) ∙ length-map part (of_bits binary32))
      (λ i hi.
      let k : i < length row = omega (arith, length-map row (to_bits binary32)) in
      let v : i < 360 = omega (arith, row-length air at room) in
      let read = number_read air at room i v in
      get_or-map (to_bits binary32) row i nan
      ∙ ap (to_bits binary32) read
      ∙ bits_back (get_or air (at + i) 0) (u (at + i)) (ap finite (sym read) ∙ finite-at row i h k)
      ∙ in_list air (at + i) 0 d (omega arith)
      ∙ sym (get_or-take 360 (drop at air) i d v ∙ get_or-drop at air i d))

  place-back : (k : ℕ) → k < 16 → all_finite (row_in air (2 + 361 * k)) ≡ true → place_of (station_at air k) ≡ take 361 (drop (1 + 361 * k) air)
  unfolding station_at
  place-back k few h =
      let next : 2 + 361 * k ≡ suc (1 + 361 * k) = omega arith in
      rw (drop-cons air (1 + 361 * k) 0 (omega arith))
      (ap (λ (l : List ℕ). get_or air (1 + 361 * k) 0 ∷ l) (bits-read (2 + 361 * k) (omega arith) h ∙ ap (λ (j : ℕ). take 360 (drop j air)) next))

  places-back : (n : ℕ) → n ≤ 16 → stations_ok (stations_to air n) ≡ true → places_of (stations_to air n) ≡ take (361 * n) (drop 1 air)
  unfolding places_of stations_to station_at
  places-back zero few ok = refl
  places-back (suc n) few ok =
      let o = own (station_at air n) (stations_to air n) ok in
      let one_more : 361 * n + 361 ≡ 361 * suc n = omega arith in
      rw (places-back n (omega arith) o.0, place-back n (omega arith) o.1.numbers)
      (ap (λ (l : List ℕ). take (361 * n) (drop 1 air) ++ take 361 l) (sym (drop-drop (361 * n) 1 air))
      ∙ sym (take-add (361 * n) 361 (drop 1 air))
      ∙ ap (λ (j : ℕ). take j (drop 1 air)) one_more)

  pub rows-read : (n : ℕ) → n ≤ 16 → Each Row (stations_to air n)
  unfolding stations_to station_at
  rows-read zero few = none
  rows-read (suc n) few =
      let room : 2 + 361 * n + 360 ≤ length air = omega arith in
      more (record { whole = row-length air (2 + 361 * n) room; held = held_bits (take 360 (drop (2 + 361 * n) air)) }) (rows-read n (omega arith))

-- an air's words are those that its stations give
pub air_back : (air : List ℕ) → U32s air → Good air → air_of (stations_on air) ≡ air
unfolding air_of stations_on
air_back air u g =
    let n = count_in air in
    let tail = drop (1 + 361 * n) air in
    let zeros : replicate (361 * (16 - n)) 0 ≡ tail =
    ap (λ (j : ℕ). replicate j 0) (left n (length air) g.size g.few ∙ sym (length-drop (1 + 361 * n) air)) ∙ sym (zeros-blank tail g.rest) in
    rw (stations_length air n, places-back air u g.size n g.few g.ok, zeros)
    (ap (λ (l : List ℕ). n ∷ take (361 * n) (drop 1 air) ++ l) (sym (drop-drop (361 * n) 1 air))
    ∙ ap (λ (l : List ℕ). n ∷ l) (take-append-drop (361 * n) (drop 1 air))
    ∙ sym (drop-cons air 0 0 (omega (arith, g.size))))
  where
    left : (n size : ℕ) → size ≡ air_size → n ≤ 16 → 361 * (16 - n) ≡ size - (1 + 361 * n)
    left n size e h = omega arith

pub on_air : (air : List ℕ) → U32s air → Good air → OnAir (stations_on air)
unfolding stations_on
on_air air u g = record { rows = rows-read air u g.size (count_in air) g.few; few = rw (stations_length air (count_in air)) g.few; ok = g.ok }
