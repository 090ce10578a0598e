-- What the board shows, and keeps, with one more on and with one gone. Assumes nothing.
use mathlib.Core.Path.{◌≡◌, refl, sym, ap, ◌∙◌}
use mathlib.Core.Logic.{⊎_elim}
use mathlib.Core.Bool.{Bool, true, false, cond, ◌||◌}
use mathlib.Core.List.Memᴰ
use mathlib.Core.List.{List, [], ◌∷◌, map, Memᴰ}
use Prim.Native.Nat.{ℕ, zero, suc, ◌+◌, ◌*◌, ◌≤◌, ◌<◌}
use native.Mathlib.Nat.{eq-or-lt_of_le}
use native.Mathlib.Omega.{arith}
use lib.ListN.{length, get_or, take, drop, get_or-replicate, length-map, get_or-map}
use lib.Dec.{T, eqb}
use lib.Seq.{get_or-take, get_or-drop}
use lib.Ieee.{nan, binary32, of_bits, to_bits, neg, fits}
use lib.Ieee.Bits.{of_bits-to_bits, of_bits-fits}
use lib.Ieee.Fits.{neg-fits}
use lib.Ieee.Scale.{finite}
use Rattle.floats.specs.Literals.{thirty}
use Rattle.floats.proofs.Tests.{finite-at}
use Rattle.board_air.specs.Stations.{Station, number_at, nobody, outdoes, shown, numbers_shown, ids_shown, up_to}
use Rattle.board_air.specs.Runs.{without}
use Rattle.board_air.specs.Words.{U32s, air_size, kept_of, row_in, station_at, stations_to, stations_ok}
use Rattle.board_kept.specs.Steps.{entry, entry_of, entry_at, entry_in, better_of, kept_by, raised, raised_vacated, renewed}
use Rattle.board_kept.specs.declared.kept.Entry.{Entry}
use Rattle.board_air.proofs.Each.{Each, more, each_at}
use Rattle.board_air.proofs.Ranks.{Fit, best-shown, shown-best, shown-none, shown-more}
use Rattle.board_air.proofs.Bits.{bits_back}
use Rattle.board_air.proofs.Reading.{in_list, row-length, number_read, stations_length}
use Rattle.board_kept.proofs.Writing.{up_to-same, kept_by_lem, kept_entry, by-entry, by-same}
use Rattle.board_air.proofs.Good.{own}
use Rattle.board_air.proofs.Airs.{Row, OnAir, bits-read, rows-read}
use Rattle.board_anew.proofs.Present.{each-without, ok-without, each-fit}

-- ---- who is shown with one gone

module _ (id : ℕ) {l : Station} where
  member_without : (ss : List Station) → Memᴰ l ss → eqb l.id id ≡ false → Memᴰ l (without id ss)
  unfolding without
  member_without [] m e = absurd (Memᴰ.not-nil m)
  member_without (s ∷ ss) m e = ⊎_elim mine (λ (k : Memᴰ l ss). go (eqb s.id id) (member_without ss k e)) (Memᴰ.cases_cons m)
    where
      mine : l ≡ s → Memᴰ l (cond (eqb s.id id) (without id ss) (s ∷ without id ss))
      mine p = rw (ap (λ (t : Station). eqb t.id id) (sym p) ∙ e) (Memᴰ.head p)

      go : (t : Bool) → Memᴰ l (without id ss) → Memᴰ l (cond t (without id ss) (s ∷ without id ss))
      go true below = below
      go false below = Memᴰ.tail below

-- where the one who leaves wasn't shown the same one stays
pub shown-stays : (v id : ℕ) (ss : List Station) → Each (Fit v) ss → stations_ok ss ≡ true → eqb (shown v ss).id id ≡ false → shown v (without id ss) ≡ shown v ss
unfolding without
shown-stays v id [] fit ok h = refl
shown-stays v id (t ∷ ts) fit ok h =
    let ss = t ∷ ts in
    let b = shown-best v t ss fit ok (Memᴰ.head refl) in
    best-shown v (without id ss) (each-without id fit) (ok-without id ss ok)
    (record { mine = member_without id ss b.mine h; most = each-without id b.most })

-- ---- entries

nobody-held : (v : ℕ) → v < 360 → T (fits binary32 (number_at v nobody))
unfolding nobody
nobody-held v h = rw (get_or-replicate 360 v (neg thirty) nan h) (neg-fits binary32 thirty (of_bits-fits binary32 _))

pub shown-held : (v : ℕ) → v < 360 → (ss : List Station) → Each (Fit v) ss → stations_ok ss ≡ true → T (fits binary32 (number_at v (shown v ss)))
shown-held v h [] fit ok = rw (shown-none v) (nobody-held v h)
shown-held v h (t ∷ ts) fit ok = (each_at fit (shown-best v t (t ∷ ts) fit ok (Memᴰ.head refl)).mine).number.held

better_entry : (v : ℕ) (a b : Station) → T (fits binary32 (number_at v a)) → T (fits binary32 (number_at v b))
    → better_of (entry_of v a) (entry_of v b) ≡ entry_of v (cond (eqb b.id 0 || outdoes v a b) a b)
unfolding better_of outdoes
better_entry v a b ha hb = rw (of_bits-to_bits binary32 (number_at v a) ha, of_bits-to_bits binary32 (number_at v b) hb) (go (eqb b.id 0 || outdoes v a b))
  where
    go : (t : Bool) → cond t (entry_of v a) (entry_of v b) ≡ entry_of v (cond t a b)
    go true = refl
    go false = refl

-- the comparison of a newcomer with the one shown
pub one_better : (v : ℕ) → v < 360 → (s : Station) (ss : List Station) → Each (Fit v) (s ∷ ss) → stations_ok (s ∷ ss) ≡ true
    → better_of (entry_of v s) (entry_of v (shown v ss)) ≡ entry_of v (shown v (s ∷ ss))
one_better v h s ss (more p fit) ok =
    better_entry v s (shown v ss) p.number.held (shown-held v h ss fit (own s ss ok).0)
    ∙ ap (entry_of v) (sym (shown-more v s ss (more p fit) ok))

-- ---- what is kept

-- with one more
pub kept_more : (s : Station) (ss : List Station) → OnAir (s ∷ ss) → kept_by (raised s.id (map (to_bits binary32) s.row) (kept_of ss)) ≡ kept_of (s ∷ ss)
kept_more s ss k = by-same (λ v h. turn v h k.rows) ∙ sym (kept_by_lem (s ∷ ss))
  where
    turn : (v : ℕ) → v < 360 → Each Row (s ∷ ss) → raised s.id (map (to_bits binary32) s.row) (kept_of ss) v ≡ entry_of v (shown v (s ∷ ss))
    turn v h (more r rs) =
        let bits = map (to_bits binary32) s.row in
        let mine : get_or bits v 0 ≡ to_bits binary32 (number_at v s) =
        in_list bits v 0 (to_bits binary32 nan) (omega (arith, length-map s.row (to_bits binary32), r.whole)) ∙ get_or-map (to_bits binary32) s.row v nan in
        ap (λ (b : ℕ). better_of (entry b s.id) (entry_in (kept_of ss) v)) mine
        ∙ ap (better_of (entry_of v s)) (kept_entry ss v h)
        ∙ one_better v h s ss (each-fit v h k.rows k.ok) k.ok

-- with one gone
pub kept-fewer : (id : ℕ) (ss : List Station) → OnAir ss → kept_by (renewed id (without id ss) (kept_of ss)) ≡ kept_of (without id ss)
kept-fewer id ss k = by-same turn ∙ sym (kept_by_lem (without id ss))
  where
    turn : (v : ℕ) → v < 360 → renewed id (without id ss) (kept_of ss) v ≡ entry_of v (shown v (without id ss))
    turn v h =
        let was = kept_entry ss v h in
        rw (ap (λ (e : Entry). e.id) was, ap (λ (e : Entry). e.bits) was) (go (eqb (shown v ss).id id) refl)
      where
        go : (t : Bool) → eqb (shown v ss).id id ≡ t → cond t (entry_of v (shown v (without id ss))) (entry_of v (shown v ss)) ≡ entry_of v (shown v (without id ss))
        go true e = refl
        go false e = ap (entry_of v) (sym (shown-stays v id ss (each-fit v h k.rows k.ok) k.ok e))

-- what is shown of what is kept
pub numbers-kept : (ss : List Station) → OnAir ss → up_to (λ (v : ℕ). of_bits binary32 (get_or (kept_of ss) v 0)) 360 ≡ numbers_shown ss
unfolding numbers_shown
numbers-kept ss k =
    up_to-same 360 (λ v h.
    ap (λ (e : Entry). of_bits binary32 e.bits) (kept_entry ss v h)
    ∙ of_bits-to_bits binary32 (number_at v (shown v ss)) (shown-held v h ss (each-fit v h k.rows k.ok) k.ok))

pub ids_kept : (ss : List Station) → up_to (λ (v : ℕ). get_or (kept_of ss) (360 + v) 0) 360 ≡ ids_shown ss
unfolding ids_shown
ids_kept ss = up_to-same 360 (λ v h. ap (λ (e : Entry). e.id) (kept_entry ss v h))

-- ---- place by place

ok-to : (air : List ℕ) (n k : ℕ) → k ≤ n → stations_ok (stations_to air n) ≡ true → stations_ok (stations_to air k) ≡ true
unfolding stations_to
ok-to air zero k h ok = let e : k ≡ 0 = omega arith in rw e ok
ok-to air (suc n) k h ok =
    ⊎_elim
    (λ (e : k ≡ suc n). rw e ok)
    (λ (l : k < suc n). ok-to air n k (omega arith) (own (station_at air n) (stations_to air n) ok).0)
    (eq-or-lt_of_le h)

module _ (air : List ℕ) (u : U32s air) (size : length air ≡ air_size) (n : ℕ) (few : n ≤ 16) (ok : stations_ok (stations_to air n) ≡ true) where
  pub on_air_to : (k : ℕ) → k ≤ n → OnAir (stations_to air k)
  on_air_to k h = record { rows = rows-read air u size k (omega arith); few = rw (stations_length air k) (omega arith); ok = ok-to air n k h ok }

  -- a place more
  pub kept-place : (k : ℕ) → k < n → kept_by (raised (get_or air (1 + 361 * k) 0) (take 360 (drop (2 + 361 * k) air)) (kept_of (stations_to air k))) ≡ kept_of (stations_to air (suc k))
  unfolding stations_to station_at
  kept-place k h =
      let on = on_air_to (suc k) h in
      let o = own (station_at air k) (stations_to air k) on.ok in
      ap (λ (bits : List ℕ). kept_by (raised (get_or air (1 + 361 * k) 0) bits (kept_of (stations_to air k)))) (sym (bits-read air u size (2 + 361 * k) (omega arith) o.1.numbers))
      ∙ kept_more (station_at air k) (stations_to air k) on

  -- and at an azimuth
  pub shown-place : (v : ℕ) → v < 360 → (k : ℕ) → k < n
      → better_of (entry_at air k v) (entry_of v (shown v (stations_to air k))) ≡ entry_of v (shown v (stations_to air (suc k)))
  unfolding stations_to station_at
  shown-place v low k h =
      let on = on_air_to (suc k) h in
      let s = station_at air k in
      let ss = stations_to air k in
      let o = own s ss on.ok in
      let at = 2 + 361 * k in
      let room : at + 360 ≤ length air = omega arith in
      let read = number_read air at room v low in
      let ended = ap finite (sym read) ∙ finite-at (row_in air at) v o.1.numbers (omega (arith, row-length air at room)) in
      let bits : get_or air (at + v) 0 ≡ to_bits binary32 (number_at v s) = sym (ap (to_bits binary32) read ∙ bits_back (get_or air (at + v) 0) (u (at + v)) ended) in
      ap (λ (b : ℕ). better_of (entry b s.id) (entry_of v (shown v ss))) bits ∙ one_better v low s ss (each-fit v low on.rows on.ok) on.ok

  -- a place more, where the one gone was shown
  pub renewed-place : (gone : ℕ) (kept : List ℕ) (k : ℕ) → k < n
      → kept_by (raised_vacated gone kept (get_or air (1 + 361 * k) 0) (take 360 (drop (2 + 361 * k) air)) (kept_by (renewed gone (stations_to air k) kept)))
      ≡ kept_by (renewed gone (stations_to air (suc k)) kept)
  renewed-place gone kept k h = by-same turn
    where
      turn : (v : ℕ) → v < 360
          → raised_vacated gone kept (get_or air (1 + 361 * k) 0) (take 360 (drop (2 + 361 * k) air)) (kept_by (renewed gone (stations_to air k) kept)) v
          ≡ renewed gone (stations_to air (suc k)) kept v
      turn v low =
          let at = 2 + 361 * k in
          let id = get_or air (1 + 361 * k) 0 in
          let bits = get_or-take 360 (drop at air) v 0 low ∙ get_or-drop at air v 0 in
          ap (λ (e : Entry). cond (eqb (get_or kept (360 + v) 0) gone) (better_of (entry (get_or (take 360 (drop at air)) v 0) id) e) e) (by-entry (renewed gone (stations_to air k) kept) v low)
          ∙ ap (λ (b : ℕ). cond (eqb (get_or kept (360 + v) 0) gone) (better_of (entry b id) (renewed gone (stations_to air k) kept v)) (renewed gone (stations_to air k) kept v)) bits
          ∙ go (eqb (get_or kept (360 + v) 0) gone)
        where
          go : (t : Bool)
              → let old = cond t (entry_of v (shown v (stations_to air k))) (entry_in kept v) in
              cond t (better_of (entry_at air k v) old) old ≡ cond t (entry_of v (shown v (stations_to air (suc k)))) (entry_in kept v)
          go true = shown-place v low k h
          go false = refl
