-- Who is on after a call: a board's stations stay a board's. Assumes nothing.
use mathlib.Core.Path.{◌≡◌, refl, sym, subst}
use mathlib.Core.Bool.{Bool, true, false, cond}
use mathlib.Core.List.{List, [], ◌∷◌}
use Prim.Native.Nat.{ℕ, suc, ◌≤◌, ◌<◌}
use native.Mathlib.Omega.{arith}
use lib.ListN.{length}
use lib.Dec.{T, ltb, eqb}
use lib.Ieee.{Float}
use borrow.Author.Tests.{ltb-false}
use Rattle.floats.proofs.Tests.{finite-at}
use Rattle.board_air.specs.Stations.{Station, station}
use Rattle.board_air.specs.Runs.{Call, join, leave, F32s, Made, on, refusal_of, without, accepted, after}
use Rattle.board_air.specs.Words.{station_ok, stations_ok}
use Rattle.board_air.proofs.Tests.{neither}
use Rattle.board_air.proofs.Each.{Each, none, more}
use Rattle.board_air.proofs.Ranks.{Fit}
use Rattle.board_air.proofs.Good.{Own, own, id-low}
use Rattle.board_anew.proofs.Answers.{MayJoin, may_join}
use Rattle.board_air.proofs.Airs.{Row, OnAir}

-- ---- one more

stations_ok_lem : (s : Station) (ss : List Station) → stations_ok ss ≡ true → Own s ss → stations_ok (s ∷ ss) ≡ true
unfolding stations_ok station_ok
stations_ok_lem s ss ok o = rw (ok, o.id, o.new, o.numbers)

pub one_more : (id : ℕ) (row : List Float) {ss : List Station} → F32s row → OnAir ss → MayJoin true ss id row → OnAir (station id row ∷ ss)
one_more id row {ss} held k m = record {
  rows = more (record { whole = m.whole; held = held }) k.rows;
  few = m.room;
  ok = stations_ok_lem (station id row) ss k.ok (record { id = m.known; new = m.new; numbers = m.numbers });
}

-- ---- one fewer

module _ (id : ℕ) where
  pub each-without : {P : Station → Type 0} {ss : List Station} → Each P ss → Each P (without id ss)
  unfolding without
  each-without none = none
  each-without {P} (more {s} {ss} r rs) = go (eqb s.id id) (each-without rs)
    where
      go : (t : Bool) → Each P (without id ss) → Each P (cond t (without id ss) (s ∷ without id ss))
      go true below = below
      go false below = more r below

  fewer-without : (ss : List Station) → length (without id ss) ≤ length ss
  unfolding without
  fewer-without [] = omega arith
  fewer-without (s ∷ ss) = go (eqb s.id id) (fewer-without ss)
    where
      go : (t : Bool) → length (without id ss) ≤ length ss → length (cond t (without id ss) (s ∷ without id ss)) ≤ suc (length ss)
      go true below = omega arith
      go false below = omega arith

  off_without : (i : ℕ) (ss : List Station) → on i ss ≡ false → on i (without id ss) ≡ false
  unfolding on without
  off_without i [] h = refl
  off_without i (s ∷ ss) h = let p = neither (eqb s.id i) (on i ss) h in go (eqb s.id id) p.0 (off_without i ss p.1)
    where
      go : (t : Bool) → eqb s.id i ≡ false → on i (without id ss) ≡ false → on i (cond t (without id ss) (s ∷ without id ss)) ≡ false
      go true e below = below
      go false e below = rw (e, below)

  pub ok-without : (ss : List Station) → stations_ok ss ≡ true → stations_ok (without id ss) ≡ true
  unfolding without
  ok-without [] h = h
  ok-without (s ∷ ss) h = let o = own s ss h in go (eqb s.id id) o.1 (ok-without ss o.0)
    where
      go : (t : Bool) → Own s ss → stations_ok (without id ss) ≡ true → stations_ok (cond t (without id ss) (s ∷ without id ss)) ≡ true
      go true o below = below
      go false o below = stations_ok_lem s (without id ss) below (record { id = o.id; new = off_without s.id ss o.new; numbers = o.numbers })

  pub one_fewer : {ss : List Station} → OnAir ss → OnAir (without id ss)
  one_fewer {ss} k = record { rows = each-without k.rows; few = omega (arith, fewer-without ss, k.few); ok = ok-without ss k.ok }

-- ---- a call

pub on_air_after : {ss : List Station} (c : Call) → Made c → OnAir ss → OnAir (after ss c)
unfolding after accepted refusal_of
on_air_after {ss} c m k = go (ltb 0 (refusal_of ss c)) refl
  where
    taken : (d : Call) → Made d → refusal_of ss d ≡ 0 → OnAir (accepted ss d)
    taken (join id row) held e = one_more id row held k (may_join true ss id row e)
    taken (leave id) held e = one_fewer id k

    go : (t : Bool) → ltb 0 (refusal_of ss c) ≡ t → OnAir (cond t ss (accepted ss c))
    go true e = k
    go false e = let none_over = ltb-false 0 (refusal_of ss c) e in taken c m (omega arith)

-- ---- their ranks count

pub each-fit : (v : ℕ) → v < 360 → {ss : List Station} → Each Row ss → stations_ok ss ≡ true → Each (Fit v) ss
each-fit v h none ok = none
each-fit v h (more {s} {ss} r rs) ok =
    let o = own s ss ok in
    let ended = subst T (sym (finite-at s.row v o.1.numbers (omega (arith, r.whole)))) tt in
    more (record { number = record { held = r.held v; ended = ended }; low = id-low s.id o.1.id }) (each-fit v h rs o.0)
