-- What is known of words that are the air of a board. Assumes nothing.
use mathlib.Core.Path.{◌≡◌}
use mathlib.Core.Bool.{true, false, not, ◌&&◌}
use mathlib.Core.List.{List, ◌∷◌}
use Prim.Native.Nat.{ℕ, ◌+◌, ◌*◌, ◌≤◌, ◌<◌}
use lib.ListN.{length, drop}
use lib.Dec.{ltb, leb, eqb}
use borrow.Author.Tests.{eqb-true, ltb-true, leb-true, not-true}
use Rattle.floats.specs.Ranges.{all_finite}
use Rattle.floats.proofs.Tests.{both}
use Rattle.board_air.specs.Stations.{Station}
use Rattle.board_air.specs.Runs.{on, is_id}
use Rattle.board_air.specs.Words.{air_size, count_in, stations_to, stations_on, station_ok, stations_ok, blank, air_ok}

-- a station that is on beside others
pub record Own (s : Station) (others : List Station) : Type 0 where
  pub id : is_id s.id ≡ true
  pub new : on s.id others ≡ false
  pub numbers : all_finite s.row ≡ true

pub own : (s : Station) (ss : List Station) → stations_ok (s ∷ ss) ≡ true → (stations_ok ss ≡ true) × Own s ss
unfolding stations_ok station_ok
own s ss h =
    let p = both (stations_ok ss) (is_id s.id && not (on s.id ss) && all_finite s.row) h in
    let q = both (is_id s.id && not (on s.id ss)) (all_finite s.row) p.1 in
    let r = both (is_id s.id) (not (on s.id ss)) q.0 in
    (p.0, record { id = r.0; new = not-true (on s.id ss) r.1; numbers = q.1 })

-- an id fits in 16 bits
pub id-low : (id : ℕ) → is_id id ≡ true → id ≤ 65535
unfolding is_id
id-low id h = leb-true id 65535 (both (ltb 0 id) (leb id 65535) h).1

pub id-some : (id : ℕ) → is_id id ≡ true → 0 < id
unfolding is_id
id-some id h = ltb-true 0 id (both (ltb 0 id) (leb id 65535) h).0

pub record Good (air : List ℕ) : Type 0 where
  pub size : length air ≡ air_size
  pub few : count_in air ≤ 16
  pub ok : stations_ok (stations_to air (count_in air)) ≡ true
  pub rest : blank (drop (1 + 361 * count_in air) air) ≡ true

pub good : (air : List ℕ) → air_ok air ≡ true → Good air
unfolding air_ok stations_on
good air h =
    let n = count_in air in
    let p = both (eqb (length air) air_size && leb n 16) (stations_ok (stations_to air n) && blank (drop (1 + 361 * n) air)) h in
    let q = both (eqb (length air) air_size) (leb n 16) p.0 in
    let r = both (stations_ok (stations_to air n)) (blank (drop (1 + 361 * n) air)) p.1 in
    record { size = eqb-true (length air) air_size q.0; few = leb-true n 16 q.1; ok = r.0; rest = r.1 }
