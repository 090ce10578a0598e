-- That what a join and a leave write over the air is what they are to leave there. Assumes nothing.
use mathlib.Core.Path.{◌≡◌}
use mathlib.Core.Bool.{true}
use mathlib.Core.List.{List, ◌∷◌}
use Prim.Native.Nat.{ℕ, ◌+◌, ◌-◌, ◌*◌, ◌<◌}
use lib.ListN.{length, drop, set, replicate}
use Rattle.std.proofs.Common.{Some}
use Rattle.words.specs.Laid.{laid}
use Rattle.board_air.specs.Stations.{Station}
use Rattle.board_air.specs.Runs.{without}
use Rattle.board_air.specs.Words.{U32s, place_of, air_of, count_in, stations_to, stations_on, air_ok}
use Rattle.board_air.specs.Steps.{slot_of}
use Rattle.board_air.proofs.Good.{good}
use Rattle.board_air.proofs.Reading.{stations_length}
use Rattle.board_air.proofs.Airs.{OnAir, air_back, on_air}
use Rattle.board_air.proofs.Moves.{joined, slot-inside, left}

-- ---- the air

module _ (air : List ℕ) (ok : air_ok air ≡ true) where
  pub counted : length (stations_on air) ≡ count_in air
  unfolding stations_on
  counted = stations_length air (count_in air)

  module _ (u : U32s air) where
    on_it : OnAir (stations_on air)
    on_it = on_air air u (good air ok)

    pub enter_left : (s : Station) → length (stations_on air) < 16 → length s.row ≡ 360
        → set (laid air (1 + 361 * count_in air) (place_of s)) 0 (count_in air + 1) ≡ air_of (s ∷ stations_on air)
    enter_left s room whole = rw (air_back air u (good air ok), counted) at (joined s on_it.rows room whole)

    pub remove_slot : (id : ℕ) {slot : ℕ} → slot_of id (stations_to air (count_in air)) ≡ Some slot → slot < count_in air
    unfolding stations_on
    remove_slot id h = rw counted at (slot-inside id on_it.rows on_it.ok h)

    pub remove_left : (id : ℕ) {slot : ℕ} → slot_of id (stations_to air (count_in air)) ≡ Some slot → (m : ℕ) → m ≡ 361
        → let at = 1 + 361 * slot in
        set (laid (laid air at (drop (at + 361) air)) 5416 (replicate m 0)) 0 (count_in air - 1) ≡ air_of (without id (stations_on air))
    unfolding stations_on
    remove_left id h m e = rw (air_back air u (good air ok), counted) at (left id m on_it h e)
