-- `board_air::change::enter` meets its contract.
use mathlib.Core.Path.{ap, ◌∙◌}
use mathlib.Core.List.{List}
use Prim.Native.Nat.{ℕ, ◌+◌, ◌<◌}
use lib.ListN.{set}
use Rattle.board_air.specs.Stations.{station}
use Rattle.board_air.specs.Words.{count_in}
use Rattle.board_air.proofs.Good.{Good, good}
use Rattle.board_air.proofs.Changes.{counted, enter_left}
use native.Mathlib.Omega.{arith}
use Rattle.board_air.proofs.change.enter.Goals as goal
use Rattle.board_air.proofs.change.enter.Goals.{Start}

known : (s : Start) → Good s.args.air.now
known s = good s.args.air.now s.requires.0

room : (s : Start) → count_in s.args.air.now < 16
room s = rw (counted s.args.air.now s.requires.0) at s.requires.1

pub bounds-air-0 : goal.bounds-air-0
bounds-air-0 c = omega (arith, (known (goal.at.bounds-air-0 c).Start).size)

pub overflow_cast-n : goal.overflow_cast-n
overflow_cast-n c = omega (arith, c.type_inv.air 0)

pub overflow_mul-n : goal.overflow_mul-n
overflow_mul-n c = omega (arith, room (goal.at.overflow_mul-n c).Start)

pub overflow_add-n : goal.overflow_add-n
overflow_add-n c = omega (arith, room (goal.at.overflow_add-n c).Start)

pub put_station-requires : goal.put_station-requires
put_station-requires c = omega (arith, (known (goal.at.put_station-requires c).Start).size, room (goal.at.put_station-requires c).Start, c.requires.2)

pub overflow_cast-air : goal.overflow_cast-air
overflow_cast-air c = omega (arith, room (goal.at.overflow_cast-air c).Start)

pub overflow_add-air : goal.overflow_add-air
overflow_add-air c = omega (arith, room (goal.at.overflow_add-air c).Start)

pub bounds-air-0-2 : goal.bounds-air-0-2
bounds-air-0-2 c = omega (arith, (known (goal.at.bounds-air-0-2 c).Start).size, c.put_station.auto.words)

pub returns : goal.returns
returns c =
    let s = c in
    let a = s.args in
    ap (λ (l : List ℕ). set l 0 (count_in a.air.now + 1)) c.put_station.ensures
    ∙ enter_left a.air.now s.requires.0 (λ i. (c.slice_known-2-1.given i).fits) (station a.id a.row.now) s.requires.1 s.requires.2
