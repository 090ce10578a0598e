-- `stations_ok`: each place in turn.
use Rattle.std.proofs.Common.{◌∙◌, ℕ, arith, rules, tests, refl}
use Rattle.std.proofs.lemmas.Iterator.{YieldsList-from_range}
use Rattle.std.proofs.lemmas.Iterator.Search.{all_from_yields_List}
use Rattle.board_air.specs.Words.{station_at, stations_to, station_ok}
use Rattle.board_air.proofs.Reading.{stations_all}
use Rattle.board_air.proofs.accepted.stations_ok.Goals as goal

pub returns : goal.returns
returns c =
    let a = c.args in
    let air = a.air.now in
    all_from_yields_List (λ (k : ℕ). station_ok (station_at air k) (stations_to air k)) _ _ _ c.all.ensures.ran (YieldsList-from_range 0 a.n a.n refl (omega arith)) (λ x b q k. search (rules, tests))
    ∙ stations_all air a.n
