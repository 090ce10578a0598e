-- `station_in`, a place a turn: the places so far are filled. Assumes nothing.
use mathlib.Core.List.{List}
use lib.Ieee.{Float}
use Rattle.station.specs.declared.Station.{Station}
use mathlib.Core.Path.{◌≡◌, ap, ◌∙◌}
use Prim.Native.Nat.{ℕ, suc}
use native.Mathlib.Omega.{arith}
use native.Mathlib.Numerals.{add-one}
use lib.ListN.{set}
use Rattle.floats.specs.Filled.{filled_to}
use Rattle.station.specs.Record.{floats_of, station_of, zeros}
use Rattle.station.proofs.Arrays.{floats-back}
use Rattle.card.specs.Card.{card_of}
use Rattle.card.specs.Places.{placed, station_in}
use Rattle.card.proofs.places.station_in.Goals as goal

-- one place more
filled_more : (v : ℕ → Float) (m p : ℕ) (s : Station) (x : Float) → s ≡ station_of m (filled_to v 56 p) → x ≡ v p → station_of s.mode (set (floats_of s) p x) ≡ station_of m (filled_to v 56 (suc p))
unfolding filled_to
filled_more v m p s x e q =
    ap (λ (t : Station). station_of t.mode (set (floats_of t) p x)) e
    ∙ ap (λ (fs : List Float). station_of m (set fs p x)) (floats-back m (filled_to v 56 p))
    ∙ ap (λ (y : Float). station_of m (set (filled_to v 56 p) p y)) q

pub loop-p-init : goal.loop-p-init
unfolding zeros filled_to
loop-p-init c = c.blank-station.ensures

pub loop-p-preserved : goal.loop-p-preserved
loop-p-preserved c =
    let l = c.loop-p in
    rw add-one (c.with_float-station.ensures ∙ filled_more (placed c.args.kind (card_of c.args.text.now)) _ l.p l.station _ l.invariant c.placed.ensures)

pub returns : goal.returns
unfolding station_in
returns c =
    let l = c.loop-p in
    let end : l.p ≡ 56 = omega arith in
    rw end at l.invariant
