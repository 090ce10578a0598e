-- `plate_row::row::numbers` meets its contract.
use Prim.Native.Nat.{◌≤◌}
use mathlib.Core.Path.{◌≡◌, refl}
use mathlib.Core.List.{List}
use lib.Ieee.{Float, of_bits, of_int}
use Rattle.floats.specs.Ops.{+0, count}
use Rattle.model.specs.declared.record.Model.{Model}
use Rattle.pattern.proofs.GainrelMirror.{gain_rel-mirror}
use Rattle.search.specs.Literals.{west}
use Rattle.antenna.specs.Gain.{number_at}
use Rattle.plate_row.specs.Folded.{Mirrored}
use Rattle.plate_row.proofs.row.numbers.Goals as goal

numbers-mirror : (m : Model) (z6 : Float) (t : List Float) (u giso : Float) → (m.iant ≤ 6) × (m.iant ≤ 4 → m.constants.sl ≡ +0)
    → Mirrored (λ v. number_at m z6 t u (count v) giso)
unfolding number_at
numbers-mirror m z6 t u giso g v h a b = rw (gain_rel-mirror m g.0 g.1 t u v h a b)

at_270 : west ≡ count 270
unfolding of_bits of_int
at_270 = refl

pub returns-then-folds : goal.returns-then-folds
unfolding number_at
returns-then-folds c =
    let grounds = c.folds.ensures c.if-folds.true in
    c.folded.ensures _ (numbers-mirror _ _ _ _ _ grounds) c.filled-half.ensures
    (rw (c.decibels-west.ensures, c.relative_gain.ensures, at_270))
