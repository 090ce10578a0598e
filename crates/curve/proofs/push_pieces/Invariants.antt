-- `curve::push_pieces` meets its contract: the pieces so far, of 48 bytes at most each. Assumes nothing.
use Prim.Native.Nat.{◌*◌}
use mathlib.Core.Path.{◌≡◌}
use Rattle.words.specs.Writing.{Put}
use Rattle.curve.specs.Curve.{before, drawn, spot_of, pieces_to}
use Rattle.curve.proofs.push_pieces.Given as goal

abbrev pub invariant-loop-v : goal.invariant-loop-v
invariant-loop-v g l =
    (l.earlier ≡ before (drawn l.row.kinds l.fold l.stroke) l.v) × Put (48 * l.v) l.initial.page (pieces_to (drawn l.row.kinds l.fold l.stroke) (spot_of l.row.numbers l.peak) l.v) l.page
