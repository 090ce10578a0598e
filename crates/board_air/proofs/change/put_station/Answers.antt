-- `board_air::change::put_station` meets its contract.
use mathlib.Core.Path.{ap, ◌∙◌}
use mathlib.Core.List.{List, [], ◌∷◌, map}
use Prim.Native.Nat.{ℕ, ◌+◌}
use lib.ListN.{length-set}
use lib.Ieee.{binary32, to_bits}
use Rattle.words.specs.Laid.{laid}
use Rattle.words.proofs.Laid.{laid_one, laid_more}
use native.Mathlib.Omega.{arith}
use Rattle.board_air.proofs.change.put_station.Goals as goal

pub shape_of-words : goal.shape_of-words
shape_of-words c = c.put_bits.auto.out ∙ simp length-set

pub returns : goal.returns
returns c =
    let a = c.args in
    let bits = map (to_bits binary32) a.row.now in
    c.put_bits.ensures
    ∙ ap (λ (l : List ℕ). laid l (a.at + 1) bits) (laid_one a.words.now a.at a.id (omega arith))
    ∙ laid_more a.words.now a.at (a.at + 1) (a.id ∷ []) bits (omega arith) (omega arith)
