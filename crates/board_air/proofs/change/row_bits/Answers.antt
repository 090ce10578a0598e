-- `board_air::change::row_bits` meets its contract.
use Rattle.std.proofs.Common.{◌∙◌, arith, of_calls}
use Rattle.std.proofs.lemmas.List.{get_or-map}
use mathlib.Core.List.{map}
use Prim.Native.Nat.{ℕ}
use lib.ListN.{get_or, length-map}
use lib.Ieee.{binary32, nan, to_bits}
use Rattle.floats.proofs.Filled.{list_from}
use Rattle.board_air.proofs.change.row_bits.Goals as goal

pub returns : goal.returns
returns c =
    let row = c.args.row.now in
    let f = to_bits binary32 in
    list_from {v = λ (k : ℕ). f (get_or row k nan)} c.from_fn.ensures.items (search of_calls) (search of_calls) 0 (map f row) (length-map row f ∙ c.requires)
    (λ k l. get_or-map f row k nan 0 (omega (arith, c.requires)))
