-- `packed::arrays::floats_in` meets its contract.
use Rattle.std.proofs.Common.{◌∙◌, ◌+◌, arith, of_calls}
use Prim.Native.Nat.{ℕ}
use lib.ListN.{get_or, length-map, get_or-map}
use lib.Ieee.{binary32, of_bits}
use Rattle.words.specs.Patterns.{floats, part}
use Rattle.floats.proofs.Filled.{list_from}
use Rattle.packed.proofs.Parts.{part_length, part_at}
use Rattle.packed.proofs.arrays.floats_in.Goals as goal

pub returns : goal.returns
returns g c =
    let ws = c.args.words.now in
    let at = c.args.at in
    let n = g.row.N in
    let d = of_bits binary32 0 in
    list_from {v = λ (k : ℕ). of_bits binary32 (get_or ws (at + k) 0)} c.from_fn.ensures.items (search of_calls) (search of_calls) d (part (floats ws) at n)
    (part_length (floats ws) at n (omega (arith, length-map ws (of_bits binary32), c.requires)))
    (λ k l. part_at (floats ws) at n k d l ∙ get_or-map (of_bits binary32) ws (at + k) 0)
