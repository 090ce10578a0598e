-- `antenna_words::counts::counts_at` meets its contract.
use Rattle.std.proofs.Common.{◌+◌, of_calls}
use Prim.Native.Nat.{ℕ}
use lib.ListN.{get_or}
use Rattle.words.specs.Patterns.{part}
use Rattle.floats.proofs.Filled.{list_from}
use Rattle.packed.proofs.Parts.{part_length, part_at}
use Rattle.antenna_words.proofs.counts.counts_at.Goals as goal

pub returns : goal.returns
returns g c =
    let ws = c.args.words.now in
    let at = c.args.at in
    let n = g.row.N in
    list_from {v = λ (k : ℕ). get_or ws (at + k) 0} c.from_fn.ensures.items (search of_calls) (search of_calls) 0 (part ws at n) (part_length ws at n c.requires) (λ k l. part_at ws at n k 0 l)
