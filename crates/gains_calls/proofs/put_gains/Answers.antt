-- `put_gains` answers one direction a turn, in two words.
use mathlib.Core.Path.{◌≡◌, sym}
use Prim.Native.Nat.{◌+◌, ◌*◌, ◌/◌, ◌≤◌}
use native.Mathlib.Omega.{arith}
use native.Mathlib.Numerals.{add-one}
use lib.ListN.{length}
use Rattle.antenna.specs.Gain.{gain_of}
use Rattle.floats.specs.Ops.{at}
use Rattle.gains_calls.specs.Gains.{gain_words, gains_to}
use Rattle.gains_calls.proofs.PairsOfWords.{gains_length}
use Rattle.words.proofs.Laid.{laid_none, laid_more, laid-length}
use Rattle.gains_calls.proofs.put_gains.Goals as goal
use Rattle.gains_calls.proofs.put_gains.Goals.{At-loop-k}

pub loop-k-init : goal.loop-k-init
unfolding gains_to
loop-k-init c = laid_none c.args.out.now 4

pub gain_told-gain-requires : goal.gain_told-gain-requires
gain_told-gain-requires c = sym c.requires.1

-- the lent words keep their number
room : (c : At-loop-k) → c.loop-k.k ≤ length c.before.args.directions.now / 2 → length c.loop-k.out ≡ length c.before.args.out.now
room c h =
    let a = c.before.args in
    let k = c.loop-k.k in
    rw c.loop-k.invariant (laid-length a.out.now 4 (gains_to a.ant a.table.now a.giso a.directions.now k) (omega (arith, gains_length a.ant a.table.now a.giso a.directions.now k)))

pub loop-k-preserved : goal.loop-k-preserved
unfolding gains_to
loop-k-preserved c =
    let a = c.args in
    let k = c.loop-k.k in
    let done = gains_to a.ant a.table.now a.giso a.directions.now k in
    let next = gain_words (gain_of a.ant a.table.now (at a.directions.now (2 * k)) (at a.directions.now (2 * k + 1)) a.giso) in
    let n = gains_length a.ant a.table.now a.giso a.directions.now k in
    rw (add-one, c.put_gain.ensures, c.gain_told-gain.ensures, c.loop-k.invariant) (laid_more a.out.now 4 (4 + 2 * k) done next (omega arith) (omega arith))
