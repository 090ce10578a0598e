-- `run_count`, a word a turn: n words stand before `at`. Assumes nothing.
use Prim.Native.Nat.{◌<◌}
use native.Mathlib.Omega.{arith}
use lib.ListN.{length}
use Rattle.lines.proofs.Starts.{starts_first, starts_next, starts_further, starts_some, starts_end}
use Rattle.lines.proofs.run_count.Goals as goal

pub loop-at-init : goal.loop-at-init
loop-at-init c = (rw c.run_end-at.ensures (starts_first c.args.s.now), omega arith, omega arith)

pub loop-at-smaller : goal.loop-at-smaller
loop-at-smaller c = let s = c.args.s.now in
    let loop = c.loop-at in
    omega (arith, starts_further s loop.n loop.at loop.invariant.0 c.loop-at-test.true, c.next_word-at.ensures)

pub loop-at-preserved : goal.loop-at-preserved
loop-at-preserved c = let s = c.args.s.now in
    let loop = c.loop-at in
    let h : loop.at < length s = c.loop-at-test.true in (
      rw c.next_word-at.ensures (starts_next s loop.n loop.at loop.invariant.0),
      omega (arith, starts_further s loop.n loop.at loop.invariant.0 h, c.next_word-at.ensures),
      omega (arith, starts_some s loop.n loop.at loop.invariant.0 h),
    )

pub returns : goal.returns
returns c = let s = c.args.s.now in
    let loop = c.loop-at in
    omega (arith, starts_end s loop.n loop.at loop.invariant.0 (omega arith))
