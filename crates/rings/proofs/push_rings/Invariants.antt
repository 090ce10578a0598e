-- `rings::push_rings` meets its contract: those so far, of 50 bytes at most each. Assumes nothing.
use Prim.Native.Nat.{◌*◌, ◌≤◌}
use Rattle.words.specs.Writing.{Put}
use Rattle.rings.specs.Rings.{rings_to}
use Rattle.rings.proofs.push_rings.Given as goal

abbrev pub invariant-loop-k : goal.invariant-loop-k
invariant-loop-k g l = (l.k ≤ 7) × Put (50 * l.k) l.initial.page (rings_to l.peak l.k) l.page
