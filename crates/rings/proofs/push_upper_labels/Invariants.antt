-- `rings::push_upper_labels` meets its contract: those so far, of 50 bytes at most each. Assumes nothing.
use Prim.Native.Nat.{◌*◌, ◌≤◌}
use Rattle.words.specs.Writing.{Put}
use Rattle.rings.specs.Rings.{labels_to}
use Rattle.rings.proofs.push_upper_labels.Given as goal

abbrev pub invariant-loop-k : goal.invariant-loop-k
invariant-loop-k g l = (l.k ≤ 6) × Put (50 * l.k) l.initial.page (labels_to l.inner l.peak l.k) l.page
