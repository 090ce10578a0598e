-- `extremes_over` compares one level a turn.
use mathlib.Core.Path.{◌≡◌}
use mathlib.Core.List.{foldl, map}
use lib.ListN.{take}
use lib.Ieee.{binary32, of_bits}
use Rattle.levels.specs.Shown.{greater, lesser}
use Rattle.levels.proofs.extremes.extremes_over.Given as goal

abbrev pub invariant-loop-w : goal.invariant-loop-w
invariant-loop-w l = (l.greatest ≡ foldl greater l.initial.greatest (map (of_bits binary32) (take l.w-index l.levels))) × (l.least ≡ foldl lesser l.initial.least (map (of_bits binary32) (take l.w-index l.levels)))
