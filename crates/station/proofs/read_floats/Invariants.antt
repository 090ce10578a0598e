-- `station::read_floats` meets its contract: the floats so far are finite, and stand over the blank station's. Assumes nothing.
use mathlib.Core.Path.{◌≡◌}
use mathlib.Core.Bool.{true}
use mathlib.Core.List.{List}
use lib.ListN.{replicate}
use lib.Seq.{paste}
use lib.Ieee.{Float, binary32, of_bits}
use Rattle.floats.specs.Ranges.{finite_to}
use Rattle.station.specs.Record.{floats_in, station_of}
use Rattle.station.proofs.read_floats.Given as goal

abbrev pub blanks : List Float
blanks = replicate 56 (of_bits binary32 0)

abbrev pub invariant-loop-k : goal.invariant-loop-k
invariant-loop-k l = record {
  finite : finite_to (floats_in l.header l.bytes) l.k ≡ true;
  station : l.station ≡ station_of l.mode (paste blanks 0 (floats_in l.header l.bytes) l.k);
}
