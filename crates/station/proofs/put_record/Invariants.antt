-- `station::put_record` meets its contract: the words so far are written, but for the bits that are carried. Assumes nothing.
use mathlib.Core.Path.{◌≡◌}
use Prim.Native.Nat.{ℕ}
use mathlib.Core.List.{List}
use Rattle.model.specs.Limits.{slot}
use Rattle.station.specs.declared.Station.{Station}
use Rattle.station.specs.Header.{width_of, header_of}
use Rattle.station.specs.Record.{words_of}
use Rattle.station.proofs.Packing.{Written}
use Rattle.station.proofs.put_record.Given as goal

-- k words of the record are written
abbrev pub WrittenOf : ℕ → Station → List ℕ → ℕ → ℕ → Type 0
WrittenOf edition s out carry k = Written (width_of edition) (header_of edition s.mode (slot s.parm 1)) (words_of s) out carry k

abbrev pub invariant-loop-k : goal.invariant-loop-k
invariant-loop-k l = (l.header ≡ width_of l.edition) × WrittenOf l.edition l.s l.out l.carry l.k
