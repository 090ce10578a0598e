-- Document 02, card 9: the sum by which a table is known to be an antenna's. Definitions only.
use Rattle.std.specs.Prelude.{ℕ, ◌+◌, ◌%◌, ◌^◌, Bool, List, [], ◌∷◌, take, ◌==◌, Float}
use Rattle.words.specs.Patterns.{bits}
use Rattle.model.specs.Table.{table_size}
use Rattle.antenna.specs.declared.record.Antenna.{Antenna}

-- words added up
unfoldable pub total : List ℕ → ℕ
total [] = 0
total (w ∷ ws) = w + total ws

-- "the wrapping 32-bit sum of the bit patterns of all 11,284 table floats, any NaN counted as 7FC00000", which is how `bits` writes
-- a NaN; floats past them don't count
unfoldable pub table_sum : List Float → ℕ
table_sum t = total (bits (take table_size t)) % 2 ^ 32

-- whether a table is the antenna's, by the sum that set-up left in the record
abbrev pub own_table : Antenna → List Float → Bool
own_table a t = table_sum t == a.sum
