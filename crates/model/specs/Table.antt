-- The lent table of document 01, part 7: `ww1`, `ww2`, `ww3`, `ww4` in turn, each by elevation 0 to 90, then element 0 to 30. Definitions only.
use Rattle.std.specs.Prelude.{ℕ, ◌+◌, ◌*◌, List, replicate, Float}
use Rattle.floats.specs.Ops.{+0}

-- its floats
abbrev pub table_size : ℕ
table_size = 11284

-- one that nothing has filled
unfoldable pub blank_table : List Float
blank_table = replicate table_size +0

-- where part w (0 to 3) has elevation u and element i
abbrev pub cell : ℕ → ℕ → ℕ → ℕ
cell w u i = (w * 91 + u) * 31 + i
