-- A blank table has all its floats.
use mathlib.Core.Path.{◌≡◌}
use lib.ListN.{length, length-replicate}
use Rattle.floats.specs.Ops.{+0}
use Rattle.model.specs.Table.{table_size, blank_table}

pub blank-length : length blank_table ≡ table_size
unfolding blank_table
blank-length = length-replicate table_size +0
