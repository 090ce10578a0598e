-- `dbi_text::lines::push_entries` meets its contract: the lines so far, and one more. Assumes nothing.
use native.Mathlib.Omega.{arith}
use native.Mathlib.Numerals.{add-one}
use Rattle.words.proofs.Writing.{put_none, put_two}
use Rattle.shown.specs.InOrder.{up_to}
use Rattle.dbi_text.specs.Dbi.{lines_from}
use Rattle.dbi_text.proofs.Growing.{lines_more}
use Rattle.dbi_text.proofs.lines.push_entries.Goals as goal

pub loop-v-init : goal.loop-v-init
unfolding lines_from up_to
loop-v-init g c = put_none 0 _

pub loop-v-preserved : goal.loop-v-preserved
loop-v-preserved g c = rw add-one (put_two c.loop-v.invariant c.push_entry.ensures (lines_more _ _) (omega arith))
