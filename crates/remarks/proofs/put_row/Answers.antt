-- `remarks::put_row` meets its contract: a row that is refused has no remark. Assumes nothing.
use mathlib.Core.Path.{sym}
use Rattle.words.proofs.Writing.{put_none}
use Rattle.remarks.proofs.Steps.{remarked_refused, remarks_of_row}
use Rattle.remarks.proofs.put_row.Goals as goal

pub returns-in-Err : goal.returns-in-Err
returns-in-Err g c = rw (remarks_of_row, remarked_refused _ _ _ (sym c.in-Err.ensures)) (put_none 256 _)
