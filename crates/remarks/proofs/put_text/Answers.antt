-- `remarks::put_text` meets its contract: a request that is refused has no remark. Assumes nothing.
use mathlib.Core.Path.{sym}
use Rattle.words.proofs.Writing.{put_none}
use Rattle.remarks.proofs.Steps.{remarked_refused, remarks_of_request}
use Rattle.remarks.proofs.put_text.Goals as goal

pub returns-in-Err : goal.returns-in-Err
returns-in-Err g c =
    let told = rw c.blank_table-table.ensures at c.in-Err.ensures.result_value in
    rw (remarks_of_request, remarked_refused _ _ _ (sym told)) (put_none 256 _)
