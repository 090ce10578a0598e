-- `row_at`, by the calls of its test. Assumes nothing.
use Rattle.std.proofs.Common.{rules}
use Rattle.fields.specs.Table.{LAST, is_row_at, row_at}
use Rattle.fields.proofs.Least.{least_is}
use Rattle.fields.proofs.table.row_at.Goals as goal

pub returns : goal.returns
unfolding row_at
returns c = (least_is (is_row_at c.args.kind c.args.p) _ LAST _ (λ i b h p. search rules) c.least.ensures, c.least.ensures.within)
